-- What a request draws: few bytes, and those that a tape tells.
use Rattle.std.proofs.Common.{◌≡◌, ℕ, ◌+◌, ◌-◌, ◌≤◌, Bool, true, false, not, ◌&&◌, if◌then◌else◌, nat_lt, List, [], ◌∷◌, length, map, Option, Some, None, IfSome, Result, Ok, Err, refl, sym, ap, subst, ◌∙◌, arith}
use Rattle.std.proofs.lemmas.List.{length-append}
use Rattle.std.specs.Borrow.{GName}
use Rattle.dp_base.specs.Draws.{DrawState, Lender, Draws, gave, gave_by, taped}
use Rattle.dp_base.specs.declared.want.Memory.{Memory}
use Rattle.dp_base.proofs.Draws.{Draws-none, Draws-both, gave-short}
use Rattle.dp_base.specs.declared.alg.Alg.{Alg}
use Rattle.dp_base.specs.declared.alg.Alg.TheVariants.{Cbc256, Cbc512, Gcm}
use Rattle.key_elements.specs.declared.element.Element.{Element}
use Rattle.key_elements.specs.declared.element.KeyRecord.{KeyRecord}
use Rattle.key_ring.specs.Ring.{RingOf, default_key}
use Rattle.dp_protector.specs.declared.protect.TheConstants.{MAX_PLAIN}
use Rattle.dp_protector.specs.declared.text.TheConstants.{MAX_TEXT}
use Rattle.dp_protector.specs.declared.timed.TheConstants.{MAX_TIMED}
use Rattle.dp_protector.specs.Algorithms.{alg_of}
use Rattle.dp_protector.specs.Protect.{draw_len, draw_len_for, draw_len_under}
use Rattle.ring_world.specs.declared.step.Step.{Step}
use Rattle.ring_world.specs.declared.step.Step.TheVariants.{Give, Appended, AppendFull, AppendFailed, WentBack}
use Rattle.ring_world.specs.Course.{Course, closed, drawn_count, holds, IsFront}
use Rattle.ring_world.specs.Flight.{Refusal, Flown, Broken, Plain, Keyed, Filled, Shrunk, NoRead, ShortRead, NoDraw, NoKeyDraw, NoAppend, ShortAppend}
use Rattle.ring_world.specs.Path.{Call, Path, FirstLookFailed, AtOnce, Stale, Alone, Turned, AloneFailed, AloneShort, Apart, HolderPath, LookFailed, Rests, Parts, Flies, path_course, turn_course}
use Rattle.ring_world.specs.Settle.{Settle, Keeps, Stays, Again, IsSettled, any_reads, lacks_named, settle_course}
use Rattle.ring_world.specs.declared.step.TheConstants.{SECOND_TRY_SPAN}
use Rattle.ring_world.specs.Way as way
use Rattle.ring_world.specs.Way.{Way, Comes, Fails, IsWay, CallPath, way_course, way_end}
use Rattle.ring_world.specs.Placing as placing
use Rattle.ring_world.specs.Placing.{Asked, Placing, Placed, Undrawn, Unplaced, Overfull, Receded, PlacePath, place_course, place_end}
use Rattle.repo_keeper.specs.Store.{Store}
use Rattle.node_calls.proofs.Books.{drawn_count-append}
use Rattle.node_calls.specs.HostState.{HostState}
use Rattle.node_calls.specs.Books.{Books, books, Does, draws_failed}
use Rattle.dp_wire.specs.declared.request.BadRequest.{BadRequest}
use Rattle.dp_wire.specs.Request.{Request, Ring, Roll, Revoke, RevokeBefore, Protect, Unprotect, ProtectText, UnprotectText, ProtectTimed, UnprotectTimed}
use Rattle.dp_answer.specs.declared.response.Response.{Response}
use Rattle.dp_answer.specs.declared.trace.Used.{Used}
use Rattle.dp_answer.specs.declared.trace.Used.TheVariants as used
use Rattle.dp_answer.specs.Needs.{sealed_len}
use Rattle.dp_answer.specs.Serving.{Serves, unread, unstarted, misdated, by_ring, by_place, AnswersByRing, refused, answered, undrawn, stopped, lost, unheard, Served}

path_drawn : (c : Call) (p : Path) → drawn_count (path_course c p).steps ≤ 88
path_drawn c (FirstLookFailed n) = omega arith
path_drawn c (AtOnce s) = omega arith
path_drawn c (Stale s h) = omega arith
path_drawn c (Alone s h es) = omega arith
path_drawn c (Turned s (LookFailed n)) = omega arith
path_drawn c (Turned s (Rests t)) = omega arith
path_drawn c (Turned s (Parts t at)) = omega arith
path_drawn c (Turned s (Flies t (Flown w (Plain es)))) = omega arith
path_drawn c (Turned s (Flies t (Flown w (Keyed es k fs)))) = omega arith
path_drawn c (Turned s (Flies t (Flown w (Filled es k)))) = omega arith
path_drawn c (Turned s (Flies t (Flown w (Shrunk es k got)))) = omega arith
path_drawn c (Turned s (Flies t (Broken NoRead))) = omega arith
path_drawn c (Turned s (Flies t (Broken (ShortRead had got)))) = omega arith
path_drawn c (Turned s (Flies t (Broken (NoDraw es)))) = omega arith
path_drawn c (Turned s (Flies t (Broken (NoKeyDraw es w)))) = omega arith
path_drawn c (Turned s (Flies t (Broken (NoAppend es w k)))) = omega arith
path_drawn c (Turned s (Flies t (Broken (ShortAppend es w k got)))) = omega arith
path_drawn c (AloneFailed s h) = omega arith
path_drawn c (AloneShort s h had got) = omega arith
path_drawn c (Apart s at) = omega arith

turn_drawn : (c : Call) (t : HolderPath) → drawn_count (turn_course c t).steps ≤ 88
turn_drawn c (LookFailed n) = omega arith
turn_drawn c (Rests t) = omega arith
turn_drawn c (Parts t at) = omega arith
turn_drawn c (Flies t (Flown w (Plain es))) = omega arith
turn_drawn c (Flies t (Flown w (Keyed es k fs))) = omega arith
turn_drawn c (Flies t (Flown w (Filled es k))) = omega arith
turn_drawn c (Flies t (Flown w (Shrunk es k got))) = omega arith
turn_drawn c (Flies t (Broken NoRead)) = omega arith
turn_drawn c (Flies t (Broken (ShortRead had got))) = omega arith
turn_drawn c (Flies t (Broken (NoDraw es))) = omega arith
turn_drawn c (Flies t (Broken (NoKeyDraw es w))) = omega arith
turn_drawn c (Flies t (Broken (NoAppend es w k))) = omega arith
turn_drawn c (Flies t (Broken (ShortAppend es w k got))) = omega arith

-- a path that read nothing drew nothing
unread_drawn : (c : Call) (p : Path) → any_reads (path_course c p).steps ≡ false → drawn_count (path_course c p).steps ≡ 0
unread_drawn c (FirstLookFailed n) e = omega arith
unread_drawn c (AtOnce s) e = omega arith
unread_drawn c (Stale s h) e = omega arith
unread_drawn c (Alone s h es) e = omega arith
unread_drawn c (Turned s (LookFailed n)) e = omega arith
unread_drawn c (Turned s (Rests t)) e = omega arith
unread_drawn c (Turned s (Parts t at)) e = omega arith
unread_drawn c (Turned s (Flies t (Flown w (Plain es)))) e = cc
unread_drawn c (Turned s (Flies t (Flown w (Keyed es k fs)))) e = cc
unread_drawn c (Turned s (Flies t (Flown w (Filled es k)))) e = cc
unread_drawn c (Turned s (Flies t (Flown w (Shrunk es k got)))) e = cc
unread_drawn c (Turned s (Flies t (Broken NoRead))) e = omega arith
unread_drawn c (Turned s (Flies t (Broken (ShortRead had got)))) e = omega arith
unread_drawn c (Turned s (Flies t (Broken (NoDraw es)))) e = cc
unread_drawn c (Turned s (Flies t (Broken (NoKeyDraw es w)))) e = cc
unread_drawn c (Turned s (Flies t (Broken (NoAppend es w k)))) e = cc
unread_drawn c (Turned s (Flies t (Broken (ShortAppend es w k got)))) e = cc
unread_drawn c (AloneFailed s h) e = omega arith
unread_drawn c (AloneShort s h had got) e = omega arith
unread_drawn c (Apart s at) e = omega arith

third_of : (a b d : Bool) → (a && b && not d) ≡ true → d ≡ false
third_of a b false e = refl
third_of true true true e = cc
third_of true false true e = cc
third_of false b true e = cc

settled_drawn : (c : Call) (p : Path) (r : RingOf) (x : Settle) → IsSettled c (path_course c p).steps r x → drawn_count (path_course c p).steps + drawn_count (settle_course c x).steps ≤ 88
settled_drawn c p r Keeps is = omega (arith, path_drawn c p)
settled_drawn c p r (Stays h) is = omega (arith, path_drawn c p)
settled_drawn c p r (Again t) is =
    let none = unread_drawn c p (third_of (lacks_named c.missing r.list) (nat_lt c.terms.now (c.opened_at + SECOND_TRY_SPAN)) (any_reads (path_course c p).steps) is.0) in
    omega (arith, none, drawn_count-append (turn_course c t).steps (Give ∷ []), turn_drawn c t)

way_drawn : (c : Call) (w : Way) → IsWay c w → drawn_count (way_course c w).steps ≤ 88
way_drawn c (Comes p r x) is = omega (arith, drawn_count-append (path_course c p).steps (settle_course c x).steps, settled_drawn c p r x is.2)
way_drawn c (Fails p) is = path_drawn c p

answer_drawn : (r : Result RingOf Refusal) → drawn_count (way.answer_steps r) ≡ 0
answer_drawn (Ok r) = refl
answer_drawn (Err why) = refl

placed_drawn : (r : Result (List Element) Refusal) → drawn_count (placing.placed_steps r) ≡ 0
placed_drawn (Ok fs) = refl
placed_drawn (Err why) = refl

front_drawn : (d whole : Course) → IsFront d whole → drawn_count d.steps ≤ drawn_count whole.steps
front_drawn d whole f = omega (arith, ap drawn_count f.steps.1, drawn_count-append d.steps f.steps.0)

given_back_drawn : (d : Course) (b : Bool) → drawn_count (if b then closed d (Give ∷ []) else d).steps ≤ drawn_count d.steps
given_back_drawn d true = omega (arith, drawn_count-append d.steps (Give ∷ []))
given_back_drawn d false = omega arith

call_drawn : (c : Call) (r : Result RingOf Refusal) (own : List Element) (d : Course) → CallPath c r own d → drawn_count d.steps ≤ 88
call_drawn c r own d (way.complete w is line e o s) =
    omega (arith, ap (λ (x : Course). drawn_count x.steps) s, drawn_count-append (way_course c w).steps (way.answer_steps (way_end c w)), answer_drawn (way_end c w), way_drawn c w is)
call_drawn c r own d (way.cut_off w is line e o k) =
    omega (arith, ap (λ (x : Course). drawn_count x.steps) k.given, given_back_drawn k.front (holds false k.front.steps), front_drawn k.front (way_course c w) k.is, way_drawn c w is)

draw_steps_drawn : (b : Bool) → drawn_count (placing.draw_steps b) ≤ 80
draw_steps_drawn true = omega arith
draw_steps_drawn false = omega arith

placing_drawn : (a : Asked) (p : Placing) → drawn_count (place_course a p).steps ≤ 80
placing_drawn a (Placed b fs) = omega (arith, drawn_count-append (placing.draw_steps a.draws) (Appended (length fs - 1) ∷ []), draw_steps_drawn a.draws)
placing_drawn a Undrawn = omega arith
placing_drawn a (Unplaced b) = omega (arith, drawn_count-append (placing.draw_steps a.draws) (AppendFailed ∷ []), draw_steps_drawn a.draws)
placing_drawn a (Overfull b) = omega (arith, drawn_count-append (placing.draw_steps a.draws) (AppendFull ∷ []), draw_steps_drawn a.draws)
placing_drawn a (Receded b got) = omega (arith, drawn_count-append (placing.draw_steps a.draws) (WentBack (length a.own) got ∷ []), draw_steps_drawn a.draws)

place_drawn : (a : Asked) (r : Result ℕ Refusal) (own : List Element) (d : Course) → PlacePath a r own d → drawn_count d.steps ≤ 88
place_drawn a r own d (placing.complete p is e o s) =
    omega (arith, ap (λ (x : Course). drawn_count x.steps) s, drawn_count-append (place_course a p).steps (placing.placed_steps (place_end a p)), placed_drawn (place_end a p), placing_drawn a p)
place_drawn a r own d (placing.cut_off p is e o k) = omega (arith, front_drawn d (place_course a p) k, placing_drawn a p)

-- a payload is made of few bytes drawn
draw_len_for-few : (alg : Option Alg) → draw_len_for alg ≤ 32
draw_len_for-few None = omega arith
draw_len_for-few (Some (Cbc256 size)) = omega arith
draw_len_for-few (Some (Cbc512 size)) = omega arith
draw_len_for-few (Some (Gcm size)) = omega arith

draw_len_under-few : (key : Option KeyRecord) → draw_len_under key ≤ 32
draw_len_under-few None = omega arith
draw_len_under-few (Some key) = draw_len_for-few (alg_of key.alg)

draw_len-few : (ring : RingOf) → draw_len ring ≤ 32
unfolding draw_len
draw_len-few ring = draw_len_under-few (default_key ring.list ring.made_at)

within-few : (b : Bool) (n : ℕ) → n ≤ 32 → (if b then 0 else n) ≤ 32
within-few true n le = omega arith
within-few false n le = le

sealed_len-few : (p : Request) (ring : RingOf) → sealed_len p ring ≤ 32
sealed_len-few (Ring need) ring = omega arith
sealed_len-few (Roll activation expiration code) ring = omega arith
sealed_len-few (Revoke id reason) ring = omega arith
sealed_len-few (RevokeBefore date reason) ring = omega arith
sealed_len-few (Protect need chain plain) ring = within-few (nat_lt MAX_PLAIN (length plain)) (draw_len ring) (draw_len-few ring)
sealed_len-few (Unprotect need allow chain payload) ring = omega arith
sealed_len-few (ProtectText need chain text) ring = within-few (nat_lt MAX_TEXT (length text)) (draw_len ring) (draw_len-few ring)
sealed_len-few (UnprotectText need allow chain text) ring = omega arith
sealed_len-few (ProtectTimed need chain expiry plain) ring = within-few (nat_lt MAX_TIMED (length plain)) (draw_len ring) (draw_len-few ring)
sealed_len-few (UnprotectTimed need allow chain payload) ring = omega arith

module _ (p : Request) (r : Result RingOf Refusal) (u : Used) (bytes : List ℕ) (old new : DrawState) where
  still : bytes ≡ [] → new ≡ old → Draws 0 bytes old new
  still b s = subst (λ (d : DrawState). Draws 0 bytes old d) (sym s) (subst (λ (xs : List ℕ). Draws 0 xs old old) (sym b) (Draws-none old))

  -- what was drawn for a payload
  follows_drew : AnswersByRing p r u bytes old new → (k : ℕ) × Draws k bytes old new
  follows_drew (refused why e k v b s) = (0, still b s)
  follows_drew (answered ring e v n s) = (0, s)
  follows_drew (undrawn ring e k v b s) = (1, subst (λ (xs : List ℕ). Draws 1 xs old new) (sym b) s)
  follows_drew (stopped v b s) = (0, still b s)
  follows_drew (lost ring e v n s) = (0, s)
  follows_drew (unheard ring e k v b s) = (1, subst (λ (xs : List ℕ). Draws 1 xs old new) (sym b) s)

  follows_few : AnswersByRing p r u bytes old new → length bytes ≤ 32
  follows_few (refused why e k v b s) = omega (arith, ap length b)
  follows_few (answered ring e v n s) = omega (arith, n, sealed_len-few p ring)
  follows_few (undrawn ring e k v b s) = omega (arith, ap length b)
  follows_few (stopped v b s) = omega (arith, ap length b)
  follows_few (lost ring e v n s) = omega (arith, n, sealed_len-few p ring)
  follows_few (unheard ring e k v b s) = omega (arith, ap length b)

module _ (q : Result Request BadRequest) (now : ℕ) (u : Used) (drawn : List ℕ) (old new : Books) where
  idle_draws : drawn ≡ [] → new ≡ old → (k : ℕ) × Draws k drawn old.draws new.draws
  idle_draws d e = (0, subst (λ (b : Books). Draws 0 drawn old.draws b.draws) (sym e) (subst (λ (xs : List ℕ). Draws 0 xs old.draws old.draws) (sym d) (Draws-none old.draws)))

  -- what the draw gave to a request
  pub drew : Serves q now u drawn old new → (k : ℕ) × Draws k drawn old.draws new.draws
  drew (unread why e v d same) = idle_draws d same
  drew (unstarted v d same) = idle_draws d same
  drew (misdated p e bad v d same) = idle_draws d same
  drew (by_ring p e needs good r between x bytes d f) =
      let own = follows_drew p r u bytes between new.draws f in
      (_, subst (λ (xs : List ℕ). Draws (draws_failed x.course.steps + own.0) xs old.draws new.draws) (sym d) (Draws-both (draws_failed x.course.steps) own.0 x.course.drawn bytes old.draws between new.draws x.recorded.draws own.1))
  drew (by_place p e good a asks r x d v) = (_, subst (λ (xs : List ℕ). Draws (draws_failed x.course.steps) xs old.draws new.draws) d x.recorded.draws)

  few_drawn : Serves q now u drawn old new → length drawn ≤ 120
  few_drawn (unread why e v d same) = omega (arith, ap length d)
  few_drawn (unstarted v d same) = omega (arith, ap length d)
  few_drawn (misdated p e bad v d same) = omega (arith, ap length d)
  few_drawn (by_ring p e needs good r between x bytes d f) =
      omega (arith, ap length d, length-append x.course.drawn bytes, x.recorded.drawn, call_drawn _ r new.host.own x.course x.is, follows_few p r u bytes between new.draws f)
  few_drawn (by_place p e good a asks r x d v) = omega (arith, ap length d, x.recorded.drawn, place_drawn a r new.host.own x.course x.is)

-- the draw that was lent to this one
abbrev lent_by : DrawState → List Lender → DrawState
lent_by d [] = d
lent_by d (l ∷ ls) = record { coming = d.coming; given = l.given; faults = d.faults; loan = l.loan; lenders = ls }

abbrev lent : DrawState → DrawState
lent d = lent_by d d.lenders

abbrev unlent : Books → Books
unlent b = record b { draws = lent b.draws }

lent_draws : (k : ℕ) (bytes : List ℕ) (old new : DrawState) (ls ms : List Lender) → ms ≡ map (gave_by bytes) ls → Draws k bytes old new → Draws k bytes (lent_by old ls) (lent_by new ms)
lent_draws k bytes old new [] [] e d = d
lent_draws k bytes old new [] (m ∷ ms) e d = cc
lent_draws k bytes old new (l ∷ ls) [] e d = cc
lent_draws k bytes old new (l ∷ ls) (m ∷ ms) e d =
    let first : m ≡ gave_by bytes l = cc in
    let rest : ms ≡ map (gave_by bytes) ls = cc in
    record {
      coming = d.coming;
      given = ap (λ (x : Lender). x.given) first;
      faults = d.faults;
      loan = ap (λ (x : Lender). x.loan) first;
      lenders = rest;
    }

draws_lent : (k : ℕ) (bytes : List ℕ) (old new : DrawState) → Draws k bytes old new → Draws k bytes (lent old) (lent new)
draws_lent k bytes old new d = lent_draws k bytes old new old.lenders new.lenders d.lenders d

follows_lent : (p : Request) (r : Result RingOf Refusal) (u : Used) (bytes : List ℕ) (old new : DrawState) → AnswersByRing p r u bytes old new → AnswersByRing p r u bytes (lent old) (lent new)
follows_lent p r u bytes old new (refused why e k v b s) = refused why e k v b (ap lent s)
follows_lent p r u bytes old new (answered ring e v n s) = answered ring e v n (draws_lent 0 bytes old new s)
follows_lent p r u bytes old new (undrawn ring e k v b s) = undrawn ring e k v b (draws_lent 1 [] old new s)
follows_lent p r u bytes old new (stopped v b s) = stopped v b (ap lent s)
follows_lent p r u bytes old new (lost ring e v n s) = lost ring e v n (draws_lent 0 bytes old new s)
follows_lent p r u bytes old new (unheard ring e k v b s) = unheard ring e k v b (draws_lent 1 [] old new s)

does_lent : {P : Course → Type 0} {a b : Books} → Does P a b → Does P (unlent a) (unlent b)
does_lent {P} {a} {b} x = record {
  course = x.course;
  recorded = record {
    steps = x.recorded.steps;
    acts = x.recorded.acts;
    front = x.recorded.front;
    looked = x.recorded.looked;
    rings = x.recorded.rings;
    line = x.recorded.line;
    floor = x.recorded.floor;
    facts = x.recorded.facts;
    single = x.recorded.single;
    turn = x.recorded.turn;
    named = x.recorded.named;
    store = x.recorded.store;
    draws = draws_lent (draws_failed x.course.steps) x.course.drawn a.draws b.draws x.recorded.draws;
    drawn = x.recorded.drawn;
    published = x.recorded.published;
  };
  is = x.is;
}

serves_lent : (q : Result Request BadRequest) (now : ℕ) (u : Used) (drawn : List ℕ) (old new : Books) → Serves q now u drawn old new → Serves q now u drawn (unlent old) (unlent new)
unfolding does_lent
serves_lent q now u drawn old new (unread why e v d same) = unread why e v d (ap unlent same)
serves_lent q now u drawn old new (unstarted v d same) = unstarted v d (ap unlent same)
serves_lent q now u drawn old new (misdated p e bad v d same) = misdated p e bad v d (ap unlent same)
serves_lent q now u drawn old new (by_ring p e needs good r between x bytes d f) = by_ring p e needs good r (lent between) (does_lent x) bytes d (follows_lent p r u bytes between new.draws f)
serves_lent q now u drawn old new (by_place p e good a asks r x d v) = by_place p e good a asks r (does_lent x) d v

served_lent : (app : List ℕ) (q : Result Request BadRequest) (now : ℕ) (r : Result Response Memory) (drawn : List ℕ) (old new : Books) → Served app q now r drawn old new → Served app q now r drawn (unlent old) (unlent new)
served_lent app q now (Ok a) drawn old new s = (serves_lent q now a.used drawn old new s.0, s.1, s.2)
served_lent app q now (Err w) drawn old new s = serves_lent q now used.NoMemory drawn old new s

some_serves : (app : List ℕ) (q : Result Request BadRequest) (now : ℕ) (r : Result Response Memory) (drawn : List ℕ) (old new : Books) → Served app q now r drawn old new → (u : Used) × Serves q now u drawn old new
some_serves app q now (Ok a) drawn old new s = (a.used, s.0)
some_serves app q now (Err w) drawn old new s = (used.NoMemory, s)

same_told : (told : Option (List ℕ)) (bytes drawn : List ℕ) → told ≡ Some drawn → IfSome told (λ given. bytes ≡ given) → bytes ≡ drawn
same_told None bytes drawn e h = cc
same_told (Some g) bytes drawn e h = let f : g ≡ drawn = cc in h ∙ f

module _ (app : List ℕ) (q : Result Request BadRequest) (now : ℕ) (r : Result Response Memory) (drawn bytes : List ℕ) (old new : Books) where
  -- the tape told the bytes that were drawn
  pub tape_tells : Served app q now r drawn old new → old.draws.given ≡ Some [] → IfSome new.draws.given (λ given. bytes ≡ given) → (new.draws.given ≡ Some drawn) × (bytes ≡ drawn) × (length drawn ≤ 120)
  tape_tells s none told =
      let u = some_serves app q now r drawn old new s in
      let d = drew q now u.0 drawn old new u.1 in
      let few = few_drawn q now u.0 drawn old new u.1 in
      let given : new.draws.given ≡ Some drawn = d.1.given ∙ ap (λ (g : Option (List ℕ)). gave g drawn) none ∙ gave-short [] drawn (omega (arith, few)) in
      (given, same_told new.draws.given bytes drawn given told, few)

-- a request that was served over a tape, as it is seen of the draw that was lent to the tape
pub told_served : (app : List ℕ) (q : Result Request BadRequest) (now : ℕ) (r : Result Response Memory) (drawn bytes : List ℕ) (s : List Step) (h h' : HostState) (t t' : Store) (d0 d1 d d' e' : DrawState) (n n' : GName) (tape : Option (List ℕ))
    → d0 ≡ taped d n (Some []) → d1 ≡ taped d' n' tape → e' ≡ d' → Served app q now r drawn (books [] h t d0) (books s h' t' d1) → IfSome tape (λ given. bytes ≡ given)
    → Served app q now r bytes (books [] h t d) (books s h' t' e')
told_served app q now r drawn bytes s h h' t t' d0 d1 d d' e' n n' tape begin end same served told =
    let begun = subst (λ (x : DrawState). Served app q now r drawn (books [] h t x) (books s h' t' d1)) begin served in
    let both = subst (λ (x : DrawState). Served app q now r drawn (books [] h t (taped d n (Some []))) (books s h' t' x)) end begun in
    let tells = tape_tells app q now r drawn bytes (books [] h t (taped d n (Some []))) (books s h' t' (taped d' n' tape)) both refl told in
    let known : Served app q now r drawn (books [] h t d) (books s h' t' d') = served_lent app q now r drawn (books [] h t (taped d n (Some []))) (books s h' t' (taped d' n' tape)) both in
    let named = subst (λ (x : List ℕ). Served app q now r x (books [] h t d) (books s h' t' d')) (sym tells.1) known in
    subst (λ (x : DrawState). Served app q now r bytes (books [] h t d) (books s h' t' x)) (sym same) named
