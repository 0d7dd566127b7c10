-- Requests served one after the other.
use Rattle.std.proofs.Common.{◌≡◌, ℕ, ◌+◌, ◌≤◌, ◌↔◌, suc, max, Bool, true, false, ◌||◌, List, [], ◌∷◌, ◌++◌, length, take, Option, Some, None, IfSome, IsSome, Result, refl, sym, ap, subst, ◌∙◌, append_assoc, arith}
use Rattle.std.specs.Io.KnownBytes.{Consumes}
use Rattle.std.proofs.lemmas.List.{append-nil, length-append}
use Rattle.std.proofs.Math.Seq.{take-length, take-take}
use Rattle.dp_base.specs.Draws.{DrawState}
use Rattle.dp_base.specs.Transfer.{Writes, WritesFront}
use Rattle.dp_base.proofs.KnownBytes.{Consumes-none, Consumes-both}
use Rattle.key_elements.specs.declared.element.Element.{Element}
use Rattle.key_elements.specs.Lists.{Extends}
use Rattle.key_ring.specs.Ring.{RingOf}
use Rattle.ring_world.specs.Course.{Course}
use Rattle.ring_world.specs.Flight.{Refusal}
use Rattle.ring_world.specs.Path.{Call}
use Rattle.ring_world.specs.Way.{CallPath}
use Rattle.ring_world.specs.Placing.{Asked, PlacePath}
use Rattle.node_calls.specs.Books.{Books}
use Rattle.node_calls.proofs.Books.{IsFrontOf-trans, IsFrontOf-refl, IsFrontOf-le}
use Rattle.dp_wire.specs.Frame.{frame, IsBodyLen}
use Rattle.dp_wire.specs.Reading.{request_at}
use Rattle.dp_wire.specs.Request.{Request}
use Rattle.dp_wire.specs.declared.request.BadRequest.{BadRequest}
use Rattle.dp_session.specs.declared.end.BadPlace.{BadPlace}
use Rattle.dp_session.specs.declared.end.BadWhy.{BadWhy}
use Rattle.dp_session.specs.declared.status.Status.{Status}
use Rattle.dp_session.specs.declared.status.Status.TheVariants as status
use Rattle.dp_answer.specs.declared.trace.Entry.{Entry}
use Rattle.dp_answer.specs.declared.trace.Used.{Used}
use Rattle.dp_answer.specs.declared.trace.Used.TheVariants as used
use Rattle.dp_session.specs.Frames.{frames, AreBodies, RefusesFrame}
use Rattle.dp_answer.specs.Replies.{reply_to}
use Rattle.dp_answer.specs.Serving.{SessionState, IsEntry, Serves, unread, unstarted, misdated, by_ring, by_place, AnswersByRing, IsByPlace, refused, answered, undrawn, stopped, lost, unheard}
use Rattle.dp_answer.proofs.Paths.{own_by_ring, placed_last}
use Rattle.dp_session.proofs.Exchanges.{length-frame}
use Rattle.dp_session.specs.Session.{Chain, front_of, longest, reply_frame, session_output, IsListAfter, Outside, outside, OneMore, has_list, any_list, IsLongest, SoFar, IsSession, NoMore, EndsAt, EndsInput, EndsOutput, IsSpentEnd, bad_at}

-- one entry more
chain-more : (bodies : List (List ℕ)) (es : List Entry) (a b c : SessionState) (body : List ℕ) (e : Entry) → Chain bodies es a b → IsEntry body e b c → Chain (bodies ++ body ∷ []) (es ++ e ∷ []) a c
chain-more [] [] a b c body e p q = (c, subst (λ (s : SessionState). IsEntry body e s c) p q, refl)
chain-more [] (x ∷ es) a b c body e p q = absurd p
chain-more (x ∷ bodies) [] a b c body e p q = absurd p
chain-more (x ∷ bodies) (y ∷ es) a b c body e p q = (p.0, p.1, chain-more bodies es p.0 b c body e p.2 q)

pub same_lengths : (bodies : List (List ℕ)) (es : List Entry) (a b : SessionState) → Chain bodies es a b → length bodies ≡ length es
same_lengths [] [] a b p = refl
same_lengths [] (y ∷ es) a b p = absurd p
same_lengths (x ∷ bodies) [] a b p = absurd p
same_lengths (x ∷ bodies) (y ∷ es) a b p = omega (arith, same_lengths bodies es p.0 b p.2)

frames-more : (bodies : List (List ℕ)) (body : List ℕ) → frames (bodies ++ body ∷ []) ≡ frames bodies ++ frame body
frames-more [] body = append-nil (frame body)
frames-more (x ∷ bodies) body = ap (λ (t : List ℕ). frame x ++ t) (frames-more bodies body) ∙ sym (append_assoc (frame x) (frames bodies) (frame body))

bodies-more : (bodies : List (List ℕ)) (body : List ℕ) → AreBodies bodies → IsBodyLen (length body) → AreBodies (bodies ++ body ∷ [])
bodies-more [] body p q = (q, tt)
bodies-more (x ∷ bodies) body p q = (p.0, bodies-more bodies body p.1 q)

longest-more : (es : List Entry) (e : Entry) → longest (es ++ e ∷ []) ≡ max (longest es) (front_of e.used)
longest-more [] e = omega arith
longest-more (x ∷ es) e = omega (arith, longest-more es e)

or_false : (a b c : Bool) → ((a || b) || c) ≡ (a || (b || c))
or_false true b c = refl
or_false false b c = refl

any-more : (es : List Entry) (e : Entry) → any_list (es ++ e ∷ []) ≡ (any_list es || has_list e.used)
any-more [] e = or_nil (has_list e.used)
  where
    or_nil : (a : Bool) → (a || false) ≡ a
    or_nil true = refl
    or_nil false = refl
any-more (x ∷ es) e = ap (λ (b : Bool). has_list x.used || b) (any-more es e) ∙ sym (or_false (has_list x.used) (any_list es) (has_list e.used))

-- a front of a list is one of every list that extends it
take_front : (n : ℕ) (list longer : List Element) → n ≤ length list → Extends longer list → take n longer ≡ take n list
take_front n list longer le e = sym (take-take n (length list) longer le) ∙ ap (take n) e

output-same : (app : List ℕ) (bodies : List (List ℕ)) (es : List Entry) (list longer : List Element) → longest es ≤ length list → Extends longer list → session_output app bodies es longer ≡ session_output app bodies es list
output-same app [] es list longer le e = refl
output-same app (b ∷ bodies) [] list longer le e = refl
output-same app (b ∷ bodies) (x ∷ es) list longer le e =
    let front = take_front (front_of x.used) list longer (omega (arith, le)) e in
    let rest = output-same app bodies es list longer (omega (arith, le)) e in
    ap (λ (t : List Element). frame (reply_to app x.now (request_at b) x.used x.drawn t) ++ session_output app bodies es longer) front
    ∙ ap (λ (t : List ℕ). reply_frame app b x list ++ t) rest

output-more : (app : List ℕ) (bodies : List (List ℕ)) (es : List Entry) (body : List ℕ) (e : Entry) (list : List Element) → length bodies ≡ length es → session_output app (bodies ++ body ∷ []) (es ++ e ∷ []) list ≡ session_output app bodies es list ++ reply_frame app body e list
output-more app [] [] body e list n = append-nil (reply_frame app body e list)
output-more app [] (x ∷ es) body e list n = absurd (omega (arith, n))
output-more app (b ∷ bodies) [] body e list n = absurd (omega (arith, n))
output-more app (b ∷ bodies) (x ∷ es) body e list n =
    ap (λ (t : List ℕ). reply_frame app b x list ++ t) (output-more app bodies es body e list (omega (arith, n))) ∙ sym (append_assoc (reply_frame app b x list) (session_output app bodies es list) (reply_frame app body e list))

-- the list of an entry ends where the pass then stands
abbrev pub HasFront : Used → List Element → Type 0
HasFront (used.Ring front made_at) own = front ≡ length own
HasFront (used.Placed place) own = place + 1 ≡ length own
HasFront (used.Refused why) own = Unit {0}
HasFront (used.BadRequest place) own = Unit {0}
HasFront used.NoMemory own = Unit {0}

ring_front : (c : Call) (p : Request) (r : Result RingOf Refusal) (own : List Element) (d : Course) (u : Used) (bytes : List ℕ) (old new : DrawState) → CallPath c r own d → AnswersByRing p r u bytes old new → HasFront u own
ring_front c p r own d u bytes old new x (refused why e k v b s) = subst (λ (w : Used). HasFront w own) (sym v) tt
ring_front c p r own d u bytes old new x (answered ring e v n s) =
    subst (λ (w : Used). HasFront w own) (sym v) (ap length (sym (own_by_ring c ring own d (subst (λ (y : Result RingOf Refusal). CallPath c y own d) e x))))
ring_front c p r own d u bytes old new x (undrawn ring e k v b s) = subst (λ (w : Used). HasFront w own) (sym v) tt
ring_front c p r own d u bytes old new x (stopped v b s) = subst (λ (w : Used). HasFront w own) (sym v) tt
ring_front c p r own d u bytes old new x (lost ring e v n s) = subst (λ (w : Used). HasFront w own) (sym v) tt
ring_front c p r own d u bytes old new x (unheard ring e k v b s) = subst (λ (w : Used). HasFront w own) (sym v) tt

place_front : (a : Asked) (r : Result ℕ Refusal) (own : List Element) (d : Course) (u : Used) → PlacePath a r own d → IsByPlace r u → HasFront u own
place_front a r own d (used.Ring front made_at) x v = absurd v
place_front a r own d (used.Placed place) x v = (placed_last a place own d (subst (λ (y : Result ℕ Refusal). PlacePath a y own d) v x)).count
place_front a r own d (used.Refused why) x v = tt
place_front a r own d (used.BadRequest place) x v = tt
place_front a r own d used.NoMemory x v = tt

pub serves_front : (q : Result Request BadRequest) (now : ℕ) (u : Used) (drawn : List ℕ) (old new : Books) → Serves q now u drawn old new → HasFront u new.host.own
serves_front q now u drawn old new (unread why e v d same) = subst (λ (w : Used). HasFront w new.host.own) (sym v) tt
serves_front q now u drawn old new (unstarted v d same) = subst (λ (w : Used). HasFront w new.host.own) (sym v) tt
serves_front q now u drawn old new (misdated p e bad v d same) = subst (λ (w : Used). HasFront w new.host.own) (sym v) tt
serves_front q now u drawn old new (by_ring p e needs good r between x bytes d f) = ring_front _ p r new.host.own x.course u bytes between new.draws x.is f
serves_front q now u drawn old new (by_place p e good a asks r x d v) = place_front a r new.host.own x.course u x.is v

module _ (es : List Entry) (e : Entry) (list list' before own own' : List Element) where
  listed : IsLongest es list before own → Extends own' own → front_of e.used ≡ length own' → has_list e.used ≡ true → list' ≡ own' → IsLongest (es ++ e ∷ []) list' before own'
  listed p grows front has new =
      let within : length list ≤ length own' = omega (arith, IsFrontOf-le list own p.seen, IsFrontOf-le own own' grows) in
      let all = IsFrontOf-trans before own own' p.grows grows in
      record {
        count = ap length new ∙ omega (arith, longest-more es e, p.count);
        seen = subst (λ (l : List Element). Extends own' l) (sym new) (IsFrontOf-refl own');
        grows = all;
        starts = λ _. subst (λ (l : List Element). Extends l before) (sym new) all;
      }

  unlisted : IsLongest es list before own → Extends own' own → front_of e.used ≡ 0 → has_list e.used ≡ false → list' ≡ list → IsLongest (es ++ e ∷ []) list' before own'
  unlisted p grows front has same = record {
    count = ap length same ∙ omega (arith, longest-more es e, p.count);
    seen = subst (λ (l : List Element). Extends own' l) (sym same) (IsFrontOf-trans list own own' p.seen grows);
    grows = IsFrontOf-trans before own own' p.grows grows;
    starts = λ any. subst (λ (l : List Element). Extends l before) (sym same) (p.starts (or_none (any_list es) (has_list e.used) has (sym (any-more es e) ∙ any)));
  }
    where
      or_none : (a b : Bool) → b ≡ false → (a || b) ≡ true → a ≡ true
      or_none true b f h = refl
      or_none false b f h = cc

  longest_by : (u : Used) → e.used ≡ u → IsLongest es list before own → Extends own' own → HasFront u own' → IsListAfter u list own' list' → IsLongest (es ++ e ∷ []) list' before own'
  longest_by (used.Ring front made_at) is p grows has new = listed p grows (ap front_of is ∙ has) (ap has_list is) new
  longest_by (used.Placed place) is p grows has new = listed p grows (ap front_of is ∙ has) (ap has_list is) new
  longest_by (used.Refused why) is p grows has new = unlisted p grows (ap front_of is) (ap has_list is) new
  longest_by (used.BadRequest place) is p grows has new = unlisted p grows (ap front_of is) (ap has_list is) new
  longest_by used.NoMemory is p grows has new = unlisted p grows (ap front_of is) (ap has_list is) new

-- the reply is that of a front of the session's list
reply-same : (app : List ℕ) (now : ℕ) (q : Result Request BadRequest) (u : Used) (drawn : List ℕ) (list own list' : List Element) → HasFront u own → IsListAfter u list own list' → reply_to app now q u drawn own ≡ reply_to app now q u drawn (take (front_of u) list')
reply-same app now q (used.Ring front made_at) drawn list own list' has new =
    ap (λ (t : List Element). reply_to app now q (used.Ring front made_at) drawn t) (sym (ap (λ (n : ℕ). take n list') has ∙ ap (take (length own)) new ∙ take-length own))
reply-same app now q (used.Placed place) drawn list own list' has new = refl
reply-same app now q (used.Refused why) drawn list own list' has new = refl
reply-same app now q (used.BadRequest place) drawn list own list' has new = refl
reply-same app now q used.NoMemory drawn list own list' has new = refl

after_extends : (u : Used) (list own list' : List Element) → Extends own list → IsListAfter u list own list' → Extends list' list
after_extends (used.Ring front made_at) list own list' p new = subst (λ (l : List Element). Extends l list) (sym new) p
after_extends (used.Placed place) list own list' p new = subst (λ (l : List Element). Extends l list) (sym new) p
after_extends (used.Refused why) list own list' p new = subst (λ (l : List Element). Extends l list) (sym new) (IsFrontOf-refl list)
after_extends (used.BadRequest place) list own list' p new = subst (λ (l : List Element). Extends l list) (sym new) (IsFrontOf-refl list)
after_extends used.NoMemory list own list' p new = subst (λ (l : List Element). Extends l list) (sym new) (IsFrontOf-refl list)

Writes-both : (a b c : Option (List ℕ)) (xs ys : List ℕ) → Writes a b xs → Writes b c ys → Writes a c (xs ++ ys)
Writes-both None b c xs ys p q = tt
Writes-both (Some w) b c xs ys p q =
    subst (λ (o : Option (List ℕ)). Writes o c ys) p q ∙ ap Some (append_assoc w xs ys)

take_behind : (xs ys : List ℕ) (k : ℕ) → take (length xs + k) (xs ++ ys) ≡ xs ++ take k ys
take_behind [] ys k = let e : 0 + k ≡ k = omega arith in ap (λ (n : ℕ). take n ys) e
take_behind (x ∷ xs) ys k =
    let e : length (x ∷ xs) + k ≡ suc (length xs + k) = omega arith in
    ap (λ (n : ℕ). take n (x ∷ (xs ++ ys))) e ∙ ap (λ (t : List ℕ). x ∷ t) (take_behind xs ys k)

WritesFront-after : (a b c : Option (List ℕ)) (xs ys : List ℕ) → Writes a b xs → WritesFront b c ys → WritesFront a c (xs ++ ys)
WritesFront-after None b c xs ys p q = tt
WritesFront-after (Some w) b c xs ys p q =
    let r = subst (λ (o : Option (List ℕ)). WritesFront o c ys) p q in
    (length xs + r.0, omega (arith, length-append xs ys, r.1), r.2 ∙ ap Some (append_assoc w xs (take r.0 ys) ∙ ap (λ (t : List ℕ). w ++ t) (sym (take_behind xs ys r.0))))

module _ (app : List ℕ) (writes : Option (List ℕ) → Option (List ℕ) → List ℕ → Type 0) (old a b : Outside) (n len : ℕ) (p : SoFar app old a n) (q : OneMore app writes a b len) where
  more_bodies : List (List ℕ)
  more_bodies = p.bodies ++ q.body ∷ []

  more_chain : Chain (p.bodies ++ q.body ∷ []) b.entries old.state b.state
  more_chain = subst (λ (es : List Entry). Chain (p.bodies ++ q.body ∷ []) es old.state b.state) (sym q.served.added) (chain-more p.bodies a.entries old.state a.state b.state q.body q.served.entry p.chain q.served.is)

  more_read : Consumes old.input b.input (frames (p.bodies ++ q.body ∷ []))
  more_read = subst (Consumes old.input b.input) (sym (frames-more p.bodies q.body)) (Consumes-both old.input a.input b.input (frames p.bodies) (frame q.body) p.read q.read)

  has_front : HasFront q.served.entry.used b.state.host.own
  has_front = serves_front _ _ q.served.entry.used q.served.entry.drawn _ _ q.served.is.serves

  more_list : IsLongest b.entries b.list old.state.host.own b.state.host.own
  more_list = subst (λ (es : List Entry). IsLongest es b.list old.state.host.own b.state.host.own) (sym q.served.added) (longest_by a.entries q.served.entry a.list b.list old.state.host.own a.state.host.own b.state.host.own q.served.entry.used refl p.list q.served.is.grows has_front q.served.list)

  more_output : session_output app p.bodies a.entries a.list ++ frame (reply_to app q.served.entry.now (request_at q.body) q.served.entry.used q.served.entry.drawn b.state.host.own) ≡ session_output app (p.bodies ++ q.body ∷ []) b.entries b.list
  more_output =
      let e = q.served.entry in
      let extends = after_extends e.used a.list b.state.host.own b.list (IsFrontOf-trans a.list a.state.host.own b.state.host.own p.list.seen q.served.is.grows) q.served.list in
      let before = output-same app p.bodies a.entries a.list b.list (omega (arith, p.list.count)) extends in
      let reply = reply-same app e.now (request_at q.body) e.used e.drawn a.list b.state.host.own b.list has_front q.served.list in
      ap (λ (t : List ℕ). t ++ frame (reply_to app e.now (request_at q.body) e.used e.drawn b.state.host.own)) (sym before)
      ∙ ap (λ (t : List ℕ). session_output app p.bodies a.entries b.list ++ frame t) reply
      ∙ sym (output-more app p.bodies a.entries q.body e b.list (same_lengths p.bodies a.entries old.state a.state p.chain))
      ∙ ap (λ (es : List Entry). session_output app (p.bodies ++ q.body ∷ []) es b.list) (sym q.served.added)

-- one request more
pub so_far-more : (app : List ℕ) (old a b : Outside) (n len : ℕ) → SoFar app old a n → OneMore app Writes a b len → SoFar app old b (n + len)
so_far-more app old a b n len p q = record {
  bodies = p.bodies ++ q.body ∷ [];
  fit = bodies-more p.bodies q.body p.fit q.fits;
  chain = more_chain app Writes old a b n len p q;
  read = more_read app Writes old a b n len p q;
  written = subst (Writes old.output b.output) (more_output app Writes old a b n len p q) (Writes-both old.output a.output b.output _ _ p.written q.served.written);
  list = more_list app Writes old a b n len p q;
  count = omega (arith, p.count, q.count, ap length (frames-more p.bodies q.body), length-append (frames p.bodies) (frame q.body));
}

-- a session whose last reply wasn't written whole
write_failed : (app : List ℕ) (old a b : Outside) (n len : ℕ) → SoFar app old a n → OneMore app WritesFront a b len → IsSession app status.WriteFault None old b
write_failed app old a b n len p q = record {
  bodies = p.bodies ++ q.body ∷ [];
  fit = bodies-more p.bodies q.body p.fit q.fits;
  chain = more_chain app WritesFront old a b n len p q;
  left = b.input;
  read = more_read app WritesFront old a b n len p q;
  ends = refl;
  written = subst (WritesFront old.output b.output) (more_output app WritesFront old a b n len p q) (WritesFront-after old.output a.output b.output _ _ p.written q.served.written);
  list = more_list app WritesFront old a b n len p q;
}

abbrev with_input : Option (List ℕ) → Outside → Outside
with_input i a = record a { input = i }

unserved : (a b : Outside) → NoMore a b → with_input b.input a ≡ b
unserved a b same =
    ap (λ (o : Option (List ℕ)). outside b.input o a.state a.entries a.list) (sym same.output)
    ∙ ap (λ (s : SessionState). outside b.input b.output s a.entries a.list) (sym same.state)
    ∙ ap (λ (es : List Entry). outside b.input b.output b.state es a.list) (sym same.entries)
    ∙ ap (λ (l : List Element). outside b.input b.output b.state b.entries l) (sym same.list)

-- a session that ends at a frame that wasn't served
no_further : (app : List ℕ) (st : Status) (bad : Option BadPlace) (old a b : Outside) (n : ℕ) → ((o o' : Option (List ℕ)) (bytes : List ℕ) → Writes o o' bytes → EndsOutput st o o' bytes) → NoMore a b → (p : SoFar app old a n) → EndsInput st bad (length (frames p.bodies)) a.input b.input → IsSession app st bad old b
no_further app st bad old a b n whole same p ends =
    subst (IsSession app st bad old) (unserved a b same) (record {
      bodies = p.bodies;
      fit = p.fit;
      chain = p.chain;
      left = a.input;
      read = p.read;
      ends = ends;
      written = whole old.output a.output _ p.written;
      list = p.list;
    })

bad_frame : (bad : Option BadWhy) (n m : ℕ) (left after : Option (List ℕ)) → n ≡ m → IfSome bad (λ why. RefusesFrame why left after) → EndsInput status.BadInput (bad_at bad n) m left after
bad_frame None n m left after e h = tt
bad_frame (Some why) n m left after e h = (e, h)

-- a session ends at its next frame
pub session_ends : (app : List ℕ) (st : Status) (bad : Option BadWhy) (old a b : Outside) (n : ℕ) → SoFar app old a n → EndsAt app st bad a b → IsSession app st (bad_at bad n) old b
session_ends app status.Done bad old a b n p e = no_further app status.Done (bad_at bad n) old a b n (λ o o' bytes w. w) e.0 p e.1
session_ends app status.BadWords bad old a b n p e = absurd e
session_ends app status.BadInput bad old a b n p e = no_further app status.BadInput (bad_at bad n) old a b n (λ o o' bytes w. w) e.0 p (bad_frame bad n _ a.input b.input p.count e.1)
session_ends app status.ReadFault bad old a b n p e = no_further app status.ReadFault (bad_at bad n) old a b n (λ o o' bytes w. w) e.0 p e.1
session_ends app status.WriteFault bad old a b n p e =
    subst (λ (x : Option BadWhy). IsSession app status.WriteFault (bad_at x n) old b) (sym e.2) (write_failed app old a b n e.0 p e.1)
session_ends app status.StoreFault bad old a b n p e = absurd e
session_ends app status.DrawFault bad old a b n p e = absurd e
session_ends app status.NoMemory bad old a b n p e = no_further app status.NoMemory (bad_at bad n) old a b n (λ o o' bytes w. w) e.0 p e.1
session_ends app status.Spent bad old a b n p e = absurd e
session_ends app status.Forked bad old a b n p e = absurd e

-- a session ends behind its last request
pub session_spent : (app : List ℕ) (st : Status) (old a : Outside) (after : Option (List ℕ)) (n : ℕ) → SoFar app old a n → IsSpentEnd st → EndsInput st None 0 a.input after → IsSession app st None old (with_input after a)
session_spent app status.Done old a after n p is e = no_further app status.Done None old a (with_input after a) n (λ o o' bytes w. w) (record { output = refl; state = refl; entries = refl; list = refl }) p e
session_spent app status.ReadFault old a after n p is e = no_further app status.ReadFault None old a (with_input after a) n (λ o o' bytes w. w) (record { output = refl; state = refl; entries = refl; list = refl }) p e
session_spent app status.Spent old a after n p is e = no_further app status.Spent None old a (with_input after a) n (λ o o' bytes w. w) (record { output = refl; state = refl; entries = refl; list = refl }) p e
session_spent app status.BadWords old a after n p is e = absurd is
session_spent app status.BadInput old a after n p is e = absurd is
session_spent app status.WriteFault old a after n p is e = absurd is
session_spent app status.StoreFault old a after n p is e = absurd is
session_spent app status.DrawFault old a after n p is e = absurd is
session_spent app status.NoMemory old a after n p is e = absurd is
session_spent app status.Forked old a after n p is e = absurd is

-- no request was served yet
pub so_far-none : (app : List ℕ) (i o : Option (List ℕ)) (s : SessionState) → SoFar app (outside i o s [] []) (outside i o s [] []) 0
so_far-none app i o s = record {
  bodies = [];
  fit = tt;
  chain = refl;
  read = Consumes-none i;
  written = Writes-none o;
  list = record { count = refl; seen = refl; grows = IsFrontOf-refl s.host.own; starts = λ any. cc };
  count = refl;
}
  where
    Writes-none : (o : Option (List ℕ)) → Writes o o []
    Writes-none None = tt
    Writes-none (Some w) = ap Some (sym (append-nil w))

-- how many bytes a frame has at the most
pub frame-bound : (app : List ℕ) (a b : Outside) (len : ℕ) → OneMore app Writes a b len → len ≤ 1048580
frame-bound app a b len q = omega (arith, q.count, length-frame q.body, q.fits.1)

pub entries-more : (app : List ℕ) (a b : Outside) (len : ℕ) → OneMore app Writes a b len → length b.entries ≡ length a.entries + 1
entries-more app a b len q = omega (arith, ap length q.served.added, length-append a.entries (q.served.entry ∷ []))

pub ends-few : (app : List ℕ) (st : Status) (bad : Option BadWhy) (a b : Outside) → EndsAt app st bad a b → length b.entries ≤ length a.entries + 1
ends-few app status.Done bad a b e = omega (arith, ap length e.0.entries)
ends-few app status.BadWords bad a b e = absurd e
ends-few app status.BadInput bad a b e = omega (arith, ap length e.0.entries)
ends-few app status.ReadFault bad a b e = omega (arith, ap length e.0.entries)
ends-few app status.WriteFault bad a b e = omega (arith, ap length e.1.served.added, length-append a.entries (e.1.served.entry ∷ []))
ends-few app status.StoreFault bad a b e = absurd e
ends-few app status.DrawFault bad a b e = absurd e
ends-few app status.NoMemory bad a b e = omega (arith, ap length e.0.entries)
ends-few app status.Spent bad a b e = absurd e
ends-few app status.Forked bad a b e = absurd e

-- only a session whose last reply wasn't written has an entry more
pub ends-same : (app : List ℕ) (st : Status) (bad : Option BadWhy) (a b : Outside) → EndsAt app st bad a b → (st ≡ status.WriteFault → ⊥) → length b.entries ≡ length a.entries
ends-same app status.Done bad a b e other = ap length e.0.entries
ends-same app status.BadWords bad a b e other = absurd e
ends-same app status.BadInput bad a b e other = ap length e.0.entries
ends-same app status.ReadFault bad a b e other = ap length e.0.entries
ends-same app status.WriteFault bad a b e other = absurd (other refl)
ends-same app status.StoreFault bad a b e other = absurd e
ends-same app status.DrawFault bad a b e other = absurd e
ends-same app status.NoMemory bad a b e other = ap length e.0.entries
ends-same app status.Spent bad a b e other = absurd e
ends-same app status.Forked bad a b e other = absurd e

pub ends-spent : (app : List ℕ) (st : Status) (bad : Option BadWhy) (a b : Outside) → EndsAt app st bad a b → st ≡ status.Spent → ⊥
ends-spent app st bad a b e is = subst (λ (s : Status). EndsAt app s bad a b) is e

named_none : (bad : Option BadWhy) (n : ℕ) (st : Status) → bad ≡ None → (st ≡ status.BadInput → ⊥) → IsSome (bad_at bad n) ↔ (st ≡ status.BadInput)
named_none None n st e other = (λ h. cc, λ h. absurd (other h))
named_none (Some why) n st e other = cc

named_some : (bad : Option BadWhy) (n : ℕ) → IsSome bad → IsSome (bad_at bad n) ↔ (status.BadInput ≡ status.BadInput)
named_some None n h = cc
named_some (Some why) n h = (λ _. refl, λ _. refl)

pub ends-bad : (app : List ℕ) (st : Status) (bad : Option BadWhy) (n : ℕ) (a b : Outside) → EndsAt app st bad a b → IsSome (bad_at bad n) ↔ (st ≡ status.BadInput)
ends-bad app status.Done bad n a b e = named_none bad n status.Done e.2 (λ h. cc)
ends-bad app status.BadWords bad n a b e = absurd e
ends-bad app status.BadInput bad n a b e = named_some bad n e.2
ends-bad app status.ReadFault bad n a b e = named_none bad n status.ReadFault e.2 (λ h. cc)
ends-bad app status.WriteFault bad n a b e = named_none bad n status.WriteFault e.2 (λ h. cc)
ends-bad app status.StoreFault bad n a b e = absurd e
ends-bad app status.DrawFault bad n a b e = absurd e
ends-bad app status.NoMemory bad n a b e = named_none bad n status.NoMemory e.2 (λ h. cc)
ends-bad app status.Spent bad n a b e = absurd e
ends-bad app status.Forked bad n a b e = absurd e
