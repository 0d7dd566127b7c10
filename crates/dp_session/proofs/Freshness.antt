-- What follows of the chain of a session's requests: what was seen, and what was counted.
use Rattle.std.proofs.Common.{◌≡◌, ℕ, ◌+◌, ◌≤◌, max, Bool, true, false, if◌then◌else◌, nat_le, List, [], ◌∷◌, ◌++◌, length, Option, Result, Ok, Err, refl, sym, ap, subst, ◌∙◌, append_assoc, ⊎_elim, arith}
use Rattle.std.specs.List.{flat_map}
use Rattle.std.proofs.lemmas.Bool.{leb-true}
use Rattle.std.proofs.lemmas.List.{append-nil}
use Rattle.dp_base.specs.Counts.{more}
use Rattle.dp_base.specs.Draws.{DrawState, Draws}
use Rattle.dp_base.proofs.Draws.{more-more}
use Rattle.key_elements.specs.declared.element.Element.{Element}
use Rattle.key_elements.specs.declared.list.TheConstants.{MAX_ELEMENTS}
use Rattle.key_ring.specs.Ring.{RingOf}
use Rattle.repo_keeper.specs.Store.{Store}
use Rattle.ring_world.specs.declared.step.Step.{Step}
use Rattle.ring_world.specs.declared.step.Step.TheVariants.{Take, Give, AppendFull, AppendFailed, WentBack}
use Rattle.ring_world.specs.Course.{Course}
use Rattle.ring_world.specs.Flight as flight
use Rattle.ring_world.specs.Flight.{Refusal, Flown, Broken, Plain, Keyed, Filled, Shrunk, NoRead, ShortRead, NoDraw, NoKeyDraw, NoAppend, ShortAppend}
use Rattle.ring_world.specs.Path.{Call, Path, FirstLookFailed, AtOnce, Stale, Alone, Turned, AloneFailed, AloneShort, Apart, HolderPath, LookFailed, Rests, Parts, Flies, path_course, path_end, turn_course, turn_end}
use Rattle.ring_world.specs.Settle.{Settle, Keeps, Stays, Again, settle_course, settle_end}
use Rattle.ring_world.specs.Way as way
use Rattle.ring_world.specs.Way.{Way, Comes, Fails, IsWay, CallPath, way_course, way_end, answered, answer_steps}
use Rattle.ring_world.specs.Placing as placing
use Rattle.ring_world.specs.Placing.{Asked, Placing, Placed, Undrawn, Unplaced, Overfull, Receded, PlacePath, place_course, place_end, draw_steps}
use Rattle.node_calls.specs.declared.error.NodeError.{NodeError}
use Rattle.node_calls.specs.declared.error.NodeError.TheVariants as errors
use Rattle.node_calls.specs.Books as node
use Rattle.node_calls.specs.Books.{Books, Does, acts, tally, draws_failed}
use Rattle.node_calls.specs.HostState.{HostState, latest}
use Rattle.node_calls.specs.Gather.{refusal}
use Rattle.node_calls.proofs.Books.{IsFrontOf-le, draws_failed-append, tally_faults-append, tally_shorts-append, tally_fulls-append, acts_joined}
use Rattle.dp_wire.specs.declared.request.BadRequest.{BadRequest}
use Rattle.dp_wire.specs.Reading.{request_at}
use Rattle.dp_wire.specs.Request.{Request, Ring, Roll, Revoke, RevokeBefore, Protect, Unprotect, ProtectText, UnprotectText, ProtectTimed, UnprotectTimed}
use Rattle.dp_answer.specs.declared.trace.Entry.{Entry}
use Rattle.dp_answer.specs.declared.trace.Used.{Used}
use Rattle.dp_answer.specs.declared.trace.Used.TheVariants as used
use Rattle.dp_session.specs.Fresh.{IsFresh, IsFreshUse, AreFresh, AreCounted, IsCounted, AreCountedBy, all_steps, draw_faults, no_memory}
use Rattle.dp_answer.specs.Needs.{need_of}
use Rattle.dp_answer.specs.Serving.{SessionState, IsEntry, Serves, unread, unstarted, misdated, by_ring, by_place, AnswersByRing, refused, answered as answered_by, undrawn, stopped, lost, unheard, IsByPlace, IsNeed, before, after, Asks}
use Rattle.dp_session.specs.Session.{Chain, front_of, has_list}
use Rattle.dp_answer.proofs.Paths.{placed_last}
use Rattle.dp_session.proofs.Sessions.{HasFront, serves_front}
use Rattle.dp_session.proofs.Sums.{call_noted, call_all_noted, place_noted, place_all_noted}

enough_need : (need : ℕ) (own : List Element) (x : Result RingOf Refusal) (r : RingOf) → answered need x ≡ Ok r → need ≤ length r.list
enough_need need own (Ok y) r e = within (nat_le need (length y.list)) refl e
  where
    within : (b : Bool) → nat_le need (length y.list) ≡ b → (if b then Ok y else Err (flight.Behind (length y.list) need)) ≡ Ok r → need ≤ length r.list
    within true t e = let same : y ≡ r = cc in subst (λ (z : RingOf). need ≤ length z.list) same (leb-true need (length y.list) t)
    within false t e = cc
enough_need need own (Err why) r e = cc

-- the ring of a call that was answered has as many elements as were asked for
call_need : (c : Call) (ring : RingOf) (own : List Element) (d : Course) → CallPath c (Ok ring) own d → c.need ≤ length ring.list
call_need c ring own d (way.complete w is line e o s) = enough_need c.need own (way_end c w) ring e
call_need c ring own d (way.cut_off w is line e o k) = cc

unlisted_none : (u w : Used) → u ≡ w → has_list w ≡ false → has_list u ≡ true → ⊥
unlisted_none u w e f h = let g : has_list u ≡ false = ap has_list e ∙ f in cc

asks_none : (p : Request) (now : ℕ) (own : List Element) (told : Option (List Element)) (a : Asked) → Asks p now own told a → need_of (Ok p) ≡ 0
asks_none (Roll activation expiration code) now own told a h = refl
asks_none (Revoke id reason) now own told a h = refl
asks_none (RevokeBefore date reason) now own told a h = refl
asks_none (Ring need) now own told a h = absurd h
asks_none (Protect need chain plain) now own told a h = absurd h
asks_none (Unprotect need allow chain payload) now own told a h = absurd h
asks_none (ProtectText need chain text) now own told a h = absurd h
asks_none (UnprotectText need allow chain text) now own told a h = absurd h
asks_none (ProtectTimed need chain expiry plain) now own told a h = absurd h
asks_none (UnprotectTimed need allow chain payload) now own told a h = absurd h

follows_need : (c : Call) (p : Request) (r : Result RingOf Refusal) (own : List Element) (d : Course) (u : Used) (bytes : List ℕ) (old new : DrawState) → CallPath c r own d → AnswersByRing p r u bytes old new → has_list u ≡ true → c.need ≤ front_of u
follows_need c p r own d u bytes old new x (refused why e k v b s) h = absurd (unlisted_none u (used.Refused why) v refl h)
follows_need c p r own d u bytes old new x (answered_by ring e v n s) h =
    omega (arith, ap front_of v, call_need c ring own d (subst (λ (y : Result RingOf Refusal). CallPath c y own d) e x))
follows_need c p r own d u bytes old new x (undrawn ring e k v b s) h = absurd (unlisted_none u (used.Refused errors.DrawFault) v refl h)
follows_need c p r own d u bytes old new x (stopped v b s) h = absurd (unlisted_none u used.NoMemory v refl h)
follows_need c p r own d u bytes old new x (lost ring e v n s) h = absurd (unlisted_none u used.NoMemory v refl h)
follows_need c p r own d u bytes old new x (unheard ring e k v b s) h = absurd (unlisted_none u used.NoMemory v refl h)

serves_need : (q : Result Request BadRequest) (now : ℕ) (u : Used) (drawn : List ℕ) (old new : Books) → Serves q now u drawn old new → has_list u ≡ true → need_of q ≤ front_of u
serves_need q now u drawn old new (unread why e v d same) h = absurd (unlisted_none u (used.BadRequest why.place) v refl h)
serves_need q now u drawn old new (unstarted v d same) h = absurd (unlisted_none u used.NoMemory v refl h)
serves_need q now u drawn old new (misdated p e bad v d same) h = absurd (unlisted_none u (used.Refused errors.BadDates) v refl h)
serves_need q now u drawn old new (by_ring p e needs good r between x bytes d f) h =
    omega (arith, ap need_of e, follows_need _ p r new.host.own x.course u bytes between new.draws x.is f h)
serves_need q now u drawn old new (by_place p e good a asks r x d v) h = omega (arith, ap need_of e, asks_none p now old.host.own new.store.list a asks)

kept_need : (need asked : ℕ) (u : Used) (steps : List Step) (drawn : List ℕ) → IsNeed need asked u steps drawn → has_list u ≡ true → need ≡ asked
kept_need need asked u steps drawn n h = ⊎_elim (λ e. e) (λ e. absurd (unlisted_none u used.NoMemory e.1 refl h)) n

front_seen : (u : Used) (own : List Element) → HasFront u own → has_list u ≡ true → front_of u ≡ length own
front_seen (used.Ring front made_at) own f h = f
front_seen (used.Placed place) own f h = f
front_seen (used.Refused why) own f h = cc
front_seen (used.BadRequest place) own f h = cc
front_seen used.NoMemory own f h = cc

front_within : (u : Used) (own : List Element) → HasFront u own → front_of u ≤ length own
front_within (used.Ring front made_at) own f = omega (arith, f)
front_within (used.Placed place) own f = omega (arith, f)
front_within (used.Refused why) own f = omega arith
front_within (used.BadRequest place) own f = omega arith
front_within used.NoMemory own f = omega arith

asks_own : (p : Request) (now : ℕ) (own : List Element) (told : Option (List Element)) (a : Asked) → Asks p now own told a → a.own ≡ own
asks_own (Roll activation expiration code) now own told a h = ap (λ (x : Asked). x.own) h
asks_own (Revoke id reason) now own told a h = ap (λ (x : Asked). x.own) h
asks_own (RevokeBefore date reason) now own told a h = ap (λ (x : Asked). x.own) h
asks_own (Ring need) now own told a h = absurd h
asks_own (Protect need chain plain) now own told a h = absurd h
asks_own (Unprotect need allow chain payload) now own told a h = absurd h
asks_own (ProtectText need chain text) now own told a h = absurd h
asks_own (UnprotectText need allow chain text) now own told a h = absurd h
asks_own (ProtectTimed need chain expiry plain) now own told a h = absurd h
asks_own (UnprotectTimed need allow chain payload) now own told a h = absurd h

unplaced : (p : Request) (r : Result RingOf Refusal) (u : Used) (bytes : List ℕ) (old new : DrawState) (place : ℕ) → AnswersByRing p r u bytes old new → u ≡ used.Placed place → ⊥
unplaced p r u bytes old new place (refused why e k v b s) h = cc
unplaced p r u bytes old new place (answered_by ring e v n s) h = cc
unplaced p r u bytes old new place (undrawn ring e k v b s) h = cc
unplaced p r u bytes old new place (stopped v b s) h = cc
unplaced p r u bytes old new place (lost ring e v n s) h = cc
unplaced p r u bytes old new place (unheard ring e k v b s) h = cc

-- what is placed needs nothing, and stands behind all that was seen
serves_placed : (q : Result Request BadRequest) (now : ℕ) (u : Used) (drawn : List ℕ) (old new : Books) (place : ℕ) → Serves q now u drawn old new → u ≡ used.Placed place → (need_of q ≡ 0) × (length old.host.own ≤ place)
serves_placed q now u drawn old new place (unread why e v d same) h = cc
serves_placed q now u drawn old new place (unstarted v d same) h = cc
serves_placed q now u drawn old new place (misdated p e bad v d same) h = cc
serves_placed q now u drawn old new place (by_ring p e needs good r between x bytes d f) h = absurd (unplaced p r u bytes between new.draws place f h)
serves_placed q now u drawn old new place (by_place p e good a asks r x d v) h =
    let last = placed_last a place new.host.own x.course (subst (λ (y : Result ℕ Refusal). PlacePath a y new.host.own x.course) (subst (IsByPlace r) h v) x.is) in
    (ap need_of e ∙ asks_none p now old.host.own new.store.list a asks, omega (arith, last.behind, ap length (asks_own p now old.host.own new.store.list a asks)))

entry_fresh : (b : List ℕ) (e : Entry) (old new : SessionState) → IsEntry b e old new → IsFresh e
entry_fresh b e old new p = by e.used refl
  where
    needs : has_list e.used ≡ true → e.need ≡ need_of (request_at b)
    needs h = kept_need e.need (need_of (request_at b)) e.used e.steps e.drawn p.need h

    by : (u : Used) → e.used ≡ u → IsFreshUse e.need e.seen u
    by (used.Ring front made_at) is =
        let h : has_list e.used ≡ true = ap has_list is in
        let f = front_seen e.used new.host.own (serves_front _ _ e.used e.drawn _ _ p.serves) h in (
          omega (arith, ap front_of is, needs h, serves_need (request_at b) e.now e.used e.drawn _ _ p.serves h),
          omega (arith, ap front_of is, f, p.seen, IsFrontOf-le old.host.own new.host.own p.grows),
        )
    by (used.Placed place) is =
        let s = serves_placed (request_at b) e.now e.used e.drawn _ _ place p.serves is in
        (needs (ap has_list is) ∙ s.0, omega (arith, p.seen, s.1))
    by (used.Refused why) is = tt
    by (used.BadRequest place) is = tt
    by used.NoMemory is = tt

pub chain_fresh : (n : ℕ) (bodies : List (List ℕ)) (es : List Entry) (old new : SessionState) → n ≤ length old.host.own → Chain bodies es old new → AreFresh n es
chain_fresh n [] [] old new le p = tt
chain_fresh n [] (e ∷ es) old new le p = absurd p
chain_fresh n (b ∷ bodies) [] old new le p = absurd p
chain_fresh n (b ∷ bodies) (e ∷ es) old new le p =
    let i = p.1 in
    let front = front_within e.used p.0.host.own (serves_front _ _ e.used e.drawn _ _ i.serves) in (
      omega (arith, i.seen),
      entry_fresh b e old p.0 i,
      chain_fresh (max e.seen (front_of e.used)) bodies es p.0 new (omega (arith, i.seen, front, IsFrontOf-le old.host.own p.0.host.own i.grows)) p.2,
    )

-- steps that count what their path was refused for, a fault of the draw too
abbrev CountedBy : Refusal → List Step → Type 0
CountedBy flight.StoreFault steps = 1 ≤ (tally steps).faults
CountedBy flight.DrawFault steps = 1 ≤ draws_failed steps
CountedBy (flight.Shorter had got) steps = 1 ≤ (tally steps).shorts
CountedBy (flight.Behind have need) steps = Unit {0}
CountedBy (flight.Forked at left right) steps = Unit {0}
CountedBy (flight.Full count) steps = 1 ≤ (tally steps).fulls
CountedBy flight.BadDates steps = Unit {0}
CountedBy flight.Memory steps = Unit {0}

counted : (why : Refusal) (steps : List Step) → CountedBy why steps → AreCounted why steps
counted flight.StoreFault steps h = h
counted flight.DrawFault steps h = tt
counted (flight.Shorter had got) steps h = h
counted (flight.Behind have need) steps h = h
counted (flight.Forked at left right) steps h = h
counted (flight.Full count) steps h = h
counted flight.BadDates steps h = h
counted flight.Memory steps h = h

-- a fault of the draw is among the steps of a path that was refused for it
path_faults : (why : NodeError) (steps : List Step) → CountedBy (refusal why) steps → draws_failed steps ≡ draw_faults (used.Refused why) steps
path_faults errors.StoreFault steps h = omega arith
path_faults errors.DrawFault steps h = omega (arith, h)
path_faults (errors.WentBack had got) steps h = omega arith
path_faults (errors.Behind have need) steps h = omega arith
path_faults (errors.Forked f) steps h = omega arith
path_faults (errors.Full count) steps h = omega arith
path_faults errors.BadDates steps h = omega arith
path_faults errors.Memory steps h = omega arith

abbrev no_ring : Refusal → Result RingOf Refusal
no_ring why = Err why

same_refusal : (a b : Refusal) (steps : List Step) → no_ring a ≡ no_ring b → CountedBy a steps → CountedBy b steps
same_refusal a b steps e h = let f : a ≡ b = cc in subst (λ (w : Refusal). CountedBy w steps) f h

path_counted : (c : Call) (p : Path) (why : Refusal) → path_end c p ≡ Err why → CountedBy why (path_course c p).steps
path_counted c (FirstLookFailed n) why e = same_refusal flight.Memory why _ e tt
path_counted c (AtOnce s) why e = cc
path_counted c (Stale s h) why e = cc
path_counted c (Alone s h es) why e = cc
path_counted c (Turned s (LookFailed n)) why e = same_refusal flight.Memory why _ e tt
path_counted c (Turned s (Rests t)) why e = cc
path_counted c (Turned s (Parts t at)) why e = same_refusal (flight.Forked at c.own t.ring.list) why _ e tt
path_counted c (Turned s (Flies t (Flown w f))) why e = cc
path_counted c (Turned s (Flies t (Broken NoRead))) why e = same_refusal flight.StoreFault why _ e (omega arith)
path_counted c (Turned s (Flies t (Broken (ShortRead had got)))) why e = same_refusal (flight.Shorter had got) why _ e (omega arith)
path_counted c (Turned s (Flies t (Broken (NoDraw es)))) why e = same_refusal flight.DrawFault why _ e (omega arith)
path_counted c (Turned s (Flies t (Broken (NoKeyDraw es w)))) why e = same_refusal flight.DrawFault why _ e (omega arith)
path_counted c (Turned s (Flies t (Broken (NoAppend es w k)))) why e = same_refusal flight.StoreFault why _ e (omega arith)
path_counted c (Turned s (Flies t (Broken (ShortAppend es w k got)))) why e = same_refusal (flight.Shorter (length es) got) why _ e (omega arith)
path_counted c (AloneFailed s h) why e = same_refusal flight.StoreFault why _ e (omega arith)
path_counted c (AloneShort s h had got) why e = same_refusal (flight.Shorter had got) why _ e (omega arith)
path_counted c (Apart s at) why e = same_refusal (flight.Forked at c.own s.ring.list) why _ e tt

-- a call refused for what its path was refused, or answered Behind
answered_counted : (c : Call) (x : Result RingOf Refusal) (why : Refusal) (steps : List Step) → answered c.need x ≡ Err why → ((w : Refusal) → x ≡ Err w → CountedBy w steps) → CountedBy why (steps ++ answer_steps x)
answered_counted c (Ok r) why steps e h = behind (nat_le c.need (length r.list)) e
  where
    behind : (b : Bool) → (if b then Ok r else Err (flight.Behind (length r.list) c.need)) ≡ Err why → CountedBy why (steps ++ answer_steps (Ok r))
    behind true f = cc
    behind false f = same_refusal (flight.Behind (length r.list) c.need) why _ f tt
answered_counted c (Err w) why steps e h =
    let f : w ≡ why = cc in
    subst (λ (s : List Step). CountedBy why s) (sym (append-nil steps)) (subst (λ (v : Refusal). CountedBy v steps) f (h w refl))

-- what steps counted, steps before them leave, and steps behind them
counted-behind : (why : Refusal) (s t : List Step) → CountedBy why t → CountedBy why (s ++ t)
counted-behind flight.StoreFault s t h = omega (arith, h, tally_faults-append s t)
counted-behind flight.DrawFault s t h = omega (arith, h, draws_failed-append s t)
counted-behind (flight.Shorter had got) s t h = omega (arith, h, tally_shorts-append s t)
counted-behind (flight.Behind have need) s t h = tt
counted-behind (flight.Forked at left right) s t h = tt
counted-behind (flight.Full count) s t h = omega (arith, h, tally_fulls-append s t)
counted-behind flight.BadDates s t h = tt
counted-behind flight.Memory s t h = tt

counted-before : (why : Refusal) (s t : List Step) → CountedBy why s → CountedBy why (s ++ t)
counted-before flight.StoreFault s t h = omega (arith, h, tally_faults-append s t)
counted-before flight.DrawFault s t h = omega (arith, h, draws_failed-append s t)
counted-before (flight.Shorter had got) s t h = omega (arith, h, tally_shorts-append s t)
counted-before (flight.Behind have need) s t h = tt
counted-before (flight.Forked at left right) s t h = tt
counted-before (flight.Full count) s t h = omega (arith, h, tally_fulls-append s t)
counted-before flight.BadDates s t h = tt
counted-before flight.Memory s t h = tt

turn_counted : (c : Call) (t : HolderPath) (why : Refusal) → turn_end c t ≡ Err why → CountedBy why (turn_course c t).steps
turn_counted c (LookFailed n) why e = same_refusal flight.Memory why _ e tt
turn_counted c (Rests t) why e = cc
turn_counted c (Parts t at) why e = same_refusal (flight.Forked at c.own t.ring.list) why _ e tt
turn_counted c (Flies t (Flown w f)) why e = cc
turn_counted c (Flies t (Broken NoRead)) why e = same_refusal flight.StoreFault why _ e (omega arith)
turn_counted c (Flies t (Broken (ShortRead had got))) why e = same_refusal (flight.Shorter had got) why _ e (omega arith)
turn_counted c (Flies t (Broken (NoDraw es))) why e = same_refusal flight.DrawFault why _ e (omega arith)
turn_counted c (Flies t (Broken (NoKeyDraw es w))) why e = same_refusal flight.DrawFault why _ e (omega arith)
turn_counted c (Flies t (Broken (NoAppend es w k))) why e = same_refusal flight.StoreFault why _ e (omega arith)
turn_counted c (Flies t (Broken (ShortAppend es w k got))) why e = same_refusal (flight.Shorter (length es) got) why _ e (omega arith)

way_counted : (c : Call) (w : Way) (why : Refusal) → way_end c w ≡ Err why → CountedBy why (way_course c w).steps
way_counted c (Comes p r Keeps) why e = cc
way_counted c (Comes p r (Stays h)) why e = cc
way_counted c (Comes p r (Again t)) why e =
    counted-behind why (path_course c p).steps (Take ∷ ((turn_course c t).steps ++ Give ∷ [])) (counted-behind why (Take ∷ []) ((turn_course c t).steps ++ Give ∷ []) (counted-before why (turn_course c t).steps (Give ∷ []) (turn_counted c t why e)))
way_counted c (Fails p) why e = path_counted c p why e

call_counted : (c : Call) (why : Refusal) (own : List Element) (d : Course) → CallPath c (Err why) own d → (why ≡ flight.Memory → ⊥) → CountedBy why d.steps
call_counted c why own d (way.complete w is line e o s) known =
    subst (λ (x : Course). CountedBy why x.steps) (sym s) (answered_counted c (way_end c w) why (way_course c w).steps e (λ v f. way_counted c w v f))
call_counted c why own d (way.cut_off w is line e o k) known = let f : why ≡ flight.Memory = cc in absurd (known f)

-- a call that came to a ring had no draw that failed
turn_draws : (c : Call) (t : HolderPath) (r : RingOf) → turn_end c t ≡ Ok r → draws_failed (turn_course c t).steps ≡ 0
turn_draws c (LookFailed n) r e = cc
turn_draws c (Rests t) r e = omega arith
turn_draws c (Parts t at) r e = cc
turn_draws c (Flies t (Flown w (Plain es))) r e = omega arith
turn_draws c (Flies t (Flown w (Keyed es k fs))) r e = omega arith
turn_draws c (Flies t (Flown w (Filled es k))) r e = omega arith
turn_draws c (Flies t (Flown w (Shrunk es k got))) r e = omega arith
turn_draws c (Flies t (Broken b)) r e = cc

path_draws : (c : Call) (p : Path) (r : RingOf) → path_end c p ≡ Ok r → draws_failed (path_course c p).steps ≡ 0
path_draws c (FirstLookFailed n) r e = cc
path_draws c (AtOnce s) r e = omega arith
path_draws c (Stale s h) r e = omega arith
path_draws c (Alone s h es) r e = omega arith
path_draws c (Turned s t) r e = omega (arith, draws_failed-append (turn_course c t).steps (Give ∷ []), turn_draws c t r e)
path_draws c (AloneFailed s h) r e = cc
path_draws c (AloneShort s h had got) r e = cc
path_draws c (Apart s at) r e = cc

settle_draws : (c : Call) (x : Settle) (at_hand r : RingOf) → settle_end c at_hand x ≡ Ok r → draws_failed (settle_course c x).steps ≡ 0
settle_draws c Keeps at_hand r e = omega arith
settle_draws c (Stays h) at_hand r e = omega arith
settle_draws c (Again t) at_hand r e = omega (arith, draws_failed-append (turn_course c t).steps (Give ∷ []), turn_draws c t r e)

way_draws : (c : Call) (w : Way) (r : RingOf) → IsWay c w → way_end c w ≡ Ok r → draws_failed (way_course c w).steps ≡ 0
way_draws c (Comes p q x) r is e =
    omega (arith, draws_failed-append (path_course c p).steps (settle_course c x).steps, path_draws c p q is.1, settle_draws c x q r e)
way_draws c (Fails p) r is e = cc

abbrev come_to : RingOf → Result RingOf Refusal
come_to r = Ok r

within-ok : (b : Bool) (y r : RingOf) (why : Refusal) → (if b then come_to y else Err why) ≡ come_to r → come_to y ≡ come_to r
within-ok true y r why e = e
within-ok false y r why e = cc

answered_ok : (need : ℕ) (x : Result RingOf Refusal) (r : RingOf) → answered need x ≡ Ok r → x ≡ Ok r
answered_ok need (Ok y) r e = within-ok (nat_le need (length y.list)) y r (flight.Behind (length y.list) need) e
answered_ok need (Err why) r e = cc

ring_draws : (c : Call) (ring : RingOf) (own : List Element) (d : Course) → CallPath c (Ok ring) own d → draws_failed d.steps ≡ 0
ring_draws c ring own d (way.complete w is line e o s) =
    omega (arith, ap (λ (x : Course). draws_failed x.steps) s, draws_failed-append (way_course c w).steps (answer_steps (way_end c w)), answer_draws (way_end c w), way_draws c w ring is (answered_ok c.need (way_end c w) ring e))
  where
    answer_draws : (x : Result RingOf Refusal) → draws_failed (answer_steps x) ≡ 0
    answer_draws (Ok r) = omega arith
    answer_draws (Err why) = omega arith
ring_draws c ring own d (way.cut_off w is line e o k) = cc

append_failed : (b : Bool) → 1 ≤ (tally ((draw_steps b ++ AppendFailed ∷ []) ++ [])).faults
append_failed true = omega arith
append_failed false = omega arith

append_full : (b : Bool) → 1 ≤ (tally ((draw_steps b ++ AppendFull ∷ []) ++ [])).fulls
append_full true = omega arith
append_full false = omega arith

append_short : (b : Bool) (n got : ℕ) → 1 ≤ (tally ((draw_steps b ++ WentBack n got ∷ []) ++ [])).shorts
append_short true n got = omega arith
append_short false n got = omega arith

abbrev no_place : Refusal → Result ℕ Refusal
no_place why = Err why

same_place : (a b : Refusal) (steps : List Step) → no_place a ≡ no_place b → CountedBy a steps → CountedBy b steps
same_place a b steps e h = let f : a ≡ b = cc in subst (λ (w : Refusal). CountedBy w steps) f h

placing_counted : (a : Asked) (p : Placing) (why : Refusal) → placing.place_of (place_end a p) ≡ Err why → CountedBy why ((place_course a p).steps ++ placing.placed_steps (place_end a p))
placing_counted a (Placed b fs) why e = cc
placing_counted a Undrawn why e = same_place flight.DrawFault why _ e (omega arith)
placing_counted a (Unplaced b) why e = same_place flight.StoreFault why _ e (append_failed a.draws)
placing_counted a (Overfull b) why e = same_place (flight.Full MAX_ELEMENTS) why _ e (append_full a.draws)
placing_counted a (Receded b got) why e = same_place (flight.Shorter (length a.own) got) why _ e (append_short a.draws (length a.own) got)

place_counted : (a : Asked) (why : Refusal) (own : List Element) (d : Course) → PlacePath a (Err why) own d → (why ≡ flight.Memory → ⊥) → CountedBy why d.steps
place_counted a why own d (placing.complete p is e o s) known = subst (λ (x : Course). CountedBy why x.steps) (sym s) (placing_counted a p why e)
place_counted a why own d (placing.cut_off p is e o k) known = let f : why ≡ flight.Memory = cc in absurd (known f)

not_memory : (why : NodeError) → (why ≡ errors.Memory → ⊥) → refusal why ≡ flight.Memory → ⊥
not_memory errors.StoreFault known e = cc
not_memory errors.DrawFault known e = cc
not_memory (errors.WentBack had got) known e = cc
not_memory (errors.Behind have need) known e = cc
not_memory (errors.Forked f) known e = cc
not_memory (errors.Full count) known e = cc
not_memory errors.BadDates known e = cc
not_memory errors.Memory known e = known refl

-- what one request counted of what it was refused for, and how many draws of its steps and for its
-- payload failed
record CountsRefusal (u : Used) (steps : List Step) (old new : DrawState) : Type 0 where
  refused : IsCounted u steps
  draws : (k : ℕ) × (k ≤ no_memory u) × (new.faults ≡ more (draw_faults u steps + k) old.faults)

-- no draw failed beside those that are told
no_other : (n : ℕ) (u : Used) (steps : List Step) (old new : DrawState) → n ≡ draw_faults u steps → new.faults ≡ more n old.faults → (k : ℕ) × (k ≤ no_memory u) × (new.faults ≡ more (draw_faults u steps + k) old.faults)
no_other n u steps old new e f =
    let same : n ≡ draw_faults u steps + 0 = omega (arith, e) in (0, omega arith, f ∙ ap (λ (m : ℕ). more m old.faults) same)

same_counts : (u w : Used) (steps : List Step) (old new : DrawState) → u ≡ w → CountsRefusal w steps old new → CountsRefusal u steps old new
same_counts u w steps old new e c = subst (λ (x : Used). CountsRefusal x steps old new) (sym e) c

same_why : (a b : Refusal) → no_ring a ≡ no_ring b → a ≡ b
same_why a b e = cc

same_place_why : (a b : Refusal) → no_place a ≡ no_place b → a ≡ b
same_place_why a b e = cc

ring_given : {ring : RingOf} → come_to ring ≡ no_ring flight.Memory → ⊥
ring_given e = cc

module _ (c : Call) (p : Request) (r : Result RingOf Refusal) (own : List Element) (d : Course) (u : Used) (bytes : List ℕ) (old between new : DrawState) where
  one_fault : CallPath c r own d → Draws (draws_failed d.steps) d.drawn old between → draws_failed d.steps ≡ 0 → Draws 1 [] between new → new.faults ≡ more 1 old.faults
  one_fault x draws none s = s.faults ∙ ap (more 1) (draws.faults ∙ ap (λ (n : ℕ). more n old.faults) none)

  -- a call of the repository without a step is that of a request that found no memory
  follows_noted : CallPath c r own d → AnswersByRing p r u bytes between new → d.unnoted ≤ no_memory u
  follows_noted x (refused why e k v b s) = omega (arith, call_all_noted c r own d x (λ m. not_memory why k (same_why (refusal why) flight.Memory (sym e ∙ m))))
  follows_noted x (answered_by ring e v n s) = omega (arith, call_all_noted c r own d x (λ m. ring_given (sym e ∙ m)))
  follows_noted x (undrawn ring e k v b s) = omega (arith, call_all_noted c r own d x (λ m. ring_given (sym e ∙ m)))
  follows_noted x (stopped v b s) = omega (arith, call_noted c r own d x, ap no_memory v)
  follows_noted x (lost ring e v n s) = omega (arith, call_noted c r own d x, ap no_memory v)
  follows_noted x (unheard ring e k v b s) = omega (arith, call_noted c r own d x, ap no_memory v)

  follows_counts : CallPath c r own d → Draws (draws_failed d.steps) d.drawn old between → AnswersByRing p r u bytes between new → CountsRefusal u d.steps old new
  follows_counts x draws (refused why e k v b s) =
      let by = call_counted c (refusal why) own d (subst (λ (y : Result RingOf Refusal). CallPath c y own d) e x) (not_memory why k) in
      same_counts u (used.Refused why) d.steps old new v (record {
        refused = counted (refusal why) d.steps by;
        draws = no_other _ (used.Refused why) d.steps old new (path_faults why d.steps by) (ap (λ (z : DrawState). z.faults) s ∙ draws.faults);
      })
  follows_counts x draws (answered_by ring e v n s) =
      same_counts u (used.Ring (length ring.list) ring.made_at) d.steps old new v (record { refused = tt; draws = no_other _ (used.Ring (length ring.list) ring.made_at) d.steps old new refl (s.faults ∙ draws.faults) })
  follows_counts x draws (undrawn ring e k v b s) =
      let none = ring_draws c ring own d (subst (λ (y : Result RingOf Refusal). CallPath c y own d) e x) in
      same_counts u (used.Refused errors.DrawFault) d.steps old new v (record {
        refused = tt;
        draws = no_other 1 (used.Refused errors.DrawFault) d.steps old new (omega (arith, none)) (one_fault x draws none s);
      })
  follows_counts x draws (stopped v b s) = same_counts u used.NoMemory d.steps old new v (record { refused = tt; draws = no_other _ used.NoMemory d.steps old new refl (ap (λ (z : DrawState). z.faults) s ∙ draws.faults) })
  follows_counts x draws (lost ring e v n s) = same_counts u used.NoMemory d.steps old new v (record { refused = tt; draws = no_other _ used.NoMemory d.steps old new refl (s.faults ∙ draws.faults) })
  follows_counts x draws (unheard ring e k v b s) =
      same_counts u used.NoMemory d.steps old new v (record { refused = tt; draws = (1, omega arith, s.faults ∙ ap (more 1) draws.faults ∙ more-more (draws_failed d.steps) 1 old.faults) })

placed_noted : (a : Asked) (r : Result ℕ Refusal) (own : List Element) (d : Course) (u : Used) → PlacePath a r own d → IsByPlace r u → d.unnoted ≤ no_memory u
placed_noted a r own d (used.Ring front made_at) x v = absurd v
placed_noted a r own d (used.Placed place) x v = omega (arith, place_all_noted a r own d x (λ m. found (sym v ∙ m)))
  where
    at_place : ℕ → Result ℕ Refusal
    at_place n = Ok n

    found : at_place place ≡ no_place flight.Memory → ⊥
    found e = cc
placed_noted a r own d (used.Refused why) x v = omega (arith, place_all_noted a r own d x (λ m. not_memory why v.1 (same_place_why (refusal why) flight.Memory (sym v.0 ∙ m))))
placed_noted a r own d (used.BadRequest place) x v = absurd v
placed_noted a r own d used.NoMemory x v = place_noted a r own d x

placed_counts : (a : Asked) (r : Result ℕ Refusal) (own : List Element) (d : Course) (u : Used) (old new : DrawState) → PlacePath a r own d → Draws (draws_failed d.steps) d.drawn old new → IsByPlace r u → CountsRefusal u d.steps old new
placed_counts a r own d (used.Ring front made_at) old new x draws v = absurd v
placed_counts a r own d (used.Placed place) old new x draws v = record { refused = tt; draws = no_other _ (used.Placed place) d.steps old new refl draws.faults }
placed_counts a r own d (used.Refused why) old new x draws v =
    let by = place_counted a (refusal why) own d (subst (λ (y : Result ℕ Refusal). PlacePath a y own d) v.0 x) (not_memory why v.1) in
    record { refused = counted (refusal why) d.steps by; draws = no_other _ (used.Refused why) d.steps old new (path_faults why d.steps by) draws.faults }
placed_counts a r own d (used.BadRequest place) old new x draws v = absurd v
placed_counts a r own d used.NoMemory old new x draws v = record { refused = tt; draws = no_other _ used.NoMemory d.steps old new refl draws.faults }

-- what one request counted
record CountsOf (u : Used) (steps : List Step) (old new : Books) : Type 0 where
  acts : latest new.host.acts ≡ latest (old.host.acts ++ acts (length old.host.looked.list) steps)
  looked : length new.host.looked.list ≡ node.looked_count (length old.host.looked.list) steps
  calls : (k : ℕ) × (k ≤ no_memory u) × (new.store.calls ≡ more ((tally steps).calls + k) old.store.calls)
  faults : new.store.faults ≡ more (tally steps).faults old.store.faults
  shorts : new.store.shorts ≡ more (tally steps).shorts old.store.shorts
  fulls : new.store.fulls ≡ more (tally steps).fulls old.store.fulls
  mine : new.store.mine ≡ old.store.mine ++ (tally steps).places
  mark : new.store.mark ≡ old.store.mark
  own : CountsRefusal u steps old.draws new.draws

module _ (q : Result Request BadRequest) (now : ℕ) (u : Used) (drawn : List ℕ) (old new : Books) where
  idle_counts : old.steps ≡ [] → new ≡ old → CountsRefusal u [] old.draws old.draws → CountsOf u new.steps old new
  idle_counts none same own =
      subst (λ (b : Books). CountsOf u b.steps old b) (sym same) (subst (λ (s : List Step). CountsOf u s old old) (sym none) (record {
        acts = ap latest (sym (append-nil old.host.acts));
        looked = refl;
        calls = (0, omega arith, refl);
        faults = refl;
        shorts = refl;
        fulls = refl;
        mine = sym (append-nil old.store.mine);
        mark = refl;
        own = own;
      }))

  does_counts : {P : Course → Type 0} (mid : Books) → mid.store ≡ new.store → mid.steps ≡ new.steps → mid.host ≡ new.host → old.steps ≡ [] → (x : Does P old mid) → x.course.unnoted ≤ no_memory u → CountsRefusal u x.course.steps old.draws new.draws → CountsOf u new.steps old new
  does_counts mid store kept host none x noted own =
      let steps : x.course.steps ≡ new.steps = sym (x.recorded.steps ∙ ap (λ (s : List Step). s ++ x.course.steps) none) ∙ kept in
      subst (λ (s : List Step). CountsOf u s old new) steps (record {
        acts = ap (λ (s : HostState). latest s.acts) (sym host) ∙ x.recorded.acts;
        looked = ap (λ (s : HostState). length s.looked.list) (sym host) ∙ x.recorded.front;
        calls = (x.course.unnoted, noted, ap (λ (s : Store). s.calls) (sym store) ∙ x.recorded.store.calls);
        faults = ap (λ (s : Store). s.faults) (sym store) ∙ x.recorded.store.faults;
        shorts = ap (λ (s : Store). s.shorts) (sym store) ∙ x.recorded.store.shorts;
        fulls = ap (λ (s : Store). s.fulls) (sym store) ∙ x.recorded.store.fulls;
        mine = ap (λ (s : Store). s.mine) (sym store) ∙ x.recorded.store.mine;
        mark = ap (λ (s : Store). s.mark) (sym store) ∙ x.recorded.store.mark;
        own = own;
      })

  serves_counts : old.steps ≡ [] → Serves q now u drawn old new → CountsOf u new.steps old new
  serves_counts none (unread why e v d same) = idle_counts none same (same_counts u (used.BadRequest why.place) [] old.draws old.draws v (record { refused = tt; draws = (0, omega arith, refl) }))
  serves_counts none (unstarted v d same) = idle_counts none same (same_counts u used.NoMemory [] old.draws old.draws v (record { refused = tt; draws = (0, omega arith, refl) }))
  serves_counts none (misdated p e bad v d same) = idle_counts none same (same_counts u (used.Refused errors.BadDates) [] old.draws old.draws v (record { refused = tt; draws = (0, omega arith, refl) }))
  serves_counts none (by_ring p e needs good r between x bytes d f) =
      does_counts (record new { draws = between }) refl refl refl none x (follows_noted _ p r new.host.own x.course u bytes old.draws between new.draws x.is f) (follows_counts _ p r new.host.own x.course u bytes old.draws between new.draws x.is x.recorded.draws f)
  serves_counts none (by_place p e good a asks r x d v) = does_counts new refl refl refl none x (placed_noted a r new.host.own x.course u x.is v) (placed_counts a r new.host.own x.course u old.draws new.draws x.is x.recorded.draws v)

then_more : (j k a b c : ℕ) → b ≡ more j a → c ≡ more k b → c ≡ more (j + k) a
then_more j k a b c p q = q ∙ ap (more k) p ∙ more-more j k a

-- numbers that are known but for a few more, added up
both_some : (i j l m a b c : ℕ) → (x : ℕ) × (x ≤ l) × (b ≡ more (i + x) a) → (y : ℕ) × (y ≤ m) × (c ≡ more (j + y) b) → (z : ℕ) × (z ≤ l + m) × (c ≡ more (i + j + z) a)
both_some i j l m a b c p q =
    let sum : (i + p.0) + (j + q.0) ≡ i + j + (p.0 + q.0) = omega arith in
    (p.0 + q.0, omega (arith, p.1, q.1), then_more (i + p.0) (j + q.0) a b c p.2 q.2 ∙ ap (λ (t : ℕ). more t a) sum)

pub chain_counts : (bodies : List (List ℕ)) (es : List Entry) (old new : SessionState) → Chain bodies es old new → AreCountedBy es old new
chain_counts [] [] old new p = record {
  acts = ap (λ (s : SessionState). latest s.host.acts) p ∙ ap latest (sym (append-nil old.host.acts));
  calls = (0, omega arith, ap (λ (s : SessionState). s.store.calls) p);
  faults = ap (λ (s : SessionState). s.store.faults) p;
  shorts = ap (λ (s : SessionState). s.store.shorts) p;
  fulls = ap (λ (s : SessionState). s.store.fulls) p;
  mine = ap (λ (s : SessionState). s.store.mine) p ∙ sym (append-nil old.store.mine);
  mark = ap (λ (s : SessionState). s.store.mark) p;
  draws = (0, omega arith, ap (λ (s : SessionState). s.draws.faults) p);
  refused = tt;
}
chain_counts [] (e ∷ es) old new p = absurd p
chain_counts (b ∷ bodies) [] old new p = absurd p
chain_counts (b ∷ bodies) (e ∷ es) old new p =
    let one = serves_counts (request_at b) e.now e.used e.drawn (before old) (after e.steps p.0) refl p.1.serves in
    let rest = chain_counts bodies es p.0 new p.2 in
    record {
      acts = acts_joined (length old.host.looked.list) (length p.0.host.looked.list) old.host.acts p.0.host.acts new.host.acts e.steps (all_steps es) one.looked one.acts rest.acts;
      calls = both_some _ _ _ _ _ _ _ one.calls rest.calls;
      faults = then_more _ _ _ _ _ one.faults rest.faults;
      shorts = then_more _ _ _ _ _ one.shorts rest.shorts;
      fulls = then_more _ _ _ _ _ one.fulls rest.fulls;
      mine = rest.mine ∙ ap (λ (m : List ℕ). m ++ flat_map (λ (x : Entry). (tally x.steps).places) es) one.mine ∙ append_assoc old.store.mine (tally e.steps).places (flat_map (λ (x : Entry). (tally x.steps).places) es);
      mark = rest.mark ∙ one.mark;
      draws = both_some _ _ _ _ _ _ _ one.own.draws rest.draws;
      refused = (one.own.refused, rest.refused);
    }
