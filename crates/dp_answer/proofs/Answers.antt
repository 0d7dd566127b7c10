-- Answers to requests, from the paths of their calls.
use Rattle.std.proofs.Common.{◌≡◌, ℕ, ◌+◌, ◌-◌, ◌≤◌, ◌<◌, ◌^◌, Bool, true, false, if◌then◌else◌, nat_lt, List, [], ◌∷◌, ◌++◌, length, take, drop, Option, Some, None, Result, Ok, Err, IsErr, OnOk, refl, sym, ap, ◌∙◌, subst, arith, ◌⊎◌, ⊎_elim, inl, inr}
use Rattle.std.proofs.lemmas.Bool.{le-ltb}
use Rattle.std.proofs.lemmas.Bool.Decides.{leb_tells}
use Rattle.std.proofs.lemmas.List.{length-append, drop_at}
use Rattle.dp_base.specs.Draws.{DrawState}
use Rattle.dp_base.specs.Guid.{guid, drawn_id}
use Rattle.dp_base.specs.declared.ticks.TheConstants.{MAX_TICKS}
use Rattle.dp_base.specs.declared.key_id.KeyId.{KeyId}
use Rattle.dp_base.proofs.Guid.{length-guid}
use Rattle.dp_base.specs.declared.want.Memory.{Memory}
use Rattle.key_elements.specs.declared.element.Element.{Element}
use Rattle.key_ring.specs.Ring.{RingOf}
use Rattle.repo_keeper.specs.Made.{key_of_draw, AreBadDates}
use Rattle.repo_keeper.specs.Store.{Store}
use Rattle.ring_world.specs.declared.step.Step.{Step}
use Rattle.ring_world.specs.Course.{Course}
use Rattle.ring_world.specs.Flight.{Refusal}
use Rattle.ring_world.specs.Way.{CallPath}
use Rattle.ring_world.specs.Placing.{Asked, PlacePath}
use Rattle.node_calls.specs.declared.error.NodeError.{NodeError}
use Rattle.node_calls.specs.declared.error.NodeError.TheVariants as errors
use Rattle.node_calls.specs.HostState.{HostState}
use Rattle.node_calls.specs.Books.{Books, books, Does}
use Rattle.node_calls.specs.Calls.{call}
use Rattle.node_calls.specs.Gather.{refusal}
use Rattle.node_calls.specs.Places.{asked, EndsWithKey}
use Rattle.dp_wire.specs.declared.reply.Reply.{Reply}
use Rattle.dp_wire.specs.declared.reply.Reply.TheVariants as replies
use Rattle.dp_wire.specs.declared.request.BadRequest.{BadRequest}
use Rattle.dp_wire.specs.Frame.{frame}
use Rattle.dp_wire.specs.Replies.{reply_body, flags}
use Rattle.dp_wire.specs.Request.{Request, Ring, Roll, Revoke, RevokeBefore, Protect, Unprotect, ProtectText, UnprotectText, ProtectTimed, UnprotectTimed, field}
use Rattle.dp_protector.specs.Protect.{draw_len, sealing}
use Rattle.dp_protector.specs.Opening.{opened}
use Rattle.dp_protector.specs.Text.{opened_text}
use Rattle.dp_protector.specs.Timed.{opened_timed}
use Rattle.dp_answer.specs.declared.response.Response.{Response}
use Rattle.dp_answer.specs.declared.trace.Used.{Used}
use Rattle.dp_answer.specs.declared.trace.Used.TheVariants as used
use Rattle.dp_answer.specs.Replies.{answer_by, refusal_reply, reply_by_place, reply_by_ring, reply_to, ring_at, sealed_with, FitsFrame}
use Rattle.dp_answer.specs.Needs.{need_of, needs_ring, missing_of, sealed_len, HasBadDates}
use Rattle.dp_answer.specs.Responding as by
use Rattle.dp_answer.specs.Responding.{Responds}
use Rattle.dp_answer.specs.Serving.{Serves, by_ring, by_place, misdated, unread, unstarted, refused, answered, undrawn, stopped, lost, unheard, asking, Served, IsAnswer, IsListOf, Asks}
use Rattle.dp_answer.proofs.Paths.{own_by_ring, placed_last, drawn_key_id}

-- a reply is short where its text is
pub short_body : (r : Reply) → FitsFrame r → length (reply_body r) < 2 ^ 32
unfolding reply_body
short_body (replies.Ring front l) h = omega (arith, length-append (field front) l.now)
short_body (replies.Rolled front id) h = omega (arith, length-append (field front) (guid id.0), length-guid id.0)
short_body (replies.Revoked front) h = omega arith
short_body (replies.RevokedBefore front) h = omega arith
short_body (replies.Protected front p) h = omega (arith, length-append (field front) p.now)
short_body (replies.ProtectedText front p) h = omega (arith, length-append (field front) p.now)
short_body (replies.ProtectedTimed front p) h = omega (arith, length-append (field front) p.now)
short_body (replies.Unprotected front r d p) h = omega (arith, length-append (field front) (flags r d ∷ p.now))
short_body (replies.UnprotectedText front r d p) h = omega (arith, length-append (field front) (flags r d ∷ p.now))
short_body (replies.UnprotectedTimed front r d x p) h = omega (arith, length-append (field front) (flags r d ∷ field x ++ p.now), length-append (field x) p.now)
short_body (replies.BadRequest place) h = omega arith
short_body replies.NoMemory h = omega arith
short_body replies.StoreFault h = omega arith
short_body replies.DrawFault h = omega arith
short_body (replies.WentBack had got) h = omega (arith, length-append (field had) (field got))
short_body (replies.Behind have need) h = omega (arith, length-append (field have) (field need))
short_body (replies.Forked at) h = omega arith
short_body (replies.Full count) h = omega arith
short_body replies.BadDates h = omega arith
short_body (replies.BadHeader front) h = omega arith
short_body (replies.BadVersion front) h = omega arith
short_body (replies.KeyNotFound front id) h = omega (arith, length-append (field front) (guid id.0), length-guid id.0)
short_body (replies.KeyRevoked front id) h = omega (arith, length-append (field front) (guid id.0), length-guid id.0)
short_body (replies.KeyUnusable front id) h = omega (arith, length-append (field front) (guid id.0), length-guid id.0)
short_body (replies.Tampered front) h = omega arith
short_body (replies.Invalid front) h = omega arith
short_body (replies.Expired front at) h = omega (arith, length-append (field front) (field at))
short_body (replies.NoDefaultKey front) h = omega arith
short_body (replies.TooLong front len) h = omega (arith, length-append (field front) (field len))
short_body (replies.BadText front) h = omega arith
short_body (replies.NotText front) h = omega arith

module _ (app : List ℕ) (q : Result Request BadRequest) (now : ℕ) (u : Used) (drawn : List ℕ) (old new : Books) where
  -- an answer to a request that was served
  pub served : (r : Result Response Memory) (body : List ℕ) (list : Option (List Element)) → IsAnswer u body list r → OnOk r (Serves q now u drawn old new) → Serves q now used.NoMemory drawn old new
      → body ≡ reply_to app now q u drawn new.host.own → IsListOf u list new.host.own → Served app q now r drawn old new
  served (Ok a) body list is well gone reply listed = (
    subst (λ (v : Used). Serves q now v drawn old new) (sym is.0) well,
    is.1 ∙ ap frame (reply ∙ ap (λ (v : Used). reply_to app now q v drawn new.host.own) (sym is.0)),
    subst (λ (v : Used). IsListOf v a.list new.host.own) (sym is.0) (subst (λ (l : Option (List Element)). IsListOf u l new.host.own) (sym is.2) listed),
  )
  served (Err w) body list is well gone reply listed = gone

on_unit : (r : Result Response Memory) → OnOk r (Unit {0})
on_unit (Ok a) = tt
on_unit (Err w) = tt

on_ok : {P Q : Type 0} (r : Result Response Memory) → OnOk r P → (P → Q) → OnOk r Q
on_ok (Ok a) h f = f h
on_ok (Err w) h f = tt

-- no reply depends on when its ring is due
same_by_ring : (app : List ℕ) (now : ℕ) (p : Request) (ring : RingOf) (bytes : List ℕ) → answer_by app now p ring bytes ≡ answer_by app now p (ring_at ring.list ring.made_at) bytes
unfolding sealing opened opened_text opened_timed
same_by_ring app now (Ring need) ring bytes = refl
same_by_ring app now (Roll activation expiration code) ring bytes = refl
same_by_ring app now (Revoke id reason) ring bytes = refl
same_by_ring app now (RevokeBefore date reason) ring bytes = refl
same_by_ring app now (Protect need chain plain) ring bytes = refl
same_by_ring app now (Unprotect need allow chain payload) ring bytes = refl
same_by_ring app now (ProtectText need chain text) ring bytes = refl
same_by_ring app now (UnprotectText need allow chain text) ring bytes = refl
same_by_ring app now (ProtectTimed need chain expiry plain) ring bytes = refl
same_by_ring app now (UnprotectTimed need allow chain payload) ring bytes = refl

same_len : (p : Request) (ring : RingOf) → sealed_len p ring ≡ sealed_len p (ring_at ring.list ring.made_at)
unfolding draw_len
same_len (Ring need) ring = refl
same_len (Roll activation expiration code) ring = refl
same_len (Revoke id reason) ring = refl
same_len (RevokeBefore date reason) ring = refl
same_len (Protect need chain plain) ring = refl
same_len (Unprotect need allow chain payload) ring = refl
same_len (ProtectText need chain text) ring = refl
same_len (UnprotectText need allow chain text) ring = refl
same_len (ProtectTimed need chain expiry plain) ring = refl
same_len (UnprotectTimed need allow chain payload) ring = refl

-- the bytes drawn last are those for the payload
drawn_last : (p : Request) (ring : RingOf) (before bytes : List ℕ) → length bytes ≡ sealed_len p ring → bytes ≡ sealed_with p (ring_at ring.list ring.made_at) (before ++ bytes)
drawn_last p ring before bytes n =
    let count : length (before ++ bytes) - sealed_len p (ring_at ring.list ring.made_at) ≡ length before = omega (arith, length-append before bytes, n, same_len p ring) in
    sym (ap (λ (k : ℕ). drop k (before ++ bytes)) count ∙ drop_at before bytes (length before) refl)

enough_reply : (b : Bool) (behind answer : List ℕ) → b ≡ false → (if b then behind else answer) ≡ answer
enough_reply b behind answer e = rw e refl

module _ (app : List ℕ) (now : ℕ) (p : Request) (old new : Books) (between : DrawState) (needs : needs_ring p ≡ true) (good : HasBadDates p now → ⊥) where
  abbrev Call : Result RingOf Refusal → Type 0
  Call r = Does (CallPath (call (asking p now) (missing_of p) old.host old.store.list new.store.list) r new.host.own) old (record new { draws = between })

  -- want of memory
  unserved : (r : Result Response Memory) (drawn : List ℕ) → IsErr r → Serves (Ok p) now used.NoMemory drawn old new → Served app (Ok p) now r drawn old new
  unserved (Ok a) drawn none gone = absurd cc
  unserved (Err w) drawn none gone = gone

  -- the request of a call that came to a ring
  pub ring_given : (ring : RingOf) (r : Result Response Memory) (x : Call (Ok ring)) → need_of (Ok p) ≤ length ring.list → Responds app now p ring r between new.draws
      → (drawn : List ℕ) × Served app (Ok p) now r drawn old new
  ring_given ring r x enough (by.answered bytes n draws is) =
      let own = own_by_ring (call (asking p now) (missing_of p) old.host old.store.list new.store.list) ring new.host.own x.course x.is in
      let drawn = x.course.drawn ++ bytes in
      let u = used.Ring (length ring.list) ring.made_at in
      let well : Serves (Ok p) now u drawn old new = by_ring p refl needs good (Ok ring) between x bytes refl (answered ring refl refl n draws) in
      let gone : Serves (Ok p) now used.NoMemory drawn old new = by_ring p refl needs good (Ok ring) between x bytes refl (lost ring refl refl n draws) in
      let reply : answer_by app now p ring bytes ≡ reply_by_ring app now (Ok p) new.host.own ring.made_at drawn =
      same_by_ring app now p ring bytes
      ∙ ap (answer_by app now p (ring_at ring.list ring.made_at)) (drawn_last p ring x.course.drawn bytes n)
      ∙ sym (enough_reply (nat_lt (length ring.list) (need_of (Ok p))) _ _ (le-ltb (length ring.list) (need_of (Ok p)) enough))
      ∙ ap (λ (es : List Element). reply_by_ring app now (Ok p) es ring.made_at drawn) (sym own) in
      (drawn, served app (Ok p) now u drawn old new r (answer_by app now p ring bytes) (Some ring.list) is (on_ok {P = Unit {0}} r (on_unit r) (λ _. well)) gone reply (ap Some (sym own)))
  ring_given ring r x enough (by.undrawn seal draws is) =
      let drawn = x.course.drawn ++ [] in
      let u = used.Refused errors.DrawFault in
      let well : Serves (Ok p) now u drawn old new = by_ring p refl needs good (Ok ring) between x [] refl (undrawn ring refl seal refl refl draws) in
      let gone : Serves (Ok p) now used.NoMemory drawn old new = by_ring p refl needs good (Ok ring) between x [] refl (unheard ring refl seal refl refl draws) in
      (drawn, served app (Ok p) now u drawn old new r (refusal_reply errors.DrawFault) None is (on_ok {P = Unit {0}} r (on_unit r) (λ _. well)) gone refl refl)
  ring_given ring r x enough (by.stopped none same) =
      let drawn = x.course.drawn ++ [] in
      (drawn, unserved r drawn none (by_ring p refl needs good (Ok ring) between x [] refl (stopped refl refl same)))

  -- the request of a call that was refused
  pub ring_refused : (why : NodeError) (r : Result Response Memory) (x : Call (Err (refusal why))) → new.draws ≡ between → OnOk r (why ≡ errors.Memory → ⊥) → IsAnswer (used.Refused why) (refusal_reply why) None r
      → (drawn : List ℕ) × Served app (Ok p) now r drawn old new
  ring_refused why r x same known is =
      let drawn = x.course.drawn ++ [] in (
        drawn,
        served app (Ok p) now (used.Refused why) drawn old new r (refusal_reply why) None is
            (on_ok r known (λ k. by_ring p refl needs good (Err (refusal why)) between x [] refl (refused why refl k refl refl same)))
            (by_ring p refl needs good (Err (refusal why)) between x [] refl (stopped refl refl same)) refl refl,
      )

module _ (app : List ℕ) (p : Request) (now : ℕ) (a : Asked) (old new : Books) where
  -- the request of a call that placed its element, where the reply is the one that its kind wants
  pub placed_given : (good : HasBadDates p now → ⊥) (asks : Asks p now old.host.own new.store.list a) (place : ℕ) (r : Result Response Memory) (body : List ℕ) (x : Does (PlacePath a (Ok place) new.host.own) old new) → IsAnswer (used.Placed place) body (Some new.host.own) r
      → body ≡ reply_by_place (Ok p) place x.course.drawn → Served app (Ok p) now r x.course.drawn old new
  placed_given good asks place r body x is reply =
      let well : Serves (Ok p) now (used.Placed place) x.course.drawn old new = by_place p refl good a asks (Ok place) x refl refl in
      served app (Ok p) now (used.Placed place) x.course.drawn old new r body (Some new.host.own) is (on_ok {P = Unit {0}} r (on_unit r) (λ _. well)) (by_place p refl good a asks (Ok place) x refl tt) reply refl

  pub placed_refused : (good : HasBadDates p now → ⊥) (asks : Asks p now old.host.own new.store.list a) (why : NodeError) (r : Result Response Memory) (x : Does (PlacePath a (Err (refusal why)) new.host.own) old new) → OnOk r (why ≡ errors.Memory → ⊥) → IsAnswer (used.Refused why) (refusal_reply why) None r
      → Served app (Ok p) now r x.course.drawn old new
  placed_refused good asks why r x known is =
      served app (Ok p) now (used.Refused why) x.course.drawn old new r (refusal_reply why) None is (on_ok r known (λ k. by_place p refl good a asks (Err (refusal why)) x refl (refl, k)))
      (by_place p refl good a asks (Err (refusal why)) x refl tt) refl refl

-- the request whose dates are bad
pub misdated_refused : (app : List ℕ) (p : Request) (now : ℕ) (b : Books) (r : Result Response Memory) → HasBadDates p now → IsAnswer (used.Refused errors.BadDates) (refusal_reply errors.BadDates) None r → Served app (Ok p) now r [] b b
misdated_refused app p now b r bad is =
    served app (Ok p) now (used.Refused errors.BadDates) [] b b r (refusal_reply errors.BadDates) None is (on_ok {P = Unit {0}} r (on_unit r) (λ _. misdated p refl bad refl refl refl)) (unstarted refl refl refl) refl refl

-- a body that is no request's
pub unread_refused : (app : List ℕ) (why : BadRequest) (now : ℕ) (b : Books) (r : Result Response Memory) → IsAnswer (used.BadRequest why.place) (reply_body (replies.BadRequest why.place)) None r → Served app (Err why) now r [] b b
unread_refused app why now b r is =
    served app (Err why) now (used.BadRequest why.place) [] b b r (reply_body (replies.BadRequest why.place)) None is (on_ok {P = Unit {0}} r (on_unit r) (λ _. unread why refl refl refl refl)) (unstarted refl refl refl) refl refl

-- the place of an element, and how many there are with it
pub front_at : (a : Asked) (place front : ℕ) (own list : List Element) (d : Course) → PlacePath a (Ok place) own d → list ≡ own → front ≡ length list → front ≡ place + 1
front_at a place front own list d x e f = f ∙ ap length e ∙ sym (placed_last a place own d x).count

pub rolled_reply : (id : KeyId) (own : List Element) (t : Option (List Element)) (place front creation activation expiration code : ℕ) (own' : List Element) (d : Course) → PlacePath (asked own true (λ bytes. key_of_draw bytes creation activation expiration code) t) (Ok place) own' d → EndsWithKey id own' → front ≡ place + 1
    → reply_body (replies.Rolled front id) ≡ reply_body (replies.Rolled (place + 1) (record { 0 = drawn_id (take 16 d.drawn) }))
rolled_reply id own t place front creation activation expiration code own' d x ends f =
    let last = placed_last _ place own' d x in
    let same = drawn_key_id id own' last.front d.drawn creation activation expiration code ends last.last in
    ap (λ (n : ℕ). reply_body (replies.Rolled n id)) f ∙ ap (λ (i : KeyId). reply_body (replies.Rolled (place + 1) i)) same

pub misdated_by : (app : List ℕ) (p : Request) (now : ℕ) (old new : Books) (r : Result Response Memory) (why : NodeError) → HasBadDates p now → new ≡ old → why ≡ errors.BadDates → IsAnswer (used.Refused why) (refusal_reply why) None r → Served app (Ok p) now r [] old new
misdated_by app p now old new r why bad same e is =
    subst (λ (b : Books). Served app (Ok p) now r [] old b) (sym same) (misdated_refused app p now old r bad (subst (λ (w : NodeError). IsAnswer (used.Refused w) (refusal_reply w) None r) e is))

pub same_books : (s : List Step) (h h' : HostState) (t t' : Store) (d d' : DrawState) → s ≡ [] → h' ≡ h → t' ≡ t → d' ≡ d → books s h' t' d' ≡ books [] h t d
same_books s h h' t t' d d' e f k l =
    ap (λ (x : List Step). books x h' t' d') e ∙ ap (λ (x : HostState). books [] x t' d') f ∙ ap (λ (x : Store). books [] h x d') k ∙ ap (λ (x : DrawState). books [] h t x) l

-- whether dates are bad can be told
pub dates_tell : (creation activation expiration : ℕ) → AreBadDates creation activation expiration ⊎ (AreBadDates creation activation expiration → ⊥)
dates_tell c a x =
    ⊎_elim (λ h. inl (inl h.1)) (λ h.
    ⊎_elim (λ k.
    ⊎_elim (λ m. inr (λ bad. ⊎_elim (λ z. absurd (omega (arith, z, h.1))) (λ y. ⊎_elim (λ z. absurd (omega (arith, z, k.1))) (λ z. absurd (omega (arith, z, m.1))) y) bad)) (λ m. inl (inr (inr m.1))) (leb_tells x MAX_TICKS))
    (λ k. inl (inr (inl k.1))) (leb_tells c MAX_TICKS))
    (leb_tells x a)

pub late_tells : (date : ℕ) → (MAX_TICKS < date) ⊎ (MAX_TICKS < date → ⊥)
late_tells date = ⊎_elim (λ h. inr (λ z. absurd (omega (arith, z, h.1)))) (λ h. inl h.1) (leb_tells date MAX_TICKS)

pub late_within : (date : ℕ) → (MAX_TICKS < date → ⊥) → date ≤ MAX_TICKS
late_within date good = ⊎_elim (λ h. h.1) (λ h. absurd (good h.1)) (leb_tells date MAX_TICKS)
