-- After a revocation that was seen, no payload of its key opens.
use Rattle.std.proofs.Common.{◌≡◌, ◌≢◌, ◌==◌, ℕ, ◌+◌, ◌≤◌, max, Bool, true, false, if◌then◌else◌, nat_lt, IsTrue, List, [], ◌∷◌, length, take, Option, Some, None, Result, Ok, Err, refl, sym, ap, subst, ◌∙◌, arith, option_map, find}
use Rattle.std.proofs.lemmas.List.{length-take}
use Rattle.std.proofs.Math.Seq.{take-length, take-take}
use Rattle.dp_base.specs.declared.key_id.KeyId.{KeyId}
use Rattle.key_elements.specs.declared.element.Element.{Element}
use Rattle.key_elements.specs.Lists.{Extends}
use Rattle.key_ring.specs.Keys.{is_named, keys_of}
use Rattle.key_ring.specs.Ring.{RingOf}
use Rattle.key_ring.specs.State.{state}
use Rattle.node_calls.specs.declared.error.NodeError.{NodeError}
use Rattle.node_calls.specs.declared.error.NodeError.TheVariants as errors
use Rattle.dp_protector.specs.declared.refused.UnprotectRefused.{UnprotectRefused}
use Rattle.dp_protector.specs.declared.refused.UnprotectRefused.TheVariants as opening
use Rattle.dp_protector.specs.declared.refused.TextRefused.TheVariants as texts
use Rattle.dp_protector.specs.Refusals.{refused_in_text, refused_in_timed}
use Rattle.dp_protector.specs.Opening.{Opening, id_in, opened}
use Rattle.dp_protector.specs.Text.{as_text, opened_payload, opened_text, payload_of}
use Rattle.dp_protector.specs.Timed.{as_timed, opened_timed, timed_chain}
use Rattle.dp_protector.proofs.Taken.{id-shut, record-shut}
use Rattle.dp_wire.specs.Replies.{reply_body}
use Rattle.dp_wire.specs.Chains.{used_chain}
use Rattle.dp_wire.specs.Request.{Request, Ring, Roll, Revoke, RevokeBefore, Protect, Unprotect, ProtectText, UnprotectText, ProtectTimed, UnprotectTimed}
use Rattle.dp_answer.specs.declared.trace.Entry.{Entry}
use Rattle.dp_answer.specs.declared.trace.Used.{Used}
use Rattle.dp_answer.specs.declared.trace.Used.TheVariants as used
use Rattle.dp_answer.specs.Needs.{need_of}
use Rattle.dp_answer.specs.Replies.{answer_by, opened_reply, refusal_reply, reply_to, ring_at, text_reply, timed_reply, unopened_reply}
use Rattle.dp_session.specs.Fresh.{AreFresh, IsFresh, IsFreshUse}
use Rattle.dp_session.specs.Session.{front_of, has_list}
use Rattle.dp_session.specs.Shut.{AreShut, IsShut, IsUnopened, barred_id, known_to}

-- the codes of refusals are others than that of OK
refused-code : (why : NodeError) (rest : List ℕ) → refusal_reply why ≡ 0 ∷ rest → ⊥
unfolding reply_body
refused-code errors.StoreFault rest e = absurd cc
refused-code errors.DrawFault rest e = absurd cc
refused-code (errors.WentBack had got) rest e = absurd cc
refused-code (errors.Behind have need) rest e = absurd cc
refused-code (errors.Forked f) rest e = absurd cc
refused-code (errors.Full count) rest e = absurd cc
refused-code errors.BadDates rest e = absurd cc
refused-code errors.Memory rest e = absurd cc

unopened-code : (front : ℕ) (why : UnprotectRefused) (rest : List ℕ) → unopened_reply front why ≡ 0 ∷ rest → ⊥
unfolding reply_body
unopened-code front opening.BadHeader rest e = absurd cc
unopened-code front opening.BadVersion rest e = absurd cc
unopened-code front (opening.KeyNotFound id) rest e = absurd cc
unopened-code front (opening.KeyRevoked id) rest e = absurd cc
unopened-code front (opening.KeyUnusable id) rest e = absurd cc
unopened-code front opening.Tampered rest e = absurd cc
unopened-code front opening.Memory rest e = absurd cc

-- a payload that has no text isn't answered OK
opened-code : (front : ℕ) (x : Result Opening UnprotectRefused) (rest : List ℕ) → ((o : Opening) → x ≡ Ok o → ⊥) → opened_reply front x ≡ 0 ∷ rest → ⊥
opened-code front (Ok o) rest shut e = shut o refl
opened-code front (Err why) rest shut e = unopened-code front why rest e

bad_text-code : (front : ℕ) (rest : List ℕ) → text_reply front (Err texts.BadText) ≡ 0 ∷ rest → ⊥
unfolding reply_body
bad_text-code front rest e = absurd cc

refused_text-code : (front : ℕ) (why : UnprotectRefused) (rest : List ℕ) → text_reply front (Err (refused_in_text why)) ≡ 0 ∷ rest → ⊥
unfolding reply_body
refused_text-code front opening.BadHeader rest e = absurd cc
refused_text-code front opening.BadVersion rest e = absurd cc
refused_text-code front (opening.KeyNotFound id) rest e = absurd cc
refused_text-code front (opening.KeyRevoked id) rest e = absurd cc
refused_text-code front (opening.KeyUnusable id) rest e = absurd cc
refused_text-code front opening.Tampered rest e = absurd cc
refused_text-code front opening.Memory rest e = absurd cc

text-code : (front : ℕ) (x : Result Opening UnprotectRefused) (rest : List ℕ) → ((o : Opening) → x ≡ Ok o → ⊥) → text_reply front (as_text x) ≡ 0 ∷ rest → ⊥
text-code front (Ok o) rest shut e = shut o refl
text-code front (Err why) rest shut e = refused_text-code front why rest e

refused_timed-code : (front : ℕ) (why : UnprotectRefused) (rest : List ℕ) → timed_reply front (Err (refused_in_timed why)) ≡ 0 ∷ rest → ⊥
unfolding reply_body
refused_timed-code front opening.BadHeader rest e = absurd cc
refused_timed-code front opening.BadVersion rest e = absurd cc
refused_timed-code front (opening.KeyNotFound id) rest e = absurd cc
refused_timed-code front (opening.KeyRevoked id) rest e = absurd cc
refused_timed-code front (opening.KeyUnusable id) rest e = absurd cc
refused_timed-code front opening.Tampered rest e = absurd cc
refused_timed-code front opening.Memory rest e = absurd cc

timed-code : (front now : ℕ) (x : Result Opening UnprotectRefused) (rest : List ℕ) → ((o : Opening) → x ≡ Ok o → ⊥) → timed_reply front (as_timed now x) ≡ 0 ∷ rest → ⊥
timed-code front now (Ok o) rest shut e = shut o refl
timed-code front now (Err why) rest shut e = refused_timed-code front why rest e

-- the ring opens no payload of the id without the flag
abbrev Shuts : RingOf → KeyId → Type 0
Shuts ring id = (chain : List (List ℕ)) (payload : List ℕ) (o : Opening) → id_in payload ≡ id → opened ring chain payload false ≡ Ok o → ⊥

abbrev some_id : KeyId → Option KeyId
some_id id = Some id

same_id : (a b : KeyId) → some_id a ≡ some_id b → a ≡ b
same_id a b e = cc

of_text : (front : ℕ) (ring : RingOf) (id : KeyId) (chain : List (List ℕ)) (found : Option (List ℕ)) (rest : List ℕ) → Shuts ring id → option_map id_in found ≡ Some id → text_reply front (opened_payload ring chain found false) ≡ 0 ∷ rest → ⊥
of_text front ring id chain None rest shut e f = absurd cc
of_text front ring id chain (Some payload) rest shut e f = text-code front (opened ring chain payload false) rest (λ o. shut chain payload o (same_id _ _ e)) f

answer-code : (app : List ℕ) (now : ℕ) (p : Request) (ring : RingOf) (bytes : List ℕ) (id : KeyId) (rest : List ℕ) → barred_id p ≡ Some id → Shuts ring id → answer_by app now p ring bytes ≡ 0 ∷ rest → ⊥
unfolding opened_text opened_timed
answer-code app now (Ring need) ring bytes id rest e shut f = absurd cc
answer-code app now (Roll activation expiration code) ring bytes id rest e shut f = absurd cc
answer-code app now (Revoke i reason) ring bytes id rest e shut f = absurd cc
answer-code app now (RevokeBefore date reason) ring bytes id rest e shut f = absurd cc
answer-code app now (Protect need chain plain) ring bytes id rest e shut f = absurd cc
answer-code app now (ProtectText need chain text) ring bytes id rest e shut f = absurd cc
answer-code app now (ProtectTimed need chain expiry plain) ring bytes id rest e shut f = absurd cc
answer-code app now (Unprotect need true chain payload) ring bytes id rest e shut f = absurd cc
answer-code app now (UnprotectText need true chain text) ring bytes id rest e shut f = absurd cc
answer-code app now (UnprotectTimed need true chain payload) ring bytes id rest e shut f = absurd cc
answer-code app now (Unprotect need false chain payload) ring bytes id rest e shut f =
    opened-code (length ring.list) (opened ring (used_chain app chain) payload false) rest (λ o. shut (used_chain app chain) payload o (same_id _ _ e)) f
answer-code app now (UnprotectText need false chain text) ring bytes id rest e shut f = of_text (length ring.list) ring id (used_chain app chain) (payload_of text) rest shut e f
answer-code app now (UnprotectTimed need false chain payload) ring bytes id rest e shut f =
    timed-code (length ring.list) now (opened ring (timed_chain (used_chain app chain)) payload false) rest (λ o. shut (timed_chain (used_chain app chain)) payload o (same_id _ _ e)) f

ring-code : (b : Bool) (behind answer rest : List ℕ) → (behind ≡ 0 ∷ rest → ⊥) → (answer ≡ 0 ∷ rest → ⊥) → (if b then behind else answer) ≡ 0 ∷ rest → ⊥
ring-code true behind answer rest f g e = f e
ring-code false behind answer rest f g e = g e

bad_request-code : (place : ℕ) (rest : List ℕ) → reply_to [] 0 (Ok (Ring 0)) (used.BadRequest place) [] [] ≡ 0 ∷ rest → ⊥
unfolding reply_body
bad_request-code place rest e = absurd cc

no_memory-code : (rest : List ℕ) → reply_to [] 0 (Ok (Ring 0)) used.NoMemory [] [] ≡ 0 ∷ rest → ⊥
unfolding reply_body
no_memory-code rest e = absurd cc

placed-code : (app : List ℕ) (now : ℕ) (p : Request) (place : ℕ) (drawn : List ℕ) (es : List Element) (id : KeyId) (rest : List ℕ) → barred_id p ≡ Some id → reply_to app now (Ok p) (used.Placed place) drawn es ≡ 0 ∷ rest → ⊥
placed-code app now (Ring need) place drawn es id rest e f = absurd cc
placed-code app now (Roll activation expiration code) place drawn es id rest e f = absurd cc
placed-code app now (Revoke i reason) place drawn es id rest e f = absurd cc
placed-code app now (RevokeBefore date reason) place drawn es id rest e f = absurd cc
placed-code app now (Protect need chain plain) place drawn es id rest e f = absurd cc
placed-code app now (ProtectText need chain text) place drawn es id rest e f = absurd cc
placed-code app now (ProtectTimed need chain expiry plain) place drawn es id rest e f = absurd cc
placed-code app now (Unprotect need allow chain payload) place drawn es id rest e f = absurd cc
placed-code app now (UnprotectText need allow chain text) place drawn es id rest e f = absurd cc
placed-code app now (UnprotectTimed need allow chain payload) place drawn es id rest e f = absurd cc

module _ (app : List ℕ) (now : ℕ) (p : Request) (drawn : List ℕ) (list : List Element) (id : KeyId) (named : barred_id p ≡ Some id) (rest : List ℕ) where
  -- no reply opens it, whatever was used
  reply-code : (u : Used) → ((made_at : ℕ) → Shuts (ring_at (take (front_of u) list) made_at) id) → reply_to app now (Ok p) u drawn (take (front_of u) list) ≡ 0 ∷ rest → ⊥
  reply-code (used.Ring front made_at) shut f =
      ring-code (nat_lt (length (take front list)) (need_of (Ok p))) _ _ rest (refused-code (errors.Behind (length (take front list)) (need_of (Ok p))) rest) (answer-code app now p (ring_at (take front list) made_at) _ id rest named (shut made_at)) f
  reply-code (used.Placed place) shut f = placed-code app now p place drawn (take (place + 1) list) id rest named f
  reply-code (used.Refused why) shut f = refused-code why rest f
  reply-code (used.BadRequest place) shut f = bad_request-code place rest f
  reply-code used.NoMemory shut f = no_memory-code rest f

  -- only a ring opens
  unlisted : (u : Used) → has_list u ≡ false → reply_to app now (Ok p) u drawn (take (front_of u) list) ≡ 0 ∷ rest → ⊥
  unlisted (used.Ring front made_at) h f = cc
  unlisted (used.Placed place) h f = cc
  unlisted (used.Refused why) h f = refused-code why rest f
  unlisted (used.BadRequest place) h f = bad_request-code place rest f
  unlisted used.NoMemory h f = no_memory-code rest f

-- a front of a list extends each shorter one
known-front : (n front : ℕ) (list : List Element) → n ≤ front → Extends (take front list) (take n list)
known-front n front list le =
    let m = length (take n list) in
    let few : m ≤ n = omega (arith, length-take n list) in
    let few_too : m ≤ front = omega (arith, few) in
    take-take m front list few_too ∙ sym (take-take m n list few) ∙ take-length (take n list)

-- a list that was used has as many elements as were needed, and as were seen
fresh-front : (need seen : ℕ) (u : Used) → IsFreshUse need seen u → has_list u ≡ true → (need ≤ front_of u) × (seen ≤ front_of u)
fresh-front need seen (used.Ring front made_at) f h = f
fresh-front need seen (used.Placed place) f h = (omega (arith, f.0), omega (arith, f.1))
fresh-front need seen (used.Refused why) f h = cc
fresh-front need seen (used.BadRequest place) f h = cc
fresh-front need seen used.NoMemory f h = cc

module _ (app body : List ℕ) (e : Entry) (list : List Element) (fresh : IsFresh e) where
  extends : has_list e.used ≡ true → Extends (take (front_of e.used) list) (known_to e list)
  extends h =
      let f = fresh-front e.need e.seen e.used fresh h in
      known-front (max e.seen e.need) (front_of e.used) list (omega (arith, f.0, f.1))

  by_list : (p : Request) (id : KeyId) → barred_id p ≡ Some id → (Extends (take (front_of e.used) list) (known_to e list) → (made_at : ℕ) → Shuts (ring_at (take (front_of e.used) list) made_at) id) → IsUnopened app p e list
  by_list p id named shut rest = listed (has_list e.used) refl
    where
      listed : (b : Bool) → has_list e.used ≡ b → reply_to app e.now (Ok p) e.used e.drawn (take (front_of e.used) list) ≢ 0 ∷ rest
      listed true h = reply-code app e.now p e.drawn list id named rest e.used (shut (extends h))
      listed false h = unlisted app e.now p e.drawn list id named rest e.used h

  entry_shut : IsShut app body e list
  entry_shut = record {
    id = λ p id read named revoked.
        by_list p id named (λ grown made_at chain payload o is opens.
        id-shut (known_to e list) (ring_at (take (front_of e.used) list) made_at) chain payload o grown (subst (λ (i : KeyId). IsTrue (is_named (known_to e list) i.0)) (sym is) revoked) opens);
    record_of = λ p id k read named held revoked.
        by_list p id named (λ grown made_at chain payload o is opens.
        let es = take (front_of e.used) list in
        let found : option_map (state es made_at) (find (λ j. j.id.0 == (id_in payload).0) (keys_of es)) ≡ Some (state es made_at k) =
        subst (λ (i : KeyId). option_map (state es made_at) (find (λ j. j.id.0 == i.0) (keys_of es)) ≡ Some (state es made_at k)) (sym is) (ap (option_map (state es made_at)) held) in
        record-shut (known_to e list) (ring_at es made_at) chain payload o (state es made_at k) grown found revoked opens);
  }

pub are_shut : (app : List ℕ) (bodies : List (List ℕ)) (es : List Entry) (list : List Element) (n : ℕ) → AreFresh n es → AreShut app bodies es list
are_shut app [] es list n fresh = tt
are_shut app (b ∷ bodies) [] list n fresh = tt
are_shut app (b ∷ bodies) (e ∷ es) list n fresh = (entry_shut app b e list fresh.1, are_shut app bodies es list (max e.seen (front_of e.used)) fresh.2)
