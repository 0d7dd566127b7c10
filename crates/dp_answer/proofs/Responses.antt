-- Answers by a ring, from what the calls of the protectors say.
use Rattle.std.proofs.Common.{◌≡◌, ◌↔◌, ℕ, ◌<◌, ◌≤◌, ◌⊎◌, ⊎_elim, Bor, Bool, true, false, if◌then◌else◌, nat_lt, List, [], ◌∷◌, ◌++◌, length, Option, Some, None, Result, Ok, Err, IsErr, refl, sym, ap, subst, ◌∙◌, inl, inr, arith}
use Rattle.std.proofs.lemmas.Bool.{le-ltb, lt-ltb}
use Rattle.std.proofs.lemmas.Bool.Decides.{leb_tells}
use Rattle.dp_base.specs.Draws.{DrawState, Draws}
use Rattle.dp_base.specs.declared.alg.Alg.{Alg}
use Rattle.dp_base.specs.declared.want.Memory.{Memory}
use Rattle.dp_base.proofs.Draws.{Draws-none}
use Rattle.key_elements.specs.declared.element.KeyRecord.{KeyRecord}
use Rattle.key_ring.specs.Ring.{RingOf, default_key}
use Rattle.dp_protector.specs.declared.refused.ProtectRefused.{ProtectRefused}
use Rattle.dp_protector.specs.declared.refused.ProtectRefused.TheVariants as protecting
use Rattle.dp_protector.specs.declared.refused.UnprotectRefused.{UnprotectRefused}
use Rattle.dp_protector.specs.declared.refused.UnprotectRefused.TheVariants as opening
use Rattle.dp_protector.specs.Protect.{Drew, IsEarly, Sealed, draw_len, draw_len_for, draw_len_under, sealed_under, sealing, within}
use Rattle.dp_protector.specs.declared.refused.TextRefused.{TextRefused}
use Rattle.dp_protector.specs.declared.refused.TextRefused.TheVariants as texts
use Rattle.dp_protector.specs.declared.refused.TimedOpenRefused.{TimedOpenRefused}
use Rattle.dp_protector.specs.declared.refused.TimedOpenRefused.TheVariants as timed
use Rattle.dp_protector.specs.Opening.{Opening, opened}
use Rattle.dp_protector.specs.Algorithms.{alg_of}
use Rattle.dp_protector.proofs.Defaults.{default_key-alg}
use Rattle.dp_protector.specs.Text.{as_text, opened_payload, opened_text, payload_of}
use Rattle.dp_protector.specs.Timed.{TimedOpening, opened_timed}
use Rattle.dp_wire.specs.Chains.{used_chain}
use Rattle.dp_wire.specs.declared.reply.Reply.TheVariants as replies
use Rattle.dp_wire.specs.Replies.{reply_body, flags}
use Rattle.dp_wire.specs.Request.{Request, field}
use Rattle.dp_answer.specs.declared.response.Response.{Response}
use Rattle.dp_answer.specs.Needs.{drawn_within, sealed_len}
use Rattle.dp_answer.specs.Replies.{answer_by, protected_reply, unopened_reply, text_reply, timed_reply}
use Rattle.dp_answer.specs.Responding as by
use Rattle.dp_answer.specs.Responding.{IsByRing, IsUnmade, IsUnopened, Responds}

abbrev given_of : List ℕ → Result (List ℕ) ProtectRefused
given_of v = Ok v

abbrev kept_from : ProtectRefused → Result (List ℕ) ProtectRefused
kept_from why = Err why

abbrev err_of : {A : Type 0} → ProtectRefused → Result A ProtectRefused
err_of why = Err why

early_of : (A P : Type 0) (why : ProtectRefused) → (IsEarly (err_of {A = A} why) → P) → IsEarly (kept_from why) → P
early_of A P (protecting.TooLong len) f h = f h
early_of A P protecting.NoDefaultKey f h = f h
early_of A P protecting.DrawFault f h = f h
early_of A P protecting.Memory f h = f h

-- a text within its limit
within-ok : (b : Bool) (x : Result (List ℕ) ProtectRefused) (len : ℕ) (v : List ℕ) → (if b then Err (protecting.TooLong len) else x) ≡ Ok v → b ≡ false
within-ok true x len v e = cc
within-ok false x len v e = refl

-- nothing is sealed without a key
pub sealing-none : (ring : RingOf) (chain : List (List ℕ)) (drawn text : List ℕ) → default_key ring.list ring.made_at ≡ None → sealing ring chain drawn text ≡ Err protecting.NoDefaultKey
unfolding sealing
sealing-none ring chain drawn text e = ap (λ k. sealed_under k chain drawn text) e

draw_len-none : (ring : RingOf) → default_key ring.list ring.made_at ≡ None → draw_len ring ≡ 0
unfolding draw_len
draw_len-none ring e = ap draw_len_under e

-- a default key has an algorithm, and draws
draw_len-some : (ring : RingOf) → (default_key ring.list ring.made_at ≡ None → ⊥) → 1 ≤ draw_len ring
unfolding draw_len
draw_len-some ring has = by_key (default_key ring.list ring.made_at) refl
  where
    by_alg : (key : KeyRecord) (alg : Option Alg) → default_key ring.list ring.made_at ≡ Some key → alg_of key.alg ≡ alg → 1 ≤ draw_len_for alg
    by_alg key None is a = absurd (default_key-alg ring.list ring.made_at key is a)
    by_alg key (Some alg) is a = omega arith

    by_key : (o : Option KeyRecord) → default_key ring.list ring.made_at ≡ o → 1 ≤ draw_len_under o
    by_key None e = absurd (has e)
    by_key (Some key) e = by_alg key (alg_of key.alg) e refl

-- the request asks for a payload of a text that may be so long, of which this is made of the bytes drawn
pub record AsksForPayload (app : List ℕ) (now : ℕ) (p : Request) (ring : RingOf) (most : ℕ) (text : List ℕ) (inner : List ℕ → Result (List ℕ) ProtectRefused) : Type 0 where
  pub replies_are : (d : List ℕ) → answer_by app now p ring d ≡ protected_reply (length ring.list) (within most text (inner d))
  pub len_is : sealed_len p ring ≡ drawn_within most text ring
  pub keyless : default_key ring.list ring.made_at ≡ None → (d : List ℕ) → inner d ≡ Err protecting.NoDefaultKey

-- what is answered to such a request
module _ {app : List ℕ} {now : ℕ} {p : Request} {ring : RingOf} {most : ℕ} {text : List ℕ} {inner : List ℕ → Result (List ℕ) ProtectRefused} (asks : AsksForPayload app now p ring most text inner) (r : Result Response Memory) (old new : DrawState) where
  -- bytes within the limit are sealed with as many as the ring's key needs
  whole_len : nat_lt most (length text) ≡ false → sealed_len p ring ≡ draw_len ring
  whole_len e = asks.len_is ∙ rw e refl

  answer_is : (d body : List ℕ) (g : Result (List ℕ) ProtectRefused) → within most text (inner d) ≡ g → body ≡ protected_reply (length ring.list) g → IsByRing ring body r → IsByRing ring (answer_by app now p ring d) r
  answer_is d body g e f is = subst (λ (b : List ℕ). IsByRing ring b r) (f ∙ ap (protected_reply (length ring.list)) (sym e) ∙ sym (asks.replies_are d)) is

  pub made : (v : List ℕ) → Sealed (draw_len ring) (λ d. within most text (inner d)) old new v → IsByRing ring (0 ∷ field (length ring.list) ++ v) r → Responds app now p ring r old new
  made v s is =
      let short = within-ok (nat_lt most (length text)) (inner s.drawn) (length text) v s.value_is in
      by.answered s.drawn (s.len_is ∙ sym (whole_len short)) s.draws (answer_is s.drawn _ (Ok v) s.value_is refl is)

  -- nothing was drawn
  untouched : new ≡ old → Draws 0 [] old new
  untouched same = subst (λ (d : DrawState). Draws 0 [] old d) (sym same) (Draws-none old)

  too_long : (len : ℕ) → most < length text → len ≡ length text → new ≡ old → IsByRing ring (reply_body (replies.TooLong (length ring.list) len)) r → Responds app now p ring r old new
  too_long len long is same told =
      let over = lt-ltb most (length text) long in
      by.answered [] (sym (asks.len_is ∙ rw over refl)) (untouched same) (answer_is [] _ (Err (protecting.TooLong len)) (rw over (ap (λ (n : ℕ). kept_from (protecting.TooLong n)) (sym is))) refl told)

  no_key : length text ≤ most → default_key ring.list ring.made_at ≡ None → new ≡ old → IsByRing ring (reply_body (replies.NoDefaultKey (length ring.list))) r → Responds app now p ring r old new
  no_key short none same told =
      let under = le-ltb most (length text) short in
      by.answered [] (sym (whole_len under ∙ draw_len-none ring none)) (untouched same) (answer_is [] _ (Err protecting.NoDefaultKey) (rw under (asks.keyless none [])) refl told)

  lost_draw : length text ≤ most → (new ≡ old) ⊎ Drew (draw_len ring) old new → IsErr r → Responds app now p ring r old new
  lost_draw short (inl same) none = by.stopped none same
  lost_draw short (inr drew) none = by.answered drew.0 (drew.1 ∙ sym (whole_len (le-ltb most (length text) short))) drew.2 (no_answer r none)
    where
      no_answer : (r : Result Response Memory) → IsErr r → IsByRing ring (answer_by app now p ring drew.0) r
      no_answer (Ok a) none = absurd cc
      no_answer (Err w) none = tt

  -- a text that isn't too long draws by a ring with a key
  due_draw : length text ≤ most → (default_key ring.list ring.made_at ≡ None → ⊥) → 1 ≤ sealed_len p ring
  due_draw short has = omega (arith, whole_len (le-ltb most (length text) short), draw_len-some ring has)

  -- what a protecting call says where it is refused
  pub unmade : (why : ProtectRefused) → ((len : ℕ) → why ≡ protecting.TooLong len → (most < length text) × (len ≡ length text)) → (why ≡ protecting.NoDefaultKey → (length text ≤ most) × (default_key ring.list ring.made_at ≡ None))
      → (IsEarly (kept_from why) → new ≡ old) → (why ≡ protecting.DrawFault → (length text ≤ most) × (default_key ring.list ring.made_at ≡ None → ⊥) × Draws 1 [] old new) → (why ≡ protecting.Memory → (length text ≤ most) × ((new ≡ old) ⊎ Drew (draw_len ring) old new))
      → IsUnmade why ring r → Responds app now p ring r old new
  unmade (protecting.TooLong len) long key early fault memory told = let l = long len refl in too_long len l.0 l.1 (early tt) told
  unmade protecting.NoDefaultKey long key early fault memory told = let k = key refl in no_key k.0 k.1 (early tt) told
  unmade protecting.DrawFault long key early fault memory told = let f = fault refl in by.undrawn (due_draw f.0 f.1) f.2 told
  unmade protecting.Memory long key early fault memory told = let m = memory refl in lost_draw m.0 m.1 told

  -- the same from the clauses of such a call, of whatever it gives
  pub unmade_by : {A : Type 0} (why : ProtectRefused) → ((len : ℕ) → (err_of {A = A} why ≡ err_of {A = A} (protecting.TooLong len)) ↔ ((most < length text) × (len ≡ length text)))
      → (err_of {A = A} why ≡ err_of {A = A} protecting.NoDefaultKey → (length text ≤ most) × (default_key ring.list ring.made_at ≡ None)) → (default_key ring.list ring.made_at ≡ None → length text ≤ most → (err_of {A = A} why ≡ err_of {A = A} protecting.NoDefaultKey) ⊎ (err_of {A = A} why ≡ err_of {A = A} protecting.Memory)) → (IsEarly (err_of {A = A} why) → new ≡ old)
      → (err_of {A = A} why ≡ err_of {A = A} protecting.DrawFault → Draws 1 [] old new) → (err_of {A = A} why ≡ err_of {A = A} protecting.Memory → (new ≡ old) ⊎ Drew (draw_len ring) old new) → IsUnmade why ring r → Responds app now p ring r old new
  unmade_by {A = A} why long key keyless early fault memory told =
      unmade why (λ len e. (long len).0 (ap (err_of {A = A}) e)) (λ e. key (ap (err_of {A = A}) e)) (early_of A (new ≡ old) why early) (λ e. (short (drawn e), keyed e, fault (ap (err_of {A = A}) e))) (λ e. (short (lost e), memory (ap (err_of {A = A}) e))) told
    where
      drawn : why ≡ protecting.DrawFault → err_of {A = A} why ≡ err_of {A = A} (protecting.TooLong (length text)) → ⊥
      drawn e f = cc

      lost : why ≡ protecting.Memory → err_of {A = A} why ≡ err_of {A = A} (protecting.TooLong (length text)) → ⊥
      lost e f = cc

      short : (err_of {A = A} why ≡ err_of {A = A} (protecting.TooLong (length text)) → ⊥) → length text ≤ most
      short other = ⊎_elim (λ le. le.1) (λ gt. absurd (other ((long (length text)).1 (gt.1, refl)))) (leb_tells (length text) most)

      no_key_told : why ≡ protecting.DrawFault → err_of {A = A} why ≡ err_of {A = A} protecting.NoDefaultKey → ⊥
      no_key_told e f = cc

      no_want_told : why ≡ protecting.DrawFault → err_of {A = A} why ≡ err_of {A = A} protecting.Memory → ⊥
      no_want_told e f = cc

      keyed : why ≡ protecting.DrawFault → default_key ring.list ring.made_at ≡ None → ⊥
      keyed e none = ⊎_elim (no_key_told e) (no_want_told e) (keyless none (short (drawn e)))

-- a request that draws nothing
module _ (app : List ℕ) (now : ℕ) (p : Request) (ring : RingOf) (dry : sealed_len p ring ≡ 0) (r : Result Response Memory) (draws : DrawState) where
  pub dry_answer : (body : List ℕ) → answer_by app now p ring [] ≡ body → IsByRing ring body r → Responds app now p ring r draws draws
  dry_answer body e is = by.answered [] (sym dry) (Draws-none draws) (subst (λ (b : List ℕ). IsByRing ring b r) (sym e) is)

  pub dry_unopened : (why : UnprotectRefused) → answer_by app now p ring [] ≡ unopened_reply (length ring.list) why → IsUnopened why ring r → Responds app now p ring r draws draws
  dry_unopened opening.BadHeader e is = dry_answer _ e is
  dry_unopened opening.BadVersion e is = dry_answer _ e is
  dry_unopened (opening.KeyNotFound id) e is = dry_answer _ e is
  dry_unopened (opening.KeyRevoked id) e is = dry_answer _ e is
  dry_unopened (opening.KeyUnusable id) e is = dry_answer _ e is
  dry_unopened opening.Tampered e is = dry_answer _ e is
  dry_unopened opening.Memory e is = by.stopped is refl

  pub wanting : (why : UnprotectRefused) → why ≡ opening.Memory → IsUnopened why ring r → Responds app now p ring r draws draws
  wanting opening.Memory e is = by.stopped is refl
  wanting opening.BadHeader e is = absurd cc
  wanting opening.BadVersion e is = absurd cc
  wanting (opening.KeyNotFound id) e is = absurd cc
  wanting (opening.KeyRevoked id) e is = absurd cc
  wanting (opening.KeyUnusable id) e is = absurd cc
  wanting opening.Tampered e is = absurd cc

-- the bodies of replies with a text, by how long their lists are and what the texts are
module _ (ring : RingOf) (r : Result Response Memory) (front : ℕ) (text : Bor (List ℕ)) (v : List ℕ) (count : front ≡ length ring.list) (is : text.now ≡ v) where
  listing_bytes : 0 ∷ field front ++ text.now ≡ 0 ∷ field (length ring.list) ++ v
  listing_bytes = ap (λ (n : ℕ). 0 ∷ field n ++ text.now) count ∙ ap (λ (t : List ℕ). 0 ∷ field (length ring.list) ++ t) is

  pub by_listing : IsByRing ring (reply_body (replies.Ring front text)) r → IsByRing ring (0 ∷ field (length ring.list) ++ v) r
  unfolding reply_body
  by_listing told = subst (λ (b : List ℕ). IsByRing ring b r) listing_bytes told

  pub by_payload : IsByRing ring (reply_body (replies.Protected front text)) r → IsByRing ring (0 ∷ field (length ring.list) ++ v) r
  unfolding reply_body
  by_payload told = subst (λ (b : List ℕ). IsByRing ring b r) listing_bytes told

  pub by_payload_text : IsByRing ring (reply_body (replies.ProtectedText front text)) r → IsByRing ring (0 ∷ field (length ring.list) ++ v) r
  unfolding reply_body
  by_payload_text told = subst (λ (b : List ℕ). IsByRing ring b r) listing_bytes told

  pub by_payload_timed : IsByRing ring (reply_body (replies.ProtectedTimed front text)) r → IsByRing ring (0 ∷ field (length ring.list) ++ v) r
  unfolding reply_body
  by_payload_timed told = subst (λ (b : List ℕ). IsByRing ring b r) listing_bytes told

  module _ (revoked changed : Bool) where
    opened_bytes : 0 ∷ field front ++ flags revoked changed ∷ text.now ≡ 0 ∷ field (length ring.list) ++ flags revoked changed ∷ v
    opened_bytes = ap (λ (n : ℕ). 0 ∷ field n ++ flags revoked changed ∷ text.now) count ∙ ap (λ (t : List ℕ). 0 ∷ field (length ring.list) ++ flags revoked changed ∷ t) is

    pub by_plain : IsByRing ring (reply_body (replies.Unprotected front revoked changed text)) r → IsByRing ring (0 ∷ field (length ring.list) ++ flags revoked changed ∷ v) r
    unfolding reply_body
    by_plain told = subst (λ (b : List ℕ). IsByRing ring b r) opened_bytes told

    pub by_text : IsByRing ring (reply_body (replies.UnprotectedText front revoked changed text)) r → IsByRing ring (0 ∷ field (length ring.list) ++ flags revoked changed ∷ v) r
    unfolding reply_body
    by_text told = subst (λ (b : List ℕ). IsByRing ring b r) opened_bytes told

    pub by_timed : (expiry : ℕ) → IsByRing ring (reply_body (replies.UnprotectedTimed front revoked changed expiry text)) r → IsByRing ring (0 ∷ field (length ring.list) ++ flags revoked changed ∷ field expiry ++ v) r
    unfolding reply_body
    by_timed expiry told =
        subst (λ (b : List ℕ). IsByRing ring b r) (ap (λ (n : ℕ). 0 ∷ field n ++ flags revoked changed ∷ field expiry ++ text.now) count ∙ ap (λ (t : List ℕ). 0 ∷ field (length ring.list) ++ flags revoked changed ∷ field expiry ++ t) is) told

-- what is due for a text, and for a payload that expires
text_due_at : (ring : RingOf) (chain : List (List ℕ)) (payload text : List ℕ) (allow : Bool) → payload_of text ≡ Some payload → opened_text ring chain text allow ≡ as_text (opened ring chain payload allow)
unfolding opened_text
text_due_at ring chain payload text allow found = ap (λ (o : Option (List ℕ)). opened_payload ring chain o allow) found

pub text_due : (app : List ℕ) (ring : RingOf) (wire chain : List (List ℕ)) (payload text : List ℕ) (allow : Bool) → chain ≡ used_chain app wire → payload_of text ≡ Some payload → (due : Result Opening TextRefused) → as_text (opened ring chain payload allow) ≡ due
    → text_reply (length ring.list) (opened_text ring (used_chain app wire) text allow) ≡ text_reply (length ring.list) due
text_due app ring wire chain payload text allow same found due is =
    ap (λ (ch : List (List ℕ)). text_reply (length ring.list) (opened_text ring ch text allow)) (sym same) ∙ ap (text_reply (length ring.list)) (text_due_at ring chain payload text allow found ∙ is)

pub no_text : (app : List ℕ) (ring : RingOf) (wire : List (List ℕ)) (text : List ℕ) (allow : Bool) → payload_of text ≡ None → text_reply (length ring.list) (opened_text ring (used_chain app wire) text allow) ≡ reply_body (replies.BadText (length ring.list))
unfolding opened_text
no_text app ring wire text allow none = ap (λ (o : Option (List ℕ)). text_reply (length ring.list) (opened_payload ring (used_chain app wire) o allow)) none

pub timed_due : (app : List ℕ) (now : ℕ) (ring : RingOf) (wire chain : List (List ℕ)) (payload : List ℕ) (allow : Bool) → chain ≡ used_chain app wire → (due : Result TimedOpening TimedOpenRefused) → opened_timed ring chain payload allow now ≡ due
    → timed_reply (length ring.list) (opened_timed ring (used_chain app wire) payload allow now) ≡ timed_reply (length ring.list) due
timed_due app now ring wire chain payload allow same due is =
    ap (λ (ch : List (List ℕ)). timed_reply (length ring.list) (opened_timed ring ch payload allow now)) (sym same) ∙ ap (timed_reply (length ring.list)) is

pub not_wanted : (why : UnprotectRefused) → texts.Body why ≡ texts.Memory → ⊥
not_wanted why e = cc

pub not_wanted_timed : (why : UnprotectRefused) → timed.Body why ≡ timed.Memory → ⊥
not_wanted_timed why e = cc
