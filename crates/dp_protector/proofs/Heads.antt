-- What a payload opens to, from what its head is and from what the ring says of its key.
use Rattle.std.proofs.Common.{◌≡◌, ◌≢◌, ℕ, ◌%◌, Bool, true, false, List, take, drop, Option, Some, None, Result, Ok, Err, refl, sym, ap, ◌∙◌, arith}
use Rattle.std.specs.Prelude.{◌↔◌}
use Rattle.std.proofs.lemmas.Bool.Decides.{nat_tests}
use Rattle.dp_base.specs.Guid.{id_of_guid}
use Rattle.dp_base.specs.declared.key_id.KeyId.{KeyId}
use Rattle.payload_view.specs.Payload.{HasHead, first_word}
use Rattle.payload_view.specs.declared.head.HeadRefused.{HeadRefused}
use Rattle.payload_view.specs.declared.head.HeadRefused.TheVariants as heads
use Rattle.key_ring.specs.Ring.{RingOf}
use Rattle.key_ring.specs.State.{State, lookup_of}
use Rattle.dp_protector.specs.declared.refused.UnprotectRefused.TheVariants as payloads
use Rattle.dp_protector.specs.Refusals.{of_head}
use Rattle.dp_protector.specs.Opening.{has_head, has_version, id_in, opened, opened_under}

head_true : (payload : List ℕ) → has_head payload ≡ true → HasHead payload
head_true payload e = (grind (arith, nat_tests), grind (arith, nat_tests))

head_false : (payload : List ℕ) → (HasHead payload → ⊥) → has_head payload ≡ false
head_false payload none = at (has_head payload) refl
  where
    at : (b : Bool) → has_head payload ≡ b → has_head payload ≡ false
    at true e = absurd (none (head_true payload e))
    at false e = e

head_is : (payload : List ℕ) → HasHead payload → has_head payload ≡ true
head_is payload has = let room = has.0 in let first = has.1 in grind (arith, nat_tests)

head_not_false : (payload : List ℕ) → ((HasHead payload → ⊥) → ⊥) → has_head payload ≡ true
head_not_false payload twice = at (has_head payload) refl
  where
    at : (b : Bool) → has_head payload ≡ b → has_head payload ≡ true
    at true e = e
    at false e = absurd (twice (λ has. not_both payload has e))
      where
        not_both : (p : List ℕ) → HasHead p → has_head p ≡ false → ⊥
        not_both p has denied = let holds = head_is p has in absurd cc

version_false : (payload : List ℕ) → first_word payload % 16 ≢ 0 → has_version payload ≡ false
version_false payload other = grind (arith, nat_tests)

version_true : (payload : List ℕ) → (first_word payload % 16 ≢ 0 → ⊥) → has_version payload ≡ true
version_true payload same = grind (arith, nat_tests)

-- what is answered by the head
abbrev pub HeadTold : {X : Type 0} → RingOf → List (List ℕ) → List ℕ → Bool → Result X HeadRefused → Type 0
HeadTold ring chain payload allow (Ok x) =
    opened ring chain payload allow ≡ opened_under (lookup_of ring.list ring.made_at (id_in payload).0) allow (id_in payload) chain (drop 20 payload)
HeadTold ring chain payload allow (Err why) = opened ring chain payload allow ≡ Err (of_head why)

pub head-told : {X : Type 0} (ring : RingOf) (chain : List (List ℕ)) (payload : List ℕ) (allow : Bool) (r : Result X HeadRefused)
    → ((r ≡ Err heads.BadHeader) ↔ (HasHead payload → ⊥)) → ((r ≡ Err heads.BadVersion) ↔ (HasHead payload × (first_word payload % 16 ≢ 0)))
    → HeadTold ring chain payload allow r
unfolding opened
head-told ring chain payload allow (Ok x) header version =
    let head = head_not_false payload (λ none. not_err (header.1 none)) in
    let has = head_true payload head in
    let is = version_true payload (λ other. not_err (version.1 (has, other))) in
    rw (head, is) refl
  where
    not_err : {X : Type 0} {x : X} {why : HeadRefused} → Ok x ≡ Err why → ⊥
    not_err e = absurd cc
head-told ring chain payload allow (Err heads.BadHeader) header version =
    let head = head_false payload (header.0 refl) in
    rw head refl
head-told ring chain payload allow (Err heads.BadVersion) header version =
    let told = version.0 refl in
    let head = head_is payload told.0 in
    let other = version_false payload told.1 in
    rw (head, other) refl

-- no key of the id is there
pub head-missing : (ring : RingOf) (chain : List (List ℕ)) (payload : List ℕ) (allow : Bool) (id : KeyId)
    → opened ring chain payload allow ≡ opened_under (lookup_of ring.list ring.made_at (id_in payload).0) allow (id_in payload) chain (drop 20 payload)
    → id ≡ id_in payload → None ≡ lookup_of ring.list ring.made_at id.0 → opened ring chain payload allow ≡ Err (payloads.KeyNotFound id)
head-missing ring chain payload allow id told is none =
    let there : lookup_of ring.list ring.made_at (id_in payload).0 ≡ None = sym (none ∙ ap (λ (i : KeyId). lookup_of ring.list ring.made_at i.0) is) in
    told ∙ ap (λ (s : Option State). opened_under s allow (id_in payload) chain (drop 20 payload)) there ∙ ap (λ (i : KeyId). Err (payloads.KeyNotFound i)) (sym is)

-- a key of the id is there
pub head-held : (ring : RingOf) (chain : List (List ℕ)) (payload : List ℕ) (allow : Bool) (id : KeyId) (s : State) (body : List ℕ)
    → opened ring chain payload allow ≡ opened_under (lookup_of ring.list ring.made_at (id_in payload).0) allow (id_in payload) chain (drop 20 payload)
    → id ≡ id_in payload → Some s ≡ lookup_of ring.list ring.made_at id.0 → body ≡ drop 20 payload
    → opened_under (Some s) allow id chain body ≡ opened ring chain payload allow
head-held ring chain payload allow id s body told is held rest =
    let there : lookup_of ring.list ring.made_at (id_in payload).0 ≡ Some s = sym (held ∙ ap (λ (i : KeyId). lookup_of ring.list ring.made_at i.0) is) in
    sym (told ∙ ap (λ (o : Option State). opened_under o allow (id_in payload) chain (drop 20 payload)) there
    ∙ ap (λ (i : KeyId). opened_under (Some s) allow i chain (drop 20 payload)) (sym is)
    ∙ ap (λ (b : List ℕ). opened_under (Some s) allow id chain b) (sym rest))

-- the id that a view tells
pub id-is : (id : KeyId) (view payload : List ℕ) → id.0 ≡ id_of_guid (take 16 (drop 4 view)) → view ≡ payload → id ≡ id_in payload
id-is id view payload value same =
    let of : ℕ → KeyId = λ n. record { 0 = n } in
    ap of (value ∙ ap (λ (v : List ℕ). id_of_guid (take 16 (drop 4 v))) same)
