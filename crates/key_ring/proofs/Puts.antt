-- Putting a record: at its key's place, or at the end.
use Rattle.std.proofs.Common.{◌≡◌, ℕ, zero, suc, ◌<◌, true, false, List, [], ◌∷◌, ◌++◌, length, get_or, set, refl, ap, eq-eqb, ne_eqb, arith}
use Rattle.std.proofs.lemmas.List.{get_or_read}
use Rattle.key_elements.specs.declared.element.KeyRecord.{KeyRecord}
use Rattle.key_ring.specs.Keys.{same_key}
use Rattle.key_ring.specs.Put.{put_record}

-- at the first place of its key
pub put_record-at : (r : KeyRecord) (xs : List KeyRecord) (i : ℕ) → i < length xs → ((k : ℕ) → k < i → same_key (get_or xs k r) r ≡ false)
    → same_key (get_or xs i r) r ≡ true → put_record r xs ≡ set xs i r
put_record-at r [] i lt others here = absurd (omega arith)
put_record-at r (x ∷ xs) zero lt others here = rw here refl
put_record-at r (x ∷ xs) (suc i) lt others here =
    let first : same_key x r ≡ false = others 0 (omega arith) in
    rw first (ap (λ (t : List KeyRecord). x ∷ t) (put_record-at r xs i (omega arith) (λ k h. others (suc k) (omega arith)) here))

-- at the end, where its key is new
pub put_record-new : (r : KeyRecord) (xs : List KeyRecord) → ((k : ℕ) → k < length xs → same_key (get_or xs k r) r ≡ false) → put_record r xs ≡ xs ++ r ∷ []
put_record-new r [] others = refl
put_record-new r (x ∷ xs) others =
    let first : same_key x r ≡ false = others 0 (omega arith) in
    rw first (ap (λ (t : List KeyRecord). x ∷ t) (put_record-new r xs (λ k h. others (suc k) (omega arith))))

-- a record that was read at a place has the record's id, or another
pub same_key-read : (xs : List KeyRecord) (i : ℕ) (x r : KeyRecord) → i < length xs → x ≡ get_or xs i x → x.id.0 ≡ r.id.0 → same_key (get_or xs i r) r ≡ true
same_key-read xs i x r lt is same =
    let read : x ≡ get_or xs i r = get_or_read xs i x lt is r in
    rw (← read) (eq-eqb x.id.0 r.id.0 same)

pub other_key-read : (xs : List KeyRecord) (i : ℕ) (x r : KeyRecord) → i < length xs → x ≡ get_or xs i x → (x.id.0 ≡ r.id.0 → ⊥) → same_key (get_or xs i r) r ≡ false
other_key-read xs i x r lt is differ =
    let read : x ≡ get_or xs i r = get_or_read xs i x lt is r in
    rw (← read) (ne_eqb x.id.0 r.id.0 differ)
