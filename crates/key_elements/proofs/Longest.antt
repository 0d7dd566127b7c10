-- No record is longer than the longest.
use Rattle.std.proofs.Common.{◌≡◌, ℕ, ◌+◌, ◌/◌, ◌%◌, ◌≤◌, true, false, ltb, cond, List, [], ◌∷◌, ◌++◌, length, arith}
use Rattle.std.proofs.lemmas.Bool.{lt-ltb}
use Rattle.std.proofs.lemmas.List.{length-append}
use Rattle.dp_base.specs.Guid.{guid}
use Rattle.dp_base.specs.SevenBit.{groups, seven}
use Rattle.dp_base.proofs.Guid.{length-guid}
use Rattle.key_elements.specs.declared.element.Element.{Element}
use Rattle.key_elements.specs.declared.element.Element.TheVariants.{Key, RevokeKey, RevokeBefore}
use Rattle.key_elements.specs.declared.element.TheConstants.{MAX_RECORD}
use Rattle.key_elements.specs.declared.reason.TheConstants.{MAX_REASON}
use Rattle.key_elements.specs.Reason.{IsReason}
use Rattle.key_elements.specs.Record.{date, key_fields, reason_field, record_of, IsElement}

-- the length of a reason has one byte or two
length-seven-le : (n : ℕ) → n ≤ MAX_REASON → length (seven n) ≤ 2
unfolding seven
length-seven-le n le =
    let second : ltb (n / 128) 128 ≡ true = lt-ltb _ _ (omega arith) in
    elim (ltb n 128) as (λ b. length (cond b (n ∷ []) ((128 + n % 128) ∷ groups 3 (n / 128))) ≤ 2) [
      | true ↦ omega arith
      | false ↦ rw second (omega arith)
    ]

length-reason_field-le : (text : List ℕ) → IsReason text → length (reason_field text) ≤ 2 + MAX_REASON
unfolding reason_field
length-reason_field-le text is =
    omega (arith, is.few, length-append (seven (length text)) text, length-seven-le (length text) is.few)

pub length-record-le : (e : Element) → IsElement e → length (record_of e) ≤ MAX_RECORD
unfolding key_fields
length-record-le (Key k) is =
    let id = guid k.id.0 in
    let one = id ++ date k.creation in
    let two = one ++ date k.activation in
    let three = two ++ date k.expiration in
    omega (arith, length-append three (k.alg ∷ k.material), length-append two (date k.expiration), length-append one (date k.activation), length-append id (date k.creation), length-guid k.id.0, is.material_len)
length-record-le (RevokeKey id d text) is =
    omega (arith, length-append (guid id.0 ++ date d) (reason_field text), length-append (guid id.0) (date d), length-guid id.0, length-reason_field-le text is.reason)
length-record-le (RevokeBefore d text) is =
    omega (arith, length-append (date d) (reason_field text), length-reason_field-le text is.reason)
