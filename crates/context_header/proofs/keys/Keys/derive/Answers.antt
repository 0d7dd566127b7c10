use Rattle.std.proofs.Common.{◌≡◌, ◌+◌, ◌-◌, List, ℕ, take, drop, refl, sym, ap, ◌∙◌, arith}
use Rattle.std.proofs.lemmas.List.{drop-take, take-take}
use Rattle.context_header.specs.Keys.{KeyPair, derived}
use Rattle.context_header.proofs.keys.Keys.derive.Goals as goal

same_pair : (a b x y : List ℕ) → a ≡ x → b ≡ y →
    (let one : KeyPair = record { encryption = a; validation = b } in one) ≡ (let two : KeyPair = record { encryption = x; validation = y } in two)
same_pair a b x y p q = cc

-- the two parts of the front of the bytes
parts : (bytes whole cipher : List ℕ) (from to m : ℕ) → to ≡ from + m → take to bytes ≡ whole → cipher ≡ take from bytes →
    (let one : KeyPair = record { encryption = cipher; validation = take (to - from) (drop from bytes) } in one)
    ≡ (let two : KeyPair = record { encryption = take from whole; validation = drop from whole } in two)
parts bytes whole cipher from to m sum is cut =
    let first : take from (take to bytes) ≡ take from bytes = take-take from to bytes (omega arith) in
    let rest : to - from ≡ m = omega arith in
    let second : drop from (take to bytes) ≡ take (to - from) (drop from bytes) = rw (rest, sum) (drop-take from m bytes) in
    same_pair _ _ _ _ (cut ∙ sym first ∙ ap (take from) is) (sym second ∙ ap (drop from) is)

pub returns : goal.returns
unfolding derived
returns c =
    let from = c.key_len-from.ensures in
    let more = c.mac_len.ensures in
    rw (← from, ← more) (parts c.derived_bytes-bytes.result _ c.in-Ok.cipher c.key_len-from.result _ c.mac_len.result refl c.derived_bytes-bytes.ensures c.in-Ok.ensures.value)
