-- No purpose of a chain is longer than all together.
use Rattle.std.proofs.Common.{◌≡◌, ℕ, ◌<◌, ◌≤◌, List, [], length, map, get_or, ap, sym, ◌∙◌, arith}
use Rattle.std.proofs.lemmas.List.{get_or-map, length-map}
use Rattle.std.proofs.lemmas.List.Sums.{get_or-le-sum_by}
use Rattle.purpose_chain.specs.Chain.{bytes_of}

pub one-le : {X : Type 0} (bytes : X → List ℕ) (xs : List X) (i : ℕ) (x : X) (limit : ℕ) → i < length xs → x ≡ get_or xs i x → bytes_of (map bytes xs) ≤ limit → length (bytes x) ≤ limit
one-le bytes xs i x limit lt here short =
    let within : i < length (map bytes xs) = simp length-map lt in
    let same : get_or (map bytes xs) i [] ≡ bytes x = get_or-map bytes xs i x [] lt ∙ ap bytes (sym here) in
    omega (arith, get_or-le-sum_by length (map bytes xs) i [] within, ap length same)
