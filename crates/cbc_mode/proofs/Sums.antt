-- The order of two lists in their xor.
use Rattle.std.proofs.Common.{◌≡◌, ℕ, List, [], ◌∷◌, refl}
use Rattle.std.proofs.lemmas.Nat.{xor_comm}
use Rattle.dp_base.specs.Blocks.{xor_bytes}

pub xor_bytes-swap : (xs ys : List ℕ) → xor_bytes xs ys ≡ xor_bytes ys xs
xor_bytes-swap [] [] = refl
xor_bytes-swap [] (y ∷ ys) = refl
xor_bytes-swap (x ∷ xs) [] = refl
xor_bytes-swap (x ∷ xs) (y ∷ ys) = let rest = xor_bytes-swap xs ys in λ i. xor_comm x y i ∷ rest i
