-- A part of a chain leaves room.
use Rattle.std.proofs.Common.{◌≡◌, ℕ, ◌+◌, ◌<◌, ◌≤◌, List, ◌∷◌, ◌++◌, length, ap, subst, sym, arith, length-append}
use Rattle.std.proofs.lemmas.List.Sums.{sum_by-append, sum_by-cons}
use Rattle.purpose_chain.specs.Chain.{bytes_of}

pub record HasRoom (chain : List (List ℕ)) (text : List ℕ) : Type 0 where
  pub few : length chain < 61
  pub short : bytes_of chain + length text ≤ 15256

-- where the purposes so far and those left are the whole
pub room : (chain left whole others : List (List ℕ)) (text : List ℕ) → chain ++ left ≡ whole → left ≡ text ∷ others → length whole ≤ 61 → bytes_of whole ≤ 15256 → HasRoom chain text
room chain left whole others text parts next few short =
    let count : length chain + length left ≤ 61 = subst (λ (n : ℕ). n ≤ 61) (length-append chain left) (subst (λ (w : List (List ℕ)). length w ≤ 61) (sym parts) few) in
    let bytes : bytes_of chain + bytes_of left ≤ 15256 = subst (λ (n : ℕ). n ≤ 15256) (sum_by-append length chain left) (subst (λ (w : List (List ℕ)). bytes_of w ≤ 15256) (sym parts) short) in
    record {
      few = omega (arith, ap length next);
      short = omega (arith, ap bytes_of next, sum_by-cons length text others);
    }
