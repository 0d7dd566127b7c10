-- The front of a row of blocks, one block further.
use Rattle.std.proofs.Common.{◌≡◌, ℕ, zero, suc, ◌+◌, ◌-◌, ◌/◌, ◌%◌, ◌<◌, ◌≤◌, List, [], ◌∷◌, ◌++◌, length, take, min, refl, ap, inl, inr, arith, append_assoc}
use Rattle.std.specs.Int.{div_ceil}
use Rattle.std.proofs.lemmas.Bool.{cases_lt}
use Rattle.std.proofs.lemmas.List.{take_min}
use Rattle.std.proofs.lemmas.Slice.{take-put_mid}
use Rattle.std.proofs.Math.Nat.{div-eq-sub-div, div-eq_of_lt, mod-eq-sub-mod, mod-eq_of_lt}
use borrow.Rule.Slice.PartMut.{put_mid}
use Rattle.kdf_ctr.specs.Kdf.{block, blocks}

div_ceil-le : (m h : ℕ) → 0 < h → h ≤ m → div_ceil m h ≡ suc (div_ceil (m - h) h)
div_ceil-le m h some le =
    let q = div-eq-sub-div some le in
    let r = mod-eq-sub-mod le in
    rw (q, ← r) (omega arith)

div_ceil-lt : (m h : ℕ) → 0 < h → 0 < m → m < h → div_ceil m h ≡ suc (div_ceil (m - h) h)
div_ceil-lt m h some more lt =
    let q = div-eq_of_lt lt in
    let r = mod-eq_of_lt lt in
    let none : m - h ≡ 0 = omega arith in
    let q0 : 0 / h ≡ 0 = div-eq_of_lt some in
    let r0 : 0 % h ≡ 0 = mod-eq_of_lt some in
    rw (q, r, none, q0, r0) (omega arith)

-- what is left takes one block, and then what is left after it
div_ceil-cons : (m h : ℕ) → 0 < h → 0 < m → div_ceil m h ≡ suc (div_ceil (m - h) h)
div_ceil-cons m h some more =
    elim (cases_lt m h) [ inl lt ↦ div_ceil-lt m h some more lt | inr le ↦ div_ceil-le m h some le ]

take-append : (n : ℕ) (xs ys : List ℕ) → take n (xs ++ ys) ≡ take n xs ++ take (n - length xs) ys
take-append n [] ys =
    let all : n - 0 ≡ n = omega arith in
    rw (all, take_nil n) refl
  where
    take_nil : (n : ℕ) → take n (let none : List ℕ = [] in none) ≡ []
    take_nil zero = refl
    take_nil (suc n) = refl
take-append zero (x ∷ xs) ys = let none : 0 - suc (length xs) ≡ 0 = omega arith in rw none refl
take-append (suc n) (x ∷ xs) ys =
    let down : suc n - suc (length xs) ≡ n - length xs = omega arith in
    rw down (ap (λ (rest : List ℕ). x ∷ rest) (take-append n xs ys))

-- the front of the blocks begins with the front of the first
pub take-blocks : (prf : List ℕ → List ℕ → List ℕ) (key fixed : List ℕ) (h number m : ℕ) → 0 < h → 0 < m →
    length (block prf key fixed number) ≡ h →
    take m (blocks prf key fixed number (div_ceil m h))
    ≡ take m (block prf key fixed number) ++ take (m - h) (blocks prf key fixed (number + 1) (div_ceil (m - h) h))
take-blocks prf key fixed h number m some more len =
    let count = div_ceil-cons m h some more in
    rw count (rw len at (take-append m (block prf key fixed number) (blocks prf key fixed (number + 1) (div_ceil (m - h) h))))

-- a piece has the front of its block that the room left has
pub take-front : (n a e h : ℕ) (bs : List ℕ) → length bs ≡ h → e ≡ min n (a + h) → take (e - a) bs ≡ take (n - a) bs
take-front n a e h bs len end =
    let count : e - a ≡ min (n - a) (length bs) = omega arith in
    rw count (take_min (n - a) bs)

-- What is written up to the place a and what the rest gives are the whole. Where the piece up to the
-- place e is written, the rest goes on behind it.
pub written : (whole out ys more less : List ℕ) (a e : ℕ) → a ≤ e → e ≤ length out → length ys ≡ e - a →
    whole ≡ take a out ++ more → more ≡ ys ++ less → whole ≡ take e (put_mid a (e - a) out ys) ++ less
written whole out ys more less a e low high full so_far step =
    let front = take-put_mid a (e - a) out ys e (omega arith) (omega arith) in
    rw (front, append_assoc, ← step) so_far
