-- The xor of two lists of bytes.
use Rattle.std.proofs.Common.{◌≡◌, ℕ, zero, suc, ◌<◌, List, [], ◌∷◌, length, refl, ap, ◌++◌, take, drop, set, slice_index, bit_xor, lit<, arith}
use Rattle.std.specs.Int.Bits.{xor_assoc, xor_self, xor_zero_r}
use Rattle.std.proofs.lemmas.Nat.{xor_lt}
use Rattle.dp_base.specs.Blocks.{AreBytes, IsBlock, xor_bytes}

pub length-xor_bytes : (xs ys : List ℕ) → length xs ≡ length ys → length (xor_bytes xs ys) ≡ length xs
length-xor_bytes [] ys e = refl
length-xor_bytes (x ∷ xs) [] e = cc
length-xor_bytes (x ∷ xs) (y ∷ ys) e = ap suc (length-xor_bytes xs ys (omega arith))

bit_xor-twice : (x y : ℕ) → bit_xor (bit_xor x y) y ≡ x
bit_xor-twice x y = rw (xor_assoc, xor_self, xor_zero_r)

-- the second xor undoes the first
pub xor_bytes-twice : (xs ys : List ℕ) → length xs ≡ length ys → xor_bytes (xor_bytes xs ys) ys ≡ xs
xor_bytes-twice [] ys e = refl
xor_bytes-twice (x ∷ xs) [] e = cc
xor_bytes-twice (x ∷ xs) (y ∷ ys) e =
    let here = bit_xor-twice x y in
    let rest = xor_bytes-twice xs ys (omega arith) in
    cc

pub AreBytes-xor : (xs ys : List ℕ) → AreBytes xs → AreBytes ys → AreBytes (xor_bytes xs ys)
AreBytes-xor [] ys p q i = lit< tt
AreBytes-xor (x ∷ xs) [] p q i = lit< tt
AreBytes-xor (x ∷ xs) (y ∷ ys) p q zero = xor_lt 8 x y (p 0) (q 0)
AreBytes-xor (x ∷ xs) (y ∷ ys) p q (suc i) =
    AreBytes-xor xs ys (λ j. p (suc j)) (λ j. q (suc j)) i

pub IsBlock-xor : (xs ys : List ℕ) → IsBlock xs → IsBlock ys → IsBlock (xor_bytes xs ys)
IsBlock-xor xs ys p q =
    let same : length xs ≡ length ys = omega arith in
    let n = length-xor_bytes xs ys same in
    (omega arith, AreBytes-xor xs ys p.1 q.1)

-- one byte more of a xor in place
pub xor_bytes-more : (xs ys : List ℕ) (i : ℕ) → i < length xs → i < length ys →
    let done = xor_bytes (take i xs) ys ++ drop i xs in
    set done i (bit_xor (slice_index done i) (slice_index ys i)) ≡ xor_bytes (take (suc i) xs) ys ++ drop (suc i) xs
xor_bytes-more [] ys i lt e = absurd (omega arith)
xor_bytes-more (x ∷ xs) [] i lt e = absurd (omega arith)
xor_bytes-more (x ∷ xs) (y ∷ ys) zero lt e = refl
xor_bytes-more (x ∷ xs) (y ∷ ys) (suc i) lt e =
    ap (λ rest. bit_xor x y ∷ rest) (xor_bytes-more xs ys i (omega arith) (omega arith))
