-- Sums and multiples in GF(2^128): the next multiple is linear, so are the multiples after it and the
-- product, and a multiple is a shift where no 1 is shifted out.
use Rattle.std.proofs.Common.{◌≡◌, ℕ, zero, suc, ◌+◌, ◌*◌, ◌/◌, ◌%◌, ◌^◌, ◌<◌, bit_xor, refl, sym, ap, ◌∙◌, arith, one-mul, zero-mul, mul_assoc, pow-suc, pow_pos, mod-lt, shr-shr}
use Rattle.std.specs.Int.Bits.{xor_assoc, xor_self, xor_zero_l, xor_zero_r, xor_shifted}
use Rattle.std.proofs.lemmas.Nat.{xor_comm, xor_shr, xor_mod, shr_split}
use Rattle.gcm_mode.specs.Key.{multiple}
use Rattle.gcm_mode.specs.Product.{reduction, next_multiple, sum_of_multiples, product}

-- ---- sums

pub xor_swap : (a b c d : ℕ) → bit_xor (bit_xor a b) (bit_xor c d) ≡ bit_xor (bit_xor a c) (bit_xor b d)
xor_swap a b c d =
    let middle : bit_xor b (bit_xor c d) ≡ bit_xor c (bit_xor b d) =
    sym (xor_assoc b c d) ∙ ap (λ (n : ℕ). bit_xor n d) (xor_comm b c) ∙ xor_assoc c b d in
    xor_assoc a b (bit_xor c d) ∙ ap (λ (n : ℕ). bit_xor a n) middle ∙ sym (xor_assoc a c (bit_xor b d))

-- a sum of bits, times a number
bit-times : (a b r : ℕ) → a < 2 → b < 2 → bit_xor a b * r ≡ bit_xor (a * r) (b * r)
bit-times zero b r la lb = rw (xor_zero_l b, zero-mul) refl
bit-times (suc zero) zero r la lb = rw (zero-mul, xor_zero_r (1 * r)) refl
bit-times (suc zero) (suc zero) r la lb = rw (zero-mul, xor_self (1 * r)) refl
bit-times (suc zero) (suc (suc b)) r la lb = absurd (omega arith)
bit-times (suc (suc a)) b r la lb = absurd (omega arith)

-- a bit, times a sum
times-sum : (c v w : ℕ) → c < 2 → c * bit_xor v w ≡ bit_xor (c * v) (c * w)
times-sum zero v w lt = rw (zero-mul, zero-mul, zero-mul) refl
times-sum (suc zero) v w lt = rw (one-mul, one-mul, one-mul) refl
times-sum (suc (suc c)) v w lt = absurd (omega arith)

-- ---- the next multiple

pub next_multiple-xor : (v w : ℕ) → next_multiple (bit_xor v w) ≡ bit_xor (next_multiple v) (next_multiple w)
unfolding next_multiple
next_multiple-xor v w =
    let half : bit_xor v w / 2 ≡ bit_xor (v / 2) (w / 2) = xor_shr v w 1 in
    let last : bit_xor v w % 2 ≡ bit_xor (v % 2) (w % 2) = xor_mod v w 1 in
    let both = bit-times (v % 2) (w % 2) reduction (omega arith) (omega arith) in
    rw (half, last, both) (xor_swap (v / 2) (w / 2) (v % 2 * reduction) (w % 2 * reduction))

next_multiple-zero : next_multiple 0 ≡ 0
unfolding next_multiple
next_multiple-zero = refl

next_multiple-times : (c v : ℕ) → c < 2 → next_multiple (c * v) ≡ c * next_multiple v
next_multiple-times zero v lt = rw (zero-mul, zero-mul) next_multiple-zero
next_multiple-times (suc zero) v lt = rw (one-mul, one-mul) refl
next_multiple-times (suc (suc c)) v lt = absurd (omega arith)

-- a place to the right, where the last bit is 0
next_multiple-even : (v : ℕ) → next_multiple (v * 2) ≡ v
unfolding next_multiple
next_multiple-even v =
    let half : v * 2 / 2 ≡ v = omega arith in
    let last : v * 2 % 2 ≡ 0 = omega arith in
    rw (half, last, zero-mul, xor_zero_r) refl

-- ---- the multiples after it

pub multiple-xor : (n v w : ℕ) → multiple n (bit_xor v w) ≡ bit_xor (multiple n v) (multiple n w)
unfolding multiple
multiple-xor zero v w = refl
multiple-xor (suc n) v w = rw (next_multiple-xor v w) (multiple-xor n (next_multiple v) (next_multiple w))

pub multiple-add : (j k n v : ℕ) → n ≡ k + j → multiple n v ≡ multiple j (multiple k v)
unfolding multiple
multiple-add j zero n v e = let same : n ≡ j = omega arith in rw same refl
multiple-add j (suc k) n v e =
    let up : n ≡ suc (k + j) = omega arith in
    rw up (multiple-add j k (k + j) (next_multiple v) refl)

pub multiple-whole : (k v : ℕ) → multiple k (v * 2 ^ k) ≡ v
unfolding multiple
multiple-whole zero v = omega arith
multiple-whole (suc k) v =
    let twice : v * 2 ^ suc k ≡ v * 2 ^ k * 2 = rw (pow-suc) (sym (mul_assoc v (2 ^ k) 2)) in
    rw (twice, next_multiple-even) (multiple-whole k v)

-- the bits that stay, and those that are shifted out
pub multiple-parts : (k v : ℕ) → multiple k v ≡ bit_xor (v / 2 ^ k) (multiple k (v % 2 ^ k))
multiple-parts k v =
    let pos = pow_pos k in
    let lt : v % 2 ^ k < 2 ^ k = mod-lt v pos in
    let split : v ≡ bit_xor (v / 2 ^ k * 2 ^ k) (v % 2 ^ k) = sym (xor_shifted (v / 2 ^ k) k (v % 2 ^ k) lt ∙ shr_split v k) in
    ap (multiple k) split ∙ multiple-xor k (v / 2 ^ k * 2 ^ k) (v % 2 ^ k)
    ∙ ap (λ (n : ℕ). bit_xor n (multiple k (v % 2 ^ k))) (multiple-whole k (v / 2 ^ k))

-- ---- the sum of multiples

pub sum_of_multiples-xor : (n x v w : ℕ) →
    sum_of_multiples n x (bit_xor v w) ≡ bit_xor (sum_of_multiples n x v) (sum_of_multiples n x w)
unfolding sum_of_multiples
sum_of_multiples-xor zero x v w = refl
sum_of_multiples-xor (suc n) x v w =
    let c = x / 2 ^ n % 2 in
    let first = times-sum c v w (omega arith) in
    let rest = sum_of_multiples-xor n x (next_multiple v) (next_multiple w) in
    rw (first, next_multiple-xor v w, rest)
    (xor_swap (c * v) (c * w) (sum_of_multiples n x (next_multiple v)) (sum_of_multiples n x (next_multiple w)))

pub sum_of_multiples-xor_left : (n x y v : ℕ) →
    sum_of_multiples n (bit_xor x y) v ≡ bit_xor (sum_of_multiples n x v) (sum_of_multiples n y v)
unfolding sum_of_multiples
sum_of_multiples-xor_left zero x y v = refl
sum_of_multiples-xor_left (suc n) x y v =
    let a = x / 2 ^ n in
    let b = y / 2 ^ n in
    let bit : bit_xor x y / 2 ^ n % 2 ≡ bit_xor (a % 2) (b % 2) = ap (λ (m : ℕ). m % 2) (xor_shr x y n) ∙ xor_mod a b 1 in
    let first = bit-times (a % 2) (b % 2) v (omega arith) (omega arith) in
    let rest = sum_of_multiples-xor_left n x y (next_multiple v) in
    rw (bit, first, rest)
    (xor_swap (a % 2 * v) (b % 2 * v) (sum_of_multiples n x (next_multiple v)) (sum_of_multiples n y (next_multiple v)))

-- the product is linear in each factor
pub product-xor : (x v w : ℕ) → product x (bit_xor v w) ≡ bit_xor (product x v) (product x w)
unfolding product
product-xor x v w = sum_of_multiples-xor 128 x v w

pub product-xor_left : (x y v : ℕ) → product (bit_xor x y) v ≡ bit_xor (product x v) (product y v)
unfolding product
product-xor_left x y v = sum_of_multiples-xor_left 128 x y v

sum_of_multiples-next : (n x v : ℕ) → sum_of_multiples n x (next_multiple v) ≡ next_multiple (sum_of_multiples n x v)
unfolding sum_of_multiples
sum_of_multiples-next zero x v = sym next_multiple-zero
sum_of_multiples-next (suc n) x v =
    let c = x / 2 ^ n % 2 in
    let first = next_multiple-times c v (omega arith) in
    rw (next_multiple-xor (c * v) (sum_of_multiples n x (next_multiple v)), first, sum_of_multiples-next n x (next_multiple v)) refl

-- the first n bits of n + k, and the k bits after them
pub sum_of_multiples-more : (n k m x v : ℕ) → m ≡ n + k →
    sum_of_multiples m x v ≡ bit_xor (sum_of_multiples n (x / 2 ^ k) v) (multiple n (sum_of_multiples k x v))
unfolding sum_of_multiples multiple
sum_of_multiples-more zero k m x v e = let same : m ≡ k = omega arith in rw same refl
sum_of_multiples-more (suc n) k m x v e =
    let up : m ≡ suc (n + k) = omega arith in
    let turned : n + k ≡ k + n = omega arith in
    let bit : x / 2 ^ (n + k) ≡ x / 2 ^ k / 2 ^ n = ap (λ (i : ℕ). x / 2 ^ i) turned ∙ sym (shr-shr x k n) in
    let rest = sum_of_multiples-more n k (n + k) x (next_multiple v) refl in
    let last = sum_of_multiples-next k x v in
    rw (up, bit, rest, last)
    (sym (xor_assoc (x / 2 ^ k / 2 ^ n % 2 * v) (sum_of_multiples n (x / 2 ^ k) (next_multiple v)) (multiple n (next_multiple (sum_of_multiples k x v)))))

-- a digit of four bits
pub sum_of_multiples-digit : (x v : ℕ) → sum_of_multiples 4 (x % 16) v ≡ sum_of_multiples 4 x v
unfolding sum_of_multiples
sum_of_multiples-digit x v =
    let a : x % 16 / 8 % 2 ≡ x / 8 % 2 = omega arith in
    let b : x % 16 / 4 % 2 ≡ x / 4 % 2 = omega arith in
    let c : x % 16 / 2 % 2 ≡ x / 2 % 2 = omega arith in
    let d : x % 16 / 1 % 2 ≡ x / 1 % 2 = omega arith in
    rw (a, b, c, d) refl
