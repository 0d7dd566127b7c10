-- A product in turns of four digits: each turn goes four places on and adds a digit of each quarter,
-- in a number of 256 bits that is reduced at the end.
use Rattle.std.proofs.Common.{◌≡◌, ℕ, ◌+◌, ◌-◌, ◌*◌, ◌/◌, ◌%◌, ◌^◌, ◌<◌, ◌≤◌, bit_xor, refl, sym, ap, ◌∙◌, arith, add-zero, zero-mul, le_refl, pow-add, pow_pos, mul_assoc, shr-shr, lit≤}
use Rattle.std.specs.Int.Bits.{xor_assoc}
use Rattle.std.proofs.lemmas.Nat.{xor_comm, xor_shr, xor_mod, shr_split, field_of, mod_low, mod-pow-add, shl-shr}
use Rattle.gcm_mode.specs.Key.{multiple, element}
use Rattle.gcm_mode.specs.Product.{sum_of_multiples, product}
use Rattle.gcm_mode.proofs.Multiples.{xor_swap, multiple-xor, multiple-add, multiple-whole, multiple-parts, sum_of_multiples-more}
use Rattle.gcm_mode.proofs.Reducing.{multiple-turned, multiple-128}

-- ---- numbers whose last bits are 0

clear-whole : (u k m : ℕ) → m ≤ k → u * 2 ^ k % 2 ^ m ≡ 0
clear-whole u k m le =
    let more : k ≡ k - m + m = omega arith in
    let split : u * 2 ^ k ≡ u * 2 ^ (k - m) * 2 ^ m = ap (λ (n : ℕ). u * 2 ^ n) more ∙ rw (pow-add) (sym (mul_assoc u (2 ^ (k - m)) (2 ^ m))) in
    ap (λ (n : ℕ). n % 2 ^ m) (split ∙ sym (add-zero (u * 2 ^ (k - m) * 2 ^ m))) ∙ mod_low (u * 2 ^ (k - m)) m 0 (pow_pos m)

-- what stays of 128 bits that are shifted
pub cut : (v j k : ℕ) → k + j ≡ 128 → v * 2 ^ j % 2 ^ 128 ≡ v % 2 ^ k * 2 ^ j
cut v j k e =
    let field = mod-pow-add (v * 2 ^ j) k j in
    let whole = shl-shr v j in
    let none = clear-whole v j j (le_refl j) in
    ap (λ (n : ℕ). v * 2 ^ j % 2 ^ n) (sym e) ∙ field ∙ rw (whole, none) (add-zero (v % 2 ^ k * 2 ^ j))

pub clear-less : (v k m : ℕ) → m ≤ k → v % 2 ^ k ≡ 0 → v % 2 ^ m ≡ 0
clear-less v k m le clear =
    let split = shr_split v k in
    let whole : v ≡ v / 2 ^ k * 2 ^ k = omega arith in
    rw whole (clear-whole (v / 2 ^ k) k m le)

clear-xor : (v w m : ℕ) → v % 2 ^ m ≡ 0 → w % 2 ^ m ≡ 0 → bit_xor v w % 2 ^ m ≡ 0
clear-xor v w m a b = xor_mod v w m ∙ rw (a, b) refl

clear-shifted : (v m : ℕ) → v % 2 ^ (m + 4) ≡ 0 → v / 16 % 2 ^ m ≡ 0
clear-shifted v m clear = sym (field_of v m 4) ∙ rw clear refl

multiple-shift : (k v : ℕ) → v % 2 ^ k ≡ 0 → multiple k v ≡ v / 2 ^ k
multiple-shift k v clear =
    let split = shr_split v k in
    let whole : v ≡ v / 2 ^ k * 2 ^ k = omega arith in
    ap (multiple k) whole ∙ multiple-whole k (v / 2 ^ k)

multiple-zero : (k : ℕ) → multiple k 0 ≡ 0
multiple-zero k = ap (multiple k) (sym (zero-mul (2 ^ k))) ∙ multiple-whole k 0

-- ---- 256 bits

-- what moves from one end of a number into the low half
multiple-low : (j k v : ℕ) → j + k ≡ 128 → multiple 128 (v * 2 ^ j) ≡ multiple k v
multiple-low j k v e = multiple-add k j 128 (v * 2 ^ j) (sym e) ∙ ap (multiple k) (multiple-whole j v)

multiple-halves : (j k v : ℕ) → j + k ≡ 128 → bit_xor (v / 2 ^ k) (multiple 128 (v % 2 ^ k * 2 ^ j)) ≡ multiple k v
multiple-halves j k v e = rw (multiple-low j k (v % 2 ^ k) e) (sym (multiple-parts k v))

pub element-zero : element 0 0 ≡ 0
element-zero = multiple-zero 128

-- four places to the right
element-shift : (high low : ℕ) → low % 16 ≡ 0 →
    element (high / 16) (bit_xor (low / 16) (high % 16 * 2 ^ 124)) ≡ multiple 4 (element high low)
element-shift high low clear =
    let out : multiple 4 low ≡ low / 16 = multiple-shift 4 low clear in
    let front : bit_xor (high / 16) (multiple 128 (high % 16 * 2 ^ 124)) ≡ multiple 4 high = multiple-halves 124 4 high refl in
    let back : multiple 128 (low / 16) ≡ multiple 4 (multiple 128 low) = sym (multiple-turned 4 128 low ∙ ap (multiple 128) out) in
    rw (multiple-xor 128 (low / 16) (high % 16 * 2 ^ 124), back, multiple-xor 4 high (multiple 128 low), ← front)
    (ap (bit_xor (high / 16)) (xor_comm (multiple 4 (multiple 128 low)) (multiple 128 (high % 16 * 2 ^ 124)))
    ∙ sym (xor_assoc (high / 16) (multiple 128 (high % 16 * 2 ^ 124)) (multiple 4 (multiple 128 low))))

-- a number at the first place of each quarter
abbrev pub quarters : ℕ → ℕ → ℕ → ℕ → ℕ
quarters a b c d = bit_xor (bit_xor (bit_xor a (multiple 32 b)) (multiple 64 c)) (multiple 96 d)

abbrev pub quarters_high : ℕ → ℕ → ℕ → ℕ → ℕ
quarters_high a b c d = bit_xor (bit_xor (bit_xor a (b / 2 ^ 32)) (c / 2 ^ 64)) (d / 2 ^ 96)

abbrev pub quarters_low : ℕ → ℕ → ℕ → ℕ
quarters_low b c d = bit_xor (bit_xor (b % 2 ^ 32 * 2 ^ 96) (c % 2 ^ 64 * 2 ^ 64)) (d % 2 ^ 96 * 2 ^ 32)

element-quarters : (a b c d : ℕ) → element (quarters_high a b c d) (quarters_low b c d) ≡ quarters a b c d
element-quarters a b c d =
    let b0 = b % 2 ^ 32 * 2 ^ 96 in
    let c0 = c % 2 ^ 64 * 2 ^ 64 in
    let d0 = d % 2 ^ 96 * 2 ^ 32 in
    let low : multiple 128 (quarters_low b c d) ≡ bit_xor (bit_xor (multiple 128 b0) (multiple 128 c0)) (multiple 128 d0) =
    multiple-xor 128 (bit_xor b0 c0) d0 ∙ ap (λ (n : ℕ). bit_xor n (multiple 128 d0)) (multiple-xor 128 b0 c0) in
    rw (
      low,
      xor_swap (bit_xor (bit_xor a (b / 2 ^ 32)) (c / 2 ^ 64)) (d / 2 ^ 96) (bit_xor (multiple 128 b0) (multiple 128 c0)) (multiple 128 d0),
      xor_swap (bit_xor a (b / 2 ^ 32)) (c / 2 ^ 64) (multiple 128 b0) (multiple 128 c0),
      xor_assoc a (b / 2 ^ 32) (multiple 128 b0),
      multiple-halves 96 32 b refl,
      multiple-halves 64 64 c refl,
      multiple-halves 32 96 d refl,
    ) refl

element-xor : (g h l m : ℕ) → element (bit_xor g h) (bit_xor l m) ≡ bit_xor (element g l) (element h m)
element-xor g h l m = rw (multiple-xor 128 l m) (xor_swap g h (multiple 128 l) (multiple 128 m))

-- one turn
pub element-turn : (high low a b c d : ℕ) → low % 16 ≡ 0 →
    element (bit_xor (high / 16) (quarters_high a b c d)) (bit_xor (bit_xor (low / 16) (high % 16 * 2 ^ 124)) (quarters_low b c d))
    ≡ bit_xor (multiple 4 (element high low)) (quarters a b c d)
element-turn high low a b c d clear =
    element-xor (high / 16) (quarters_high a b c d) (bit_xor (low / 16) (high % 16 * 2 ^ 124)) (quarters_low b c d)
    ∙ rw (element-shift high low clear, element-quarters a b c d) refl

-- the places at the end of the low half that are still clear
pub clear-turn : (high low b c d m : ℕ) → m ≤ 32 → low % 2 ^ (m + 4) ≡ 0 →
    bit_xor (bit_xor (low / 16) (high % 16 * 2 ^ 124)) (quarters_low b c d) % 2 ^ m ≡ 0
clear-turn high low b c d m le clear =
    clear-xor (bit_xor (low / 16) (high % 16 * 2 ^ 124)) (quarters_low b c d) m
    (clear-xor (low / 16) (high % 16 * 2 ^ 124) m (clear-shifted low m clear) (clear-whole (high % 16) 124 m (omega arith)))
    (clear-xor (bit_xor (b % 2 ^ 32 * 2 ^ 96) (c % 2 ^ 64 * 2 ^ 64)) (d % 2 ^ 96 * 2 ^ 32) m
    (clear-xor (b % 2 ^ 32 * 2 ^ 96) (c % 2 ^ 64 * 2 ^ 64) m
    (clear-whole (b % 2 ^ 32) 96 m (omega arith)) (clear-whole (c % 2 ^ 64) 64 m (omega arith)))
    (clear-whole (d % 2 ^ 96) 32 m le))

-- ---- the reduction

-- what is left of 256 bits, where t has what the last shift drops
abbrev pub reduced : ℕ → ℕ → ℕ
reduced high t = bit_xor high (bit_xor (bit_xor (bit_xor t (t / 2)) (t / 4)) (t / 128))

pub reduced-element : (high low : ℕ) → low < 2 ^ 128 → low % 16 ≡ 0 →
    reduced high (bit_xor low (low % 128 * 2 ^ 121)) ≡ element high low
reduced-element high low lt clear =
    let s = low % 128 * 2 ^ 121 in
    let small : s < 2 ^ 128 = omega arith in
    let low1 : multiple 1 low ≡ low / 2 = multiple-shift 1 low (omega arith) in
    let low2 : multiple 2 low ≡ low / 4 = multiple-shift 2 low (omega arith) in
    let s1 : multiple 1 s ≡ s / 2 = multiple-shift 1 s (clear-whole (low % 128) 121 1 (lit≤ tt)) in
    let s2 : multiple 2 s ≡ s / 4 = multiple-shift 2 s (clear-whole (low % 128) 121 2 (lit≤ tt)) in
    let s7 : multiple 7 s ≡ s / 128 = multiple-shift 7 s (clear-whole (low % 128) 121 7 (lit≤ tt)) in
    let dropped : multiple 7 (low % 128) ≡ bit_xor (bit_xor (bit_xor s (s / 2)) (s / 4)) (s / 128) =
    sym (multiple-low 121 7 (low % 128) refl) ∙ multiple-128 s small ∙ rw (s1, s2, s7) refl in
    let low7 : multiple 7 low ≡ bit_xor (low / 128) (bit_xor (bit_xor (bit_xor s (s / 2)) (s / 4)) (s / 128)) =
    multiple-parts 7 low ∙ ap (bit_xor (low / 128)) dropped in
    let whole : multiple 128 low ≡ bit_xor (bit_xor (bit_xor low (low / 2)) (low / 4)) (bit_xor (low / 128) (bit_xor (bit_xor (bit_xor s (s / 2)) (s / 4)) (s / 128))) =
    rw (multiple-128 low lt, low1, low2, low7) refl in
    let second = xor_shr low s 1 in
    let third = xor_shr low s 2 in
    let fourth = xor_shr low s 7 in
    ap (bit_xor high) (
    rw (
      second,
      third,
      fourth,
      xor_swap low s (low / 2) (s / 2),
      xor_swap (bit_xor low (low / 2)) (bit_xor s (s / 2)) (low / 4) (s / 4),
      xor_swap (bit_xor (bit_xor low (low / 2)) (low / 4)) (bit_xor (bit_xor s (s / 2)) (s / 4)) (low / 128) (s / 128),
    )
    (xor_assoc (bit_xor (bit_xor low (low / 2)) (low / 4)) (low / 128) (bit_xor (bit_xor (bit_xor s (s / 2)) (s / 4)) (s / 128)))
    ∙ sym whole)

-- ---- the turns

-- the last n bits of each quarter of x, times v
abbrev pub combed : ℕ → ℕ → ℕ → ℕ
combed n x v = quarters (sum_of_multiples n (x / 2 ^ 96) v) (sum_of_multiples n (x / 2 ^ 64) v) (sum_of_multiples n (x / 2 ^ 32) v) (sum_of_multiples n x v)

pub combed-zero : (x v : ℕ) → combed 0 x v ≡ 0
unfolding sum_of_multiples
combed-zero x v = rw (multiple-zero 32, multiple-zero 64, multiple-zero 96) refl

pub combed-all : (x v : ℕ) → combed 32 x v ≡ product x v
unfolding product
combed-all x v =
    let three : x / 2 ^ 32 / 2 ^ 32 ≡ x / 2 ^ 64 = shr-shr x 32 32 in
    let four : x / 2 ^ 64 / 2 ^ 32 ≡ x / 2 ^ 96 = shr-shr x 64 32 in
    let a = rw four at (sum_of_multiples-more 32 32 64 (x / 2 ^ 64) v refl) in
    let b = rw three at (sum_of_multiples-more 64 32 96 (x / 2 ^ 32) v refl) in
    let c = sum_of_multiples-more 96 32 128 x v refl in
    sym (rw (c, b, a) refl)

multiple-quarters : (k a b c d : ℕ) → multiple k (quarters a b c d) ≡ quarters (multiple k a) (multiple k b) (multiple k c) (multiple k d)
multiple-quarters k a b c d =
    rw (
      multiple-xor k (bit_xor (bit_xor a (multiple 32 b)) (multiple 64 c)) (multiple 96 d),
      multiple-xor k (bit_xor a (multiple 32 b)) (multiple 64 c),
      multiple-xor k a (multiple 32 b),
      multiple-turned k 32 b,
      multiple-turned k 64 c,
      multiple-turned k 96 d,
    ) refl

quarters-xor : (a b c d e f g h : ℕ) → quarters (bit_xor a e) (bit_xor b f) (bit_xor c g) (bit_xor d h) ≡ bit_xor (quarters a b c d) (quarters e f g h)
quarters-xor a b c d e f g h =
    rw (
      multiple-xor 32 b f,
      multiple-xor 64 c g,
      multiple-xor 96 d h,
      xor_swap a e (multiple 32 b) (multiple 32 f),
      xor_swap (bit_xor a (multiple 32 b)) (bit_xor e (multiple 32 f)) (multiple 64 c) (multiple 64 g),
    )
    (xor_swap (bit_xor (bit_xor a (multiple 32 b)) (multiple 64 c)) (bit_xor (bit_xor e (multiple 32 f)) (multiple 64 g)) (multiple 96 d) (multiple 96 h))

pub combed-more : (n x v : ℕ) →
    combed (4 + n) x v
    ≡ bit_xor (multiple 4 (combed n x v)) (quarters (sum_of_multiples 4 (x / 2 ^ 96 / 2 ^ n) v) (sum_of_multiples 4 (x / 2 ^ 64 / 2 ^ n) v) (sum_of_multiples 4 (x / 2 ^ 32 / 2 ^ n) v) (sum_of_multiples 4 (x / 2 ^ n) v))
combed-more n x v =
    let more = λ (q : ℕ). sum_of_multiples-more 4 n (4 + n) q v refl ∙ xor_comm (sum_of_multiples 4 (q / 2 ^ n) v) (multiple 4 (sum_of_multiples n q v)) in
    rw (more (x / 2 ^ 96), more (x / 2 ^ 64), more (x / 2 ^ 32), more x)
    (quarters-xor (multiple 4 (sum_of_multiples n (x / 2 ^ 96) v)) (multiple 4 (sum_of_multiples n (x / 2 ^ 64) v)) (multiple 4 (sum_of_multiples n (x / 2 ^ 32) v)) (multiple 4 (sum_of_multiples n x v))
    (sum_of_multiples 4 (x / 2 ^ 96 / 2 ^ n) v) (sum_of_multiples 4 (x / 2 ^ 64 / 2 ^ n) v) (sum_of_multiples 4 (x / 2 ^ 32 / 2 ^ n) v) (sum_of_multiples 4 (x / 2 ^ n) v)
    ∙ rw (multiple-quarters 4 (sum_of_multiples n (x / 2 ^ 96) v) (sum_of_multiples n (x / 2 ^ 64) v) (sum_of_multiples n (x / 2 ^ 32) v) (sum_of_multiples n x v)) refl)
