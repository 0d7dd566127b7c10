-- What a turn of a product keeps: the halves of the first factor, as far as they are left, and a sum
-- that is worth the digits before.
use Rattle.std.proofs.Common.{◌≡◌, ℕ, zero, suc, ◌+◌, ◌-◌, ◌*◌, ◌/◌, ◌%◌, ◌^◌, ◌<◌, ◌≤◌, List, [], ◌∷◌, length, slice_index, bit_xor, refl, sym, ap, ◌∙◌, arith, inl, inr, one-mul, zero-mul, shr-shr}
use Rattle.std.proofs.lemmas.List.{get_or_append_left, get_or_push, length_push}
use Rattle.std.proofs.lemmas.Bool.{cases_lt}
use Rattle.std.proofs.lemmas.Nat.{field_of, mod-pow-add}
use Rattle.std.specs.Int.Bits.{xor_zero_r}
use Rattle.gcm_mode.specs.Product.{sum_of_multiples}
use Rattle.gcm_mode.specs.Key.{digit_multiples, IsTable, element}
use Rattle.gcm_mode.proofs.Multiples.{sum_of_multiples-digit}
use Rattle.gcm_mode.proofs.Combing.{quarters_high, quarters_low, element-zero, element-turn, clear-less, clear-turn, combed, combed-zero, combed-more}

-- ---- the table

length-digit_multiples : (n h : ℕ) → length (digit_multiples n h) ≡ n
length-digit_multiples zero h = refl
length-digit_multiples (suc n) h = omega (arith, length_push (digit_multiples n h) (sum_of_multiples 4 n h), length-digit_multiples n h)

slice_index-digit_multiples : (n h d : ℕ) → d < n → slice_index (digit_multiples n h) d ≡ sum_of_multiples 4 d h
slice_index-digit_multiples zero h d lt = absurd (omega arith)
slice_index-digit_multiples (suc n) h d lt =
    let len : length (digit_multiples n h) ≡ n = length-digit_multiples n h in
    elim (cases_lt d n) [
      | inl below ↦ get_or_append_left (digit_multiples n h) (sum_of_multiples 4 n h ∷ []) 0 d (omega arith) ∙ slice_index-digit_multiples n h d below
      | inr above ↦
          let last : d ≡ n = omega arith in
          rw last (get_or_push (digit_multiples n h) (sum_of_multiples 4 n h) 0 n len)
    ]

-- the digit of the leftmost bit alone stands for h
pub IsTable-key : (table : List ℕ) (h : ℕ) → IsTable table h → slice_index table 8 ≡ h
unfolding sum_of_multiples
IsTable-key table h is =
    ap (λ (t : List ℕ). slice_index t 8) is ∙ simp (one-mul, zero-mul, xor_zero_r)

-- the entry of a number's last digit
entry : (table : List ℕ) (h y : ℕ) → IsTable table h → slice_index table (y % 16) ≡ sum_of_multiples 4 y h
entry table h y is =
    ap (λ (t : List ℕ). slice_index t (y % 16)) is
    ∙ slice_index-digit_multiples 16 h (y % 16) (omega arith) ∙ sum_of_multiples-digit y h

-- ---- the digits

-- a digit is the same where the number is cut behind it
cut_digit : (x n k : ℕ) → n + 4 ≤ k → x % 2 ^ k / 2 ^ n % 16 ≡ x / 2 ^ n % 16
cut_digit x n k le =
    let more : k ≡ k - n - 4 + 4 + n = omega arith in
    let field : x % 2 ^ k / 2 ^ n ≡ x / 2 ^ n % 2 ^ (k - n - 4 + 4) =
    ap (λ (i : ℕ). x % 2 ^ i / 2 ^ n) more ∙ field_of x (k - n - 4 + 4) n in
    let split = mod-pow-add (x / 2 ^ n) (k - n - 4) 4 in
    omega arith

entry_at : (table : List ℕ) (h x y : ℕ) → IsTable table h → y % 16 ≡ x % 16 → slice_index table (y % 16) ≡ sum_of_multiples 4 x h
entry_at table h x y is same = ap (slice_index table) same ∙ entry table h x is

turned : (x j k : ℕ) → x / 2 ^ j / 2 ^ k ≡ x / 2 ^ k / 2 ^ j
turned x j k =
    let sum : j + k ≡ k + j = omega arith in
    shr-shr x j k ∙ ap (λ (i : ℕ). x / 2 ^ i) sum ∙ sym (shr-shr x k j)

-- ---- the turns

-- after k turns with the factors x and h
pub record IsCombed (x h y1 y0 high low k : ℕ) : Type 0 where
  pub upper : y1 ≡ x / 2 ^ 64 / 2 ^ (4 * k)
  pub lower : y0 ≡ x % 2 ^ 64 / 2 ^ (4 * k)
  pub clear : low % 2 ^ (36 - 4 * k) ≡ 0
  pub summed : element high low ≡ combed (4 * k) x h

pub combed-none : (x h : ℕ) → IsCombed x h (x / 2 ^ 64) (x % 2 ^ 64) 0 0 0
combed-none x h = record {
  upper = omega arith;
  lower = omega arith;
  clear = refl;
  summed = element-zero ∙ sym (combed-zero x h);
}

-- the next digit of each quarter
pub combed-turn : (table : List ℕ) (x h y1 y0 high low k a b c d : ℕ) → IsTable table h → k < 8 →
    IsCombed x h y1 y0 high low k →
    a ≡ slice_index table (y1 / 2 ^ 32 % 16) → b ≡ slice_index table (y1 % 16) →
    c ≡ slice_index table (y0 / 2 ^ 32 % 16) → d ≡ slice_index table (y0 % 16) →
    IsCombed x h (y1 / 16) (y0 / 16) (bit_xor (high / 16) (quarters_high a b c d))
    (bit_xor (bit_xor (low / 16) (high % 16 * 2 ^ 124)) (quarters_low b c d)) (k + 1)
combed-turn table x h y1 y0 high low k a b c d is lt so_far a_is b_is c_is d_is =
    let n = 4 * k in
    let up : 4 * (k + 1) ≡ 4 + n = omega arith in
    let last : 4 * (k + 1) ≡ n + 4 = omega arith in
    let room : 36 - n ≡ 36 - 4 * (k + 1) + 4 = omega arith in
    let upper = so_far.upper in
    let lower = so_far.lower in
    let first : y1 / 2 ^ 32 ≡ x / 2 ^ 96 / 2 ^ n =
    ap (λ (y : ℕ). y / 2 ^ 32) upper ∙ turned (x / 2 ^ 64) n 32 ∙ ap (λ (y : ℕ). y / 2 ^ n) (shr-shr x 64 32) in
    let first_digit : a ≡ sum_of_multiples 4 (x / 2 ^ 96 / 2 ^ n) h =
    a_is ∙ entry_at table h (x / 2 ^ 96 / 2 ^ n) (y1 / 2 ^ 32) is (ap (λ (y : ℕ). y % 16) first) in
    let second_digit : b ≡ sum_of_multiples 4 (x / 2 ^ 64 / 2 ^ n) h =
    b_is ∙ entry_at table h (x / 2 ^ 64 / 2 ^ n) y1 is (ap (λ (y : ℕ). y % 16) upper) in
    let third : y0 / 2 ^ 32 % 16 ≡ x / 2 ^ 32 / 2 ^ n % 16 =
    ap (λ (y : ℕ). y / 2 ^ 32 % 16) lower ∙ ap (λ (y : ℕ). y % 16) (shr-shr (x % 2 ^ 64) n 32)
    ∙ cut_digit x (n + 32) 64 (omega arith) ∙ ap (λ (y : ℕ). y % 16) (sym (shr-shr x n 32) ∙ turned x n 32) in
    let third_digit : c ≡ sum_of_multiples 4 (x / 2 ^ 32 / 2 ^ n) h =
    c_is ∙ entry_at table h (x / 2 ^ 32 / 2 ^ n) (y0 / 2 ^ 32) is third in
    let fourth : y0 % 16 ≡ x / 2 ^ n % 16 = ap (λ (y : ℕ). y % 16) lower ∙ cut_digit x n 64 (omega arith) in
    let fourth_digit : d ≡ sum_of_multiples 4 (x / 2 ^ n) h = d_is ∙ entry_at table h (x / 2 ^ n) y0 is fourth in
    let clear : low % 2 ^ (36 - 4 * (k + 1) + 4) ≡ 0 = rw room at so_far.clear in
    let more = combed-more n x h in
    let turn = element-turn high low a b c d (clear-less low (36 - 4 * (k + 1) + 4) 4 (omega arith) clear) in
    record {
      upper = ap (λ (y : ℕ). y / 16) upper ∙ shr-shr (x / 2 ^ 64) n 4 ∙ ap (λ (i : ℕ). x / 2 ^ 64 / 2 ^ i) (sym last);
      lower = ap (λ (y : ℕ). y / 16) lower ∙ shr-shr (x % 2 ^ 64) n 4 ∙ ap (λ (i : ℕ). x % 2 ^ 64 / 2 ^ i) (sym last);
      clear = clear-turn high low b c d (36 - 4 * (k + 1)) (omega arith) clear;
      summed = turn ∙ rw (up, more, so_far.summed, first_digit, second_digit, third_digit, fourth_digit) refl;
    }
