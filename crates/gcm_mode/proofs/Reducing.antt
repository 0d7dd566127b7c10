-- A number of 256 bits, high and low, as an element: its low half stands for its 128th multiple, and
-- x^128 is x^7 + x^2 + x + 1.
use Rattle.std.proofs.Common.{◌≡◌, ℕ, zero, suc, ◌+◌, ◌-◌, ◌*◌, ◌^◌, ◌<◌, ◌≤◌, inl, inr, bit_xor, refl, sym, ap, ◌∙◌, arith, one-mul, pow-suc, pow_pos, lit≤}
use Rattle.std.proofs.lemmas.Bool.{cases_lt}
use Rattle.std.specs.Int.Bits.{xor_shifted}
use Rattle.std.proofs.lemmas.Nat.{pow-add}
use Rattle.gcm_mode.specs.Key.{multiple}
use Rattle.gcm_mode.specs.Product.{next_multiple}
use Rattle.gcm_mode.proofs.Multiples.{xor_swap, multiple-xor, multiple-add, multiple-whole}

-- ---- x^128

-- v times 1 + x + x^2 + x^7
abbrev pub fold_down : ℕ → ℕ
fold_down v = bit_xor (bit_xor (bit_xor v (multiple 1 v)) (multiple 2 v)) (multiple 7 v)

fold_down-xor : (v w : ℕ) → fold_down (bit_xor v w) ≡ bit_xor (fold_down v) (fold_down w)
fold_down-xor v w =
    rw (
      multiple-xor 1 v w,
      multiple-xor 2 v w,
      multiple-xor 7 v w,
      xor_swap v w (multiple 1 v) (multiple 1 w),
      xor_swap (bit_xor v (multiple 1 v)) (bit_xor w (multiple 1 w)) (multiple 2 v) (multiple 2 w),
    )
    (xor_swap (bit_xor (bit_xor v (multiple 1 v)) (multiple 2 v)) (bit_xor (bit_xor w (multiple 1 w)) (multiple 2 w)) (multiple 7 v) (multiple 7 w))

pub multiple-turned : (j k v : ℕ) → multiple j (multiple k v) ≡ multiple k (multiple j v)
multiple-turned j k v =
    let turned : k + j ≡ j + k = omega arith in
    sym (multiple-add j k (k + j) v refl) ∙ multiple-add k j (k + j) v turned

fold_down-multiple : (k v : ℕ) → fold_down (multiple k v) ≡ multiple k (fold_down v)
fold_down-multiple k v =
    rw (multiple-turned 1 k v, multiple-turned 2 k v, multiple-turned 7 k v)
    (sym (multiple-xor k (bit_xor (bit_xor v (multiple 1 v)) (multiple 2 v)) (multiple 7 v)
    ∙ ap (λ (n : ℕ). bit_xor n (multiple k (multiple 7 v)))
    (multiple-xor k (bit_xor v (multiple 1 v)) (multiple 2 v)
    ∙ ap (λ (n : ℕ). bit_xor n (multiple k (multiple 2 v))) (multiple-xor k v (multiple 1 v)))))

-- the element 1 is the number 2 ^ 127
one_128 : multiple 128 (2 ^ 127) ≡ fold_down (2 ^ 127)
unfolding next_multiple multiple
one_128 = refl

-- the other bits are multiples of it
bit_128 : (n k : ℕ) → n + k ≡ 127 → multiple 128 (2 ^ n) ≡ fold_down (2 ^ n)
bit_128 n k e =
    let top : 2 ^ 127 ≡ 2 ^ n * 2 ^ k = ap (λ (m : ℕ). 2 ^ m) (sym e) ∙ pow-add 2 n k in
    let bit : multiple k (2 ^ 127) ≡ 2 ^ n = ap (multiple k) top ∙ multiple-whole k (2 ^ n) in
    rw (← bit) (multiple-turned 128 k (2 ^ 127) ∙ ap (multiple k) one_128 ∙ sym (fold_down-multiple k (2 ^ 127)))

zero_128 : multiple 128 0 ≡ fold_down 0
unfolding next_multiple multiple
zero_128 = refl

below_128 : (n v : ℕ) → n ≤ 128 → v < 2 ^ n → multiple 128 v ≡ fold_down v
below_128 zero v le lt = let none : v ≡ 0 = omega arith in rw none zero_128
below_128 (suc n) v le lt =
    let pos = pow_pos n in
    let twice : 2 ^ suc n ≡ 2 ^ n * 2 = pow-suc 2 n in
    elim (cases_lt v (2 ^ n)) [
      | inl low ↦ below_128 n v (omega arith) low
      | inr high ↦
          let rest : v - 2 ^ n < 2 ^ n = omega arith in
          let split : v ≡ bit_xor (2 ^ n) (v - 2 ^ n) =
          sym (ap (λ (m : ℕ). bit_xor m (v - 2 ^ n)) (sym (one-mul (2 ^ n))) ∙ xor_shifted 1 n (v - 2 ^ n) rest ∙ omega arith) in
          let bit = bit_128 n (127 - n) (omega arith) in
          let more = below_128 n (v - 2 ^ n) (omega arith) rest in
          ap (multiple 128) split ∙ multiple-xor 128 (2 ^ n) (v - 2 ^ n) ∙ rw (bit, more) (sym (fold_down-xor (2 ^ n) (v - 2 ^ n))) ∙ ap fold_down (sym split)
    ]

-- x^128 = x^7 + x^2 + x + 1
pub multiple-128 : (v : ℕ) → v < 2 ^ 128 → multiple 128 v ≡ fold_down v
multiple-128 v lt = below_128 128 v (lit≤ tt) lt
