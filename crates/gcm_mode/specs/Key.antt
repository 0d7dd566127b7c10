-- What the key of the hash keeps, a multiple for each digit of four bits, and what the 256 bits of a
-- sum stand for (SP 800-38D, 6.3).
use Rattle.std.specs.Prelude.{◌≡◌, ℕ, zero, suc, List, [], ◌∷◌, ◌++◌, bit_xor}
use Rattle.gcm_mode.specs.Product.{next_multiple, sum_of_multiples}

-- the sums of multiples of h for the first n digits, from 0 on
abbrev pub digit_multiples : ℕ → ℕ → List ℕ
digit_multiples zero h = []
digit_multiples (suc n) h = digit_multiples n h ++ sum_of_multiples 4 n h ∷ []

-- the table has the multiple of h for each digit
abbrev pub IsTable : List ℕ → ℕ → Type 0
IsTable table h = table ≡ digit_multiples 16 h

-- V n of V 0 (6.3, step 3)
unfoldable pub multiple : ℕ → ℕ → ℕ
multiple zero v = v
multiple (suc n) v = multiple n (next_multiple v)

-- the element of 256 bits, of which the low half stands for its multiple 128
abbrev pub element : ℕ → ℕ → ℕ
element high low = bit_xor high (multiple 128 low)
