-- The cipher and its inverse (FIPS 197, 5.1 and 5.3) on lists. A block and a state are lists of 16 bytes,
-- column after column (3.4), and section numbers are the standard's.
use Rattle.std.specs.Prelude.{ℕ, zero, suc, ◌+◌, ◌-◌, ◌*◌, ◌/◌, ◌%◌, List, ◌++◌, map, bit_xor, slice_index}
use Rattle.std.specs.Int.{w32, to_be_bytes}
use Rattle.std.specs.List.{range_with_len}
use Rattle.dp_base.specs.Blocks.{xor_bytes}
use Rattle.aes_block.specs.Field.{times, sub_byte, inv_sub_byte}
use Rattle.aes_block.specs.KeyExpansion.{key_expansion, round_count}

-- the byte in row r of column c (3.4)
abbrev pub state_byte : List ℕ → ℕ → ℕ → ℕ
state_byte s r c = slice_index s (r + 4 * c)

-- the state with f r c in row r of column c
abbrev pub state_of : (ℕ → ℕ → ℕ) → List ℕ
state_of f = map (λ i. f (i % 4) (i / 4)) (range_with_len 0 16)

-- SubBytes (5.1.1)
unfoldable pub sub_bytes : List ℕ → List ℕ
sub_bytes s = map sub_byte s

-- ShiftRows: row r goes r places to the left (5.1.2)
unfoldable pub shift_rows : List ℕ → List ℕ
shift_rows s = state_of (λ r c. state_byte s r ((c + r) % 4))

-- byte r of the product of column c by the fixed matrix of the word a0, a1, a2, a3, which is its first
-- column; each further one is the column before it, turned down by one place (4.3)
abbrev pub product_at : ℕ → ℕ → ℕ → ℕ → List ℕ → ℕ → ℕ → ℕ
product_at a0 a1 a2 a3 s r c =
    bit_xor (bit_xor (times a0 (state_byte s r c)) (times a3 (state_byte s ((r + 1) % 4) c)))
    (bit_xor (times a2 (state_byte s ((r + 2) % 4) c)) (times a1 (state_byte s ((r + 3) % 4) c)))

-- MixColumns: each column by the fixed matrix of the word 2, 1, 1, 3 (5.1.3)
unfoldable pub mix_columns : List ℕ → List ℕ
mix_columns s = state_of (product_at 2 1 1 3 s)

-- the bytes of the words 4 r to 4 r + 3 of a schedule
abbrev pub round_key : List ℕ → ℕ → List ℕ
round_key w r = to_be_bytes w32 (slice_index w (4 * r)) ++ to_be_bytes w32 (slice_index w (4 * r + 1))
    ++ to_be_bytes w32 (slice_index w (4 * r + 2)) ++ to_be_bytes w32 (slice_index w (4 * r + 3))

-- AddRoundKey, with the schedule and the number of the round; of a longer state it keeps 16 bytes (5.1.4)
unfoldable pub add_round_key : List ℕ → List ℕ → ℕ → List ℕ
add_round_key s w r = xor_bytes s (round_key w r)

-- the state of a block after round r (5.1)
unfoldable pub rounds : List ℕ → List ℕ → ℕ → List ℕ
rounds block w zero = add_round_key block w 0
rounds block w (suc r) = add_round_key (mix_columns (shift_rows (sub_bytes (rounds block w r)))) w (suc r)

-- Cipher, whose last round has no MixColumns (5.1)
unfoldable pub cipher : List ℕ → ℕ → List ℕ → List ℕ
cipher block nr w = add_round_key (shift_rows (sub_bytes (rounds block w (nr - 1)))) w nr

-- InvShiftRows: row r goes r places to the right (5.3.1)
unfoldable pub inv_shift_rows : List ℕ → List ℕ
inv_shift_rows s = state_of (λ r c. state_byte s r ((c + 4 - r) % 4))

-- InvSubBytes (5.3.2)
unfoldable pub inv_sub_bytes : List ℕ → List ℕ
inv_sub_bytes s = map inv_sub_byte s

-- InvMixColumns: each column by the fixed matrix of the word 14, 9, 13, 11 (5.3.3)
unfoldable pub inv_mix_columns : List ℕ → List ℕ
inv_mix_columns s = state_of (product_at 14 9 13 11 s)

-- a state after the inverse rounds r, …, 1 (5.3)
unfoldable pub inv_rounds : List ℕ → List ℕ → ℕ → List ℕ
inv_rounds s w zero = s
inv_rounds s w (suc r) =
    inv_rounds (inv_mix_columns (add_round_key (inv_sub_bytes (inv_shift_rows s)) w (suc r))) w r

-- InvCipher, whose last round has no InvMixColumns (5.3)
unfoldable pub inv_cipher : List ℕ → ℕ → List ℕ → List ℕ
inv_cipher block nr w =
    add_round_key (inv_sub_bytes (inv_shift_rows (inv_rounds (add_round_key block w nr) w (nr - 1)))) w 0

-- what a key makes of a block (5.1)
unfoldable pub aes_cipher : List ℕ → List ℕ → List ℕ
aes_cipher key block = cipher block (round_count key) (key_expansion key)

-- what a key makes of a block on the way back (5.3)
unfoldable pub aes_decipher : List ℕ → List ℕ → List ℕ
aes_decipher key block = inv_cipher block (round_count key) (key_expansion key)
