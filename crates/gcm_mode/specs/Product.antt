-- Blocks as elements of GF(2^128) (SP 800-38D, 6.3). A block is the number of its 16 bytes, high byte
-- first, so that its leftmost bit is the one worth 2 ^ 127; the sum of two blocks is their bit_xor;
-- and section numbers are the standard's.
use Rattle.std.specs.Prelude.{ℕ, zero, suc, ◌*◌, ◌/◌, ◌%◌, ◌^◌, List, bit_xor}
use Rattle.std.specs.Int.{w128, to_be_bytes, from_be_bytes}

-- the number of a block, and the block of a number
unfoldable pub number_of : List ℕ → ℕ
number_of block = from_be_bytes w128 block

unfoldable pub block_of : ℕ → List ℕ
block_of number = to_be_bytes w128 number

-- R: the bits 11100001 and 120 zeros (6.3)
abbrev pub reduction : ℕ
reduction = 0xE1 * 2 ^ 120

-- V i+1 of V i: a place to the right, and R is added where the last bit was 1 (6.3, step 3)
unfoldable pub next_multiple : ℕ → ℕ
next_multiple v = bit_xor (v / 2) (v % 2 * reduction)

-- the sum of v, the next multiple of it and so on, n in all, each times its bit among the last n bits
-- of x, from the left (6.3, step 3)
unfoldable pub sum_of_multiples : ℕ → ℕ → ℕ → ℕ
sum_of_multiples zero x v = 0
sum_of_multiples (suc n) x v = bit_xor (x / 2 ^ n % 2 * v) (sum_of_multiples n x (next_multiple v))

-- X • Y (6.3)
unfoldable pub product : ℕ → ℕ → ℕ
product x y = sum_of_multiples 128 x y
