-- The hash of blocks under a block h (SP 800-38D, 6.4), and of data with a text (7.1, steps 4 and 5).
-- Section numbers are the standard's.
use Rattle.std.specs.Prelude.{ℕ, ◌*◌, ◌-◌, ◌%◌, List, ◌++◌, length, replicate, bit_xor}
use Rattle.std.specs.Int.{w64, to_be_bytes}
use Rattle.std.specs.List.{fold}
use Rattle.dp_base.specs.Split.{blocks}
use Rattle.gcm_mode.specs.Product.{number_of, block_of, product}

-- Y i of Y i-1 and the block X i (6.4, step 3)
abbrev pub absorb : ℕ → ℕ → List ℕ → ℕ
absorb h y x = product (bit_xor y (number_of x)) h

-- Y m of the blocks X 1, …, X m, from the block Y 0 on (6.4)
abbrev pub hash_blocks : ℕ → ℕ → List (List ℕ) → ℕ
hash_blocks h y xs = fold (absorb h) y xs

-- zeros up to whole blocks (7.1, steps 4 and 5)
abbrev pub zero_filled : List ℕ → List ℕ
zero_filled bytes = bytes ++ replicate ((16 - length bytes % 16) % 16) 0

-- the lengths in bits, of 64 bits each (7.1, step 5)
abbrev pub length_block : List ℕ → List ℕ → List ℕ
length_block aad text = to_be_bytes w64 (8 * length aad) ++ to_be_bytes w64 (8 * length text)

-- S: the hash, from zeros on, of the data, the text and their lengths (7.1, step 5)
unfoldable pub ghash : List ℕ → List ℕ → List ℕ → List ℕ
ghash h aad text =
    block_of (hash_blocks (number_of h) 0 (blocks (zero_filled aad ++ zero_filled text ++ length_block aad text)))
