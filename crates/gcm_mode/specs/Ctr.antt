-- Counter mode under a cipher f and a nonce of 96 bits (SP 800-38D, 6.2 and 6.5). Section numbers are
-- the standard's.
use Rattle.std.specs.Prelude.{ℕ, zero, suc, ◌+◌, List, [], ◌++◌, length}
use Rattle.std.specs.Int.{w32, to_be_bytes, div_ceil}
use Rattle.dp_base.specs.Blocks.{xor_bytes}

-- the counter block of a number: the nonce, and the number in 32 bits (6.2; 7.1, step 2)
abbrev pub counter_block : List ℕ → ℕ → List ℕ
counter_block nonce number = nonce ++ to_be_bytes w32 number

-- what the cipher makes of n counter blocks, from this number on (6.5, steps 5 and 6)
abbrev pub key_stream : (List ℕ → List ℕ) → List ℕ → ℕ → ℕ → List ℕ
key_stream f nonce number zero = []
key_stream f nonce number (suc n) = f (counter_block nonce number) ++ key_stream f nonce (number + 1) n

-- the text xor the key stream from this number on, of which the end is left over (6.5)
abbrev pub gctr : (List ℕ → List ℕ) → List ℕ → ℕ → List ℕ → List ℕ
gctr f nonce number text = xor_bytes text (key_stream f nonce number (div_ceil (length text) 16))

-- the text enciphered, and an enciphered one deciphered: from the counter 2 on (7.1, step 3)
unfoldable pub ctr : (List ℕ → List ℕ) → List ℕ → List ℕ → List ℕ
ctr f nonce text = gctr f nonce 2 text
