-- The code's form of a state, and the words that its tables list.
use Rattle.std.specs.Prelude.{ℕ, List, [], ◌∷◌, map}
use Rattle.std.specs.Int.{w32, from_be_bytes}
use Rattle.aes_block.specs.Field.{times}
use Rattle.aes_block.specs.Cipher.{product_at, round_key}

-- the bytes of a state that is four words, one for each column, whose high byte is in the first row
abbrev pub state_bytes : List ℕ → List ℕ
state_bytes columns = round_key columns 0

-- the product of a column by the fixed matrix of the word a0, a1, a2, a3 (FIPS 197, 4.3)
abbrev pub column_product : ℕ → ℕ → ℕ → ℕ → List ℕ → List ℕ
column_product a0 a1 a2 a3 column = map (λ r. product_at a0 a1 a2 a3 column r 0) (0 ∷ 1 ∷ 2 ∷ 3 ∷ [])

-- the word of the products of four bytes with a byte
abbrev pub products_word : ℕ → ℕ → ℕ → ℕ → ℕ → ℕ
products_word a b c d x = from_be_bytes w32 (times a x ∷ times b x ∷ times c x ∷ times d x ∷ [])
