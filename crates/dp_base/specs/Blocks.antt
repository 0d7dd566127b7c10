-- Bytes and blocks as lists of numbers.
use Rattle.std.specs.Prelude.{◌≡◌, ℕ, ◌<◌, List, [], ◌∷◌, length, bit_xor, slice_index}

-- every number is a byte
abbrev pub AreBytes : List ℕ → Type 0
AreBytes bytes = (i : ℕ) → slice_index bytes i < 256

-- sixteen bytes
abbrev pub IsBlock : List ℕ → Type 0
IsBlock block = (length block ≡ 16) × AreBytes block

-- the bytes of two lists, one by one (the ⊕ of FIPS 197 and SP 800-38A)
abbrev pub xor_bytes : List ℕ → List ℕ → List ℕ
xor_bytes (x ∷ xs) (y ∷ ys) = bit_xor x y ∷ xor_bytes xs ys
xor_bytes xs ys = []
