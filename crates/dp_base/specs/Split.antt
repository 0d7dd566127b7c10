-- A list of bytes as blocks of 16 bytes.
use Rattle.std.specs.Prelude.{ℕ, zero, suc, ◌/◌, List, [], ◌∷◌, length, take, drop}

-- the first n blocks of bytes
abbrev pub first_blocks : ℕ → List ℕ → List (List ℕ)
first_blocks zero bytes = []
first_blocks (suc n) bytes = take 16 bytes ∷ first_blocks n (drop 16 bytes)

-- the blocks of bytes
abbrev pub blocks : List ℕ → List (List ℕ)
blocks bytes = first_blocks (length bytes / 16) bytes
