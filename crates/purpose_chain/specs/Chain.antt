-- Chains of purposes, from the general one to the special one, and what is authenticated for one
-- (docs/FORMATS.md, "Authenticated data"). A purpose is the list of its bytes.
use Rattle.std.specs.Prelude.{ℕ, ◌≤◌, List, [], ◌∷◌, ◌++◌, length, sum_by}
use Rattle.std.specs.List.{flat_map}
use Rattle.std.specs.Int.{w32, to_be_bytes}
use Rattle.dp_base.specs.Guid.{guid}
use Rattle.dp_base.specs.SevenBit.{seven}
use Rattle.purpose_chain.specs.declared.chain.TheConstants.{MAX_PURPOSES, MAX_CHAIN}

-- the bytes of all purposes together
abbrev pub bytes_of : List (List ℕ) → ℕ
bytes_of chain = sum_by length chain

-- at least one purpose, and within both limits
pub record IsChain (chain : List (List ℕ)) : Type 0 where
  pub some : 1 ≤ length chain
  pub few : length chain ≤ MAX_PURPOSES
  pub short : bytes_of chain ≤ MAX_CHAIN

-- what a payload begins with
abbrev pub first_bytes : List ℕ
first_bytes = 0x09 ∷ 0xF0 ∷ 0xC9 ∷ 0xF0 ∷ []

-- the length of a purpose in groups of 7 bits, and its bytes
abbrev pub purpose_field : List ℕ → List ℕ
purpose_field purpose = seven (length purpose) ++ purpose

-- the data that is authenticated for the id of a key and a chain
unfoldable pub aad : ℕ → List (List ℕ) → List ℕ
aad id chain =
    first_bytes ++ guid id ++ to_be_bytes w32 (length chain) ++ flat_map purpose_field chain
