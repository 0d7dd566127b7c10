-- What an `Aes` keeps, and what clauses see of it: the key, as a list of 16, 24 or 32 bytes.
use Rattle.std.specs.Prelude.{◌≡◌, ℕ, ◌+◌, ◌-◌, ◌*◌, List, length, take}
use Rattle.std.specs.Int.{w32, to_be_bytes}
use Rattle.std.specs.List.{flat_map}
use Rattle.aes_block.specs.Equivalent.{IsInverseSchedule}
use Rattle.aes_block.specs.KeyExpansion.{IsKeyLength, key_expansion, round_count}

-- the key, whose words are the first Nr - 6 of its schedule (FIPS 197, 5.2)
abbrev pub key_of : List ℕ → ℕ → List ℕ
key_of words rounds = flat_map (to_be_bytes w32) (take (rounds - 6) words)

-- the words begin with the schedule of their key, the others with its inverse schedule, and the
-- rounds are the key's
pub record IsExpanded (words inverse : List ℕ) (rounds : ℕ) : Type 0 where
  pub sized : IsKeyLength (length (key_of words rounds))
  pub counted : rounds ≡ round_count (key_of words rounds)
  pub scheduled : take (4 * (rounds + 1)) words ≡ key_expansion (key_of words rounds)
  pub inverted : IsInverseSchedule words inverse rounds
