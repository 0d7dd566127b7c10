-- Plaintexts with an expiry in front, in ticks (docs/FORMATS.md, "Timed plaintexts").
use Rattle.std.specs.Prelude.{ℕ, ◌≤◌, nat_lt, nat_le, ◌&&◌, if◌then◌else◌, List, ◌++◌, length, take, drop, Result, Ok, Err}
use Rattle.std.specs.Int.{w64, to_be_bytes, from_be_bytes}
use Rattle.dp_base.specs.declared.ticks.TheConstants.{MAX_TICKS}
use Rattle.timed_payload.specs.declared.expiry.TimedRefused.{TimedRefused}
use Rattle.timed_payload.specs.declared.expiry.TimedRefused.TheVariants.{Invalid, Expired}

-- the expiry in eight bytes, high byte first, and the plaintext
abbrev pub timed : ℕ → List ℕ → List ℕ
timed ticks plain = to_be_bytes w64 ticks ++ plain

-- the number of the first eight bytes
abbrev pub expiry_of : List ℕ → ℕ
expiry_of bytes = from_be_bytes w64 (take 8 bytes)

-- an expiry stands in front: eight bytes, and of no later moment than the last
abbrev pub HasExpiry : List ℕ → Type 0
HasExpiry bytes = (8 ≤ length bytes) × (expiry_of bytes ≤ MAX_TICKS)

-- the expiry and the plaintext at a moment; the plaintext is used up to the expiry itself
unfoldable pub split : List ℕ → ℕ → Result (ℕ × List ℕ) TimedRefused
split bytes now =
    if nat_le 8 (length bytes) && nat_le (expiry_of bytes) MAX_TICKS
    then (if nat_lt (expiry_of bytes) now then Err (Expired (expiry_of bytes)) else Ok (expiry_of bytes, drop 8 bytes))
    else Err Invalid
