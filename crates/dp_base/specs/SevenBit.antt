-- Numbers below 2 ^ 32 in groups of 7 bits, the lowest group first, a byte for each group: the high
-- bit (128) is set on every byte but the last (docs/FORMATS.md, "Numbers in groups of 7 bits").
use Rattle.std.specs.Prelude.{ℕ, ◌+◌, ◌-◌, ◌*◌, ◌/◌, ◌%◌, ◌<◌, ◌≤◌, ◌==◌, ◌&&◌, ◌||◌, zero, suc, nat_lt, if◌then◌else◌, Bool, List, [], ◌∷◌, length, Result, Ok, Err}
use Rattle.std.specs.List.{AllByRecursion}
use Rattle.dp_base.specs.declared.seven_bit.SevenBit.{SevenBit}
use Rattle.dp_base.specs.declared.seven_bit.SevenBit.TheVariants.{Cut, Overlong}

-- a number, of whose groups at most k stand before the last
abbrev pub groups : ℕ → ℕ → List ℕ
groups zero n = n ∷ []
groups (suc k) n = if nat_lt n 128 then n ∷ [] else (128 + n % 128) ∷ groups k (n / 128)

-- the bytes of a number; one below 2 ^ 32 has at most five
unfoldable pub seven : ℕ → List ℕ
seven n = groups 4 n

-- a last byte that is refused where at most k groups may stand from it on: the number is 2 ^ 32 or
-- more, or without the byte it is the same number
abbrev pub is_overlong : ℕ → ℕ → Bool
is_overlong k b = (k == 1 && nat_lt 15 b) || (nat_lt k 5 && b == 0)

-- a number behind its lowest group
abbrev pub behind : ℕ → Result (ℕ × List ℕ) SevenBit → Result (ℕ × List ℕ) SevenBit
behind b (Ok r) = Ok (b - 128 + 128 * r.0, r.1)
behind b (Err why) = Err why

-- the number at the front, of at most k groups, and the bytes after it
abbrev pub groups_at : ℕ → List ℕ → Result (ℕ × List ℕ) SevenBit
groups_at zero bytes = Err Overlong
groups_at (suc k) [] = Err Cut
groups_at (suc k) (b ∷ rest) =
    if nat_lt b 128 then (if is_overlong (suc k) b then Err Overlong else Ok (b, rest)) else behind b (groups_at k rest)

-- the number at the front of the bytes, of at most five groups, and the bytes after it
unfoldable pub seven_at : List ℕ → Result (ℕ × List ℕ) SevenBit
seven_at bytes = groups_at 5 bytes

-- each of these bytes says that another follows, and they are fewer than a number may have
abbrev pub IsCut : List ℕ → Type 0
IsCut bytes = (length bytes < 5) × AllByRecursion (λ b. 128 ≤ b) bytes
