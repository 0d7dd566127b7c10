-- The key expansion (FIPS 197, 5.2). A key is a list of bytes, and a word is a number below 2 ^ 32, whose
-- high byte is the standard's first.
use Rattle.std.specs.Prelude.{◌≡◌, ◌⊎◌, ℕ, zero, suc, ◌+◌, ◌-◌, ◌*◌, ◌/◌, ◌%◌, ◌^◌, ◌==◌, ◌&&◌, if◌then◌else◌, List, [], ◌∷◌, ◌++◌, length, map, bit_xor, nat_lt, slice_index}
use Rattle.std.specs.Int.{w32, rotate_left, from_be_bytes, to_be_bytes}
use Rattle.aes_block.specs.Field.{sub_byte, xtime}

-- 128, 192 and 256 bits, as bytes (5)
abbrev pub IsKeyLength : ℕ → Type 0
IsKeyLength n = (n ≡ 16) ⊎ ((n ≡ 24) ⊎ (n ≡ 32))

-- Nk, the words of a key, which leave out a last part of a word (5)
abbrev pub key_words : List ℕ → ℕ
key_words key = length key / 4

-- Nr, the rounds for a key (5)
abbrev pub round_count : List ℕ → ℕ
round_count key = key_words key + 6

-- RotWord (5.2)
unfoldable pub rot_word : ℕ → ℕ
rot_word word = rotate_left w32 word 8

-- SubWord (5.2)
unfoldable pub sub_word : ℕ → ℕ
sub_word word = from_be_bytes w32 (map sub_byte (to_be_bytes w32 word))

-- x ^ n as a byte (5.2)
unfoldable pub power_of_x : ℕ → ℕ
power_of_x zero = 1
power_of_x (suc n) = xtime (power_of_x n)

-- Rcon j, whose first byte is x ^ (j - 1) and whose others are 0 (5.2)
unfoldable pub rcon : ℕ → ℕ
rcon j = power_of_x (j - 1) * 2 ^ 24

-- what word i adds to the word Nk before it, from the word before it (5.2)
unfoldable pub added_word : ℕ → ℕ → ℕ → ℕ
added_word nk i before =
    if i % nk == 0 then bit_xor (sub_word (rot_word before)) (rcon (i / nk))
    else if nat_lt 6 nk && i % nk == 4 then sub_word before
    else before

-- word i of the schedule of a key, from the words before it (5.2)
unfoldable pub next_word : List ℕ → List ℕ → ℕ → ℕ
next_word key words i =
    let nk = key_words key in
    if nat_lt i nk then from_be_bytes w32 (slice_index key (4 * i) ∷ slice_index key (4 * i + 1)
    ∷ slice_index key (4 * i + 2) ∷ slice_index key (4 * i + 3) ∷ [])
    else bit_xor (slice_index words (i - nk)) (added_word nk i (slice_index words (i - 1)))

-- the first n words of the schedule of a key (5.2)
unfoldable pub first_words : List ℕ → ℕ → List ℕ
first_words key zero = []
first_words key (suc n) = let words = first_words key n in words ++ next_word key words n ∷ []

-- KeyExpansion: four words for each round, and four before the first (5.2)
unfoldable pub key_expansion : List ℕ → List ℕ
key_expansion key = first_words key (4 * (round_count key + 1))
