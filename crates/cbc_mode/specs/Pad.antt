-- Padding to blocks of 16 bytes (RFC 5652, 6.3) on lists of bytes.
use Rattle.std.specs.Prelude.{◌≡◌, ℕ, ◌-◌, ◌%◌, ◌≤◌, List, ◌++◌, length, drop, replicate, slice_index}

-- how many bytes are added: 1 to 16, and a whole block where the last one is full (6.3)
abbrev pub pad_len : List ℕ → ℕ
pad_len text = 16 - length text % 16

-- the text, and p bytes of value p (6.3)
abbrev pub pad : List ℕ → List ℕ
pad text = text ++ replicate (pad_len text) (pad_len text)

-- the last byte, or 0 where there is none
abbrev pub last_byte : List ℕ → ℕ
last_byte text = slice_index text (length text - 1)

-- the last byte, p, is 1 to 16, and the last p bytes are p (6.3)
abbrev pub IsPadded : List ℕ → Type 0
IsPadded text =
    let p = last_byte text in (1 ≤ p) × (p ≤ 16) × (drop (length text - p) text ≡ replicate p p)
