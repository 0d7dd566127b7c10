-- The definitions on examples, by computing, so that a wrong definition does not check. The values of
-- CBC were worked out by a few lines of Python.
use Rattle.std.proofs.Common.{◌≡◌, ℕ, List, [], ◌∷◌, ◌++◌, codes, take, drop, replicate, refl, arith}
use Rattle.cbc_mode.specs.Cbc.{ciphertext, plaintext}
use Rattle.cbc_mode.specs.Pad.{pad, IsPadded}

-- the rows of RFC 5652, 6.3, at k = 16: a byte short of a block, two bytes short, and a whole block
pub pad_one : pad (replicate 15 0xAA) ≡ replicate 15 0xAA ++ 0x01 ∷ []
pad_one = refl

pub pad_two : pad (replicate 30 0xAA) ≡ replicate 30 0xAA ++ 0x02 ∷ 0x02 ∷ []
pad_two = refl

pub pad_block : pad (replicate 16 0xAA) ≡ replicate 16 0xAA ++ replicate 16 0x10
pad_block = refl

pub pad_nothing : pad [] ≡ replicate 16 0x10
pad_nothing = refl

-- a last byte of 17, and one of 0
pub not_padded_17 : ¬ (IsPadded (replicate 32 0x11))
not_padded_17 padded = let most = padded.1 in absurd (omega arith)

pub not_padded_0 : ¬ (IsPadded (replicate 32 0x00))
not_padded_0 padded = let least = padded.0 in absurd (omega arith)

-- in place of a cipher: each byte goes one place to the front, and the first to the end
abbrev rotation : List ℕ → List ℕ
rotation block = drop 1 block ++ take 1 block

abbrev rotation_back : List ℕ → List ℕ
rotation_back block = drop 15 block ++ take 15 block

-- the bytes F0, …, FF
abbrev iv : List ℕ
iv =
    0xF0 ∷ 0xF1 ∷ 0xF2 ∷ 0xF3 ∷ 0xF4 ∷ 0xF5 ∷ 0xF6 ∷ 0xF7 ∷ 0xF8 ∷ 0xF9 ∷ 0xFA ∷ 0xFB ∷ 0xFC ∷
    0xFD ∷ 0xFE ∷ 0xFF ∷ []

-- two blocks, each after the one before it
pub cbc_of_two_blocks : ciphertext rotation iv (pad (codes "chained blocks, e")) ≡
    0x99 ∷ 0x93 ∷ 0x9A ∷ 0x9A ∷ 0x90 ∷ 0x92 ∷ 0xD7 ∷ 0x9A ∷ 0x95 ∷ 0x95 ∷ 0x98 ∷ 0x97 ∷ 0x8E ∷
    0xD2 ∷ 0xDF ∷ 0x93 ∷ 0x9C ∷ 0x95 ∷ 0x95 ∷ 0x9F ∷ 0x9D ∷ 0xD8 ∷ 0x95 ∷ 0x9A ∷ 0x9A ∷ 0x97 ∷
    0x98 ∷ 0x81 ∷ 0xDD ∷ 0xD0 ∷ 0x9C ∷ 0xFC ∷ []
cbc_of_two_blocks = refl

pub inverse_of_two_blocks : plaintext rotation_back iv (
    0x99 ∷ 0x93 ∷ 0x9A ∷ 0x9A ∷ 0x90 ∷ 0x92 ∷ 0xD7 ∷ 0x9A ∷ 0x95 ∷ 0x95 ∷ 0x98 ∷ 0x97 ∷
    0x8E ∷ 0xD2 ∷ 0xDF ∷ 0x93 ∷ 0x9C ∷ 0x95 ∷ 0x95 ∷ 0x9F ∷ 0x9D ∷ 0xD8 ∷ 0x95 ∷ 0x9A ∷
    0x9A ∷ 0x97 ∷ 0x98 ∷ 0x81 ∷ 0xDD ∷ 0xD0 ∷ 0x9C ∷ 0xFC ∷ [])
    ≡ pad (codes "chained blocks, e")
inverse_of_two_blocks = refl
