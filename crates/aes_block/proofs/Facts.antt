-- The definitions on the standard's own examples, by computing, so that a wrong step of theirs does not
-- check (FIPS 197, 5.1.1, and appendices A and C as the edition of 2001 prints them).
use Rattle.std.proofs.Common.{◌≡◌, ℕ, List, [], ◌∷◌, slice_index, refl}
use Rattle.aes_block.specs.Field.{xtime, times_bits, times, even_power, inverse, affine, sub_byte, inv_affine, inv_sub_byte}
use Rattle.aes_block.specs.KeyExpansion.{rot_word, sub_word, power_of_x, rcon, added_word, next_word, first_words, key_expansion}
use Rattle.aes_block.specs.Cipher.{sub_bytes, shift_rows, mix_columns, add_round_key, rounds, cipher, inv_shift_rows, inv_sub_bytes, inv_mix_columns, inv_rounds, inv_cipher, aes_cipher, aes_decipher}
use Rattle.std.specs.List.{range_with_len}

pub sub_byte-53 : sub_byte 0x53 ≡ 0xED
unfolding xtime times_bits times even_power inverse affine sub_byte
sub_byte-53 = refl

pub sub_byte-00 : sub_byte 0x00 ≡ 0x63
unfolding xtime times_bits times even_power inverse affine sub_byte
sub_byte-00 = refl

pub sub_byte-01 : sub_byte 0x01 ≡ 0x7C
unfolding xtime times_bits times even_power inverse affine sub_byte
sub_byte-01 = refl

pub sub_byte-FF : sub_byte 0xFF ≡ 0x16
unfolding xtime times_bits times even_power inverse affine sub_byte
sub_byte-FF = refl

-- the keys of appendix A
abbrev key_128 : List ℕ
key_128 =
    0x2B ∷ 0x7E ∷ 0x15 ∷ 0x16 ∷ 0x28 ∷ 0xAE ∷ 0xD2 ∷ 0xA6 ∷ 0xAB ∷ 0xF7 ∷ 0x15 ∷ 0x88 ∷ 0x09 ∷ 0xCF ∷ 0x4F ∷ 0x3C ∷ []

abbrev key_192 : List ℕ
key_192 =
    0x8E ∷ 0x73 ∷ 0xB0 ∷ 0xF7 ∷ 0xDA ∷ 0x0E ∷ 0x64 ∷ 0x52 ∷ 0xC8 ∷ 0x10 ∷ 0xF3 ∷ 0x2B ∷ 0x80 ∷ 0x90 ∷ 0x79 ∷ 0xE5 ∷
    0x62 ∷ 0xF8 ∷ 0xEA ∷ 0xD2 ∷ 0x52 ∷ 0x2C ∷ 0x6B ∷ 0x7B ∷ []

abbrev key_256 : List ℕ
key_256 =
    0x60 ∷ 0x3D ∷ 0xEB ∷ 0x10 ∷ 0x15 ∷ 0xCA ∷ 0x71 ∷ 0xBE ∷ 0x2B ∷ 0x73 ∷ 0xAE ∷ 0xF0 ∷ 0x85 ∷ 0x7D ∷ 0x77 ∷ 0x81 ∷
    0x1F ∷ 0x35 ∷ 0x2C ∷ 0x07 ∷ 0x3B ∷ 0x61 ∷ 0x08 ∷ 0xD7 ∷ 0x2D ∷ 0x98 ∷ 0x10 ∷ 0xA3 ∷ 0x09 ∷ 0x14 ∷ 0xDF ∷ 0xF4 ∷ []

pub word_4_of_128 : slice_index (key_expansion key_128) 4 ≡ 0xA0FAFE17
unfolding xtime times_bits times even_power inverse affine sub_byte rot_word sub_word power_of_x rcon added_word next_word first_words key_expansion
word_4_of_128 = refl

pub word_6_of_192 : slice_index (key_expansion key_192) 6 ≡ 0xFE0C91F7
unfolding xtime times_bits times even_power inverse affine sub_byte rot_word sub_word power_of_x rcon added_word next_word first_words key_expansion
word_6_of_192 = refl

pub word_8_of_256 : slice_index (key_expansion key_256) 8 ≡ 0x9BA35411
unfolding xtime times_bits times even_power inverse affine sub_byte rot_word sub_word power_of_x rcon added_word next_word first_words key_expansion
word_8_of_256 = refl

-- the word with the substitution that only keys of 256 bits have
pub word_12_of_256 : slice_index (key_expansion key_256) 12 ≡ 0xA8B09C1A
unfolding xtime times_bits times even_power inverse affine sub_byte rot_word sub_word power_of_x rcon added_word next_word first_words key_expansion
word_12_of_256 = refl

-- the key of n bytes 0, 1, …, and the block of appendix C
abbrev plain : List ℕ
plain = 0x00 ∷ 0x11 ∷ 0x22 ∷ 0x33 ∷ 0x44 ∷ 0x55 ∷ 0x66 ∷ 0x77 ∷ 0x88 ∷ 0x99 ∷ 0xAA ∷ 0xBB ∷ 0xCC ∷ 0xDD ∷ 0xEE ∷ 0xFF ∷ []

abbrev enciphered_128 : List ℕ
enciphered_128 = 0x69 ∷ 0xC4 ∷ 0xE0 ∷ 0xD8 ∷ 0x6A ∷ 0x7B ∷ 0x04 ∷ 0x30 ∷ 0xD8 ∷ 0xCD ∷ 0xB7 ∷ 0x80 ∷ 0x70 ∷ 0xB4 ∷ 0xC5 ∷ 0x5A ∷ []

pub cipher_128 : aes_cipher (range_with_len 0 16) plain ≡ enciphered_128
unfolding xtime times_bits times even_power inverse affine sub_byte rot_word sub_word power_of_x rcon added_word next_word first_words key_expansion sub_bytes shift_rows mix_columns add_round_key rounds cipher aes_cipher
cipher_128 = refl

pub decipher_128 : aes_decipher (range_with_len 0 16) enciphered_128 ≡ plain
unfolding xtime times_bits times even_power inverse affine sub_byte inv_affine inv_sub_byte rot_word sub_word power_of_x rcon added_word next_word first_words key_expansion add_round_key inv_shift_rows inv_sub_bytes inv_mix_columns inv_rounds inv_cipher aes_decipher
decipher_128 = refl

abbrev enciphered_192 : List ℕ
enciphered_192 = 0xDD ∷ 0xA9 ∷ 0x7C ∷ 0xA4 ∷ 0x86 ∷ 0x4C ∷ 0xDF ∷ 0xE0 ∷ 0x6E ∷ 0xAF ∷ 0x70 ∷ 0xA0 ∷ 0xEC ∷ 0x0D ∷ 0x71 ∷ 0x91 ∷ []

pub cipher_192 : aes_cipher (range_with_len 0 24) plain ≡ enciphered_192
unfolding xtime times_bits times even_power inverse affine sub_byte rot_word sub_word power_of_x rcon added_word next_word first_words key_expansion sub_bytes shift_rows mix_columns add_round_key rounds cipher aes_cipher
cipher_192 = refl

pub decipher_192 : aes_decipher (range_with_len 0 24) enciphered_192 ≡ plain
unfolding xtime times_bits times even_power inverse affine sub_byte inv_affine inv_sub_byte rot_word sub_word power_of_x rcon added_word next_word first_words key_expansion add_round_key inv_shift_rows inv_sub_bytes inv_mix_columns inv_rounds inv_cipher aes_decipher
decipher_192 = refl

abbrev enciphered_256 : List ℕ
enciphered_256 = 0x8E ∷ 0xA2 ∷ 0xB7 ∷ 0xCA ∷ 0x51 ∷ 0x67 ∷ 0x45 ∷ 0xBF ∷ 0xEA ∷ 0xFC ∷ 0x49 ∷ 0x90 ∷ 0x4B ∷ 0x49 ∷ 0x60 ∷ 0x89 ∷ []

pub cipher_256 : aes_cipher (range_with_len 0 32) plain ≡ enciphered_256
unfolding xtime times_bits times even_power inverse affine sub_byte rot_word sub_word power_of_x rcon added_word next_word first_words key_expansion sub_bytes shift_rows mix_columns add_round_key rounds cipher aes_cipher
cipher_256 = refl

pub decipher_256 : aes_decipher (range_with_len 0 32) enciphered_256 ≡ plain
unfolding xtime times_bits times even_power inverse affine sub_byte inv_affine inv_sub_byte rot_word sub_word power_of_x rcon added_word next_word first_words key_expansion add_round_key inv_shift_rows inv_sub_bytes inv_mix_columns inv_rounds inv_cipher aes_decipher
decipher_256 = refl
