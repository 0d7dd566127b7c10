-- The definitions on the two headers that Microsoft Learn publishes ("Context headers in ASP.NET Core"), by
-- computing, so that a wrong definition does not check.
use Rattle.std.proofs.Common.{◌≡◌, [], ◌∷◌, refl}
use Rattle.sha2.specs.Sha256.{sha256}
use Rattle.sha2.specs.Sha256 as S256
use Rattle.sha2.specs.Sha512.{sha512}
use Rattle.sha2.specs.Sha512 as S512
use Rattle.dp_base.specs.declared.alg.AesSize.TheVariants.{A192, A256}
use Rattle.dp_base.specs.declared.alg.Alg.TheVariants.{Cbc256, Gcm}
use Rattle.aes_block.specs.Field.{xtime, times_bits, times, even_power, inverse, affine, sub_byte}
use Rattle.aes_block.specs.KeyExpansion.{rot_word, sub_word, power_of_x, rcon, added_word, next_word, first_words, key_expansion}
use Rattle.aes_block.specs.Cipher.{sub_bytes, shift_rows, mix_columns, add_round_key, rounds, cipher, aes_cipher}
use Rattle.gcm_mode.specs.Product.{number_of, block_of, next_multiple, sum_of_multiples, product}
use Rattle.gcm_mode.specs.Ghash.{ghash}
use Rattle.gcm_mode.specs.Gcm.{gcm_tag}
use Rattle.kdf_ctr.specs.Kdf.{kdf}
use Rattle.context_header.specs.Keys.{derived}
use Rattle.context_header.specs.Header.{context_header}

-- AES-256 in GCM
pub header_of_gcm_256 : context_header (Gcm A256) ≡
    0x00 ∷ 0x01 ∷ 0x00 ∷ 0x00 ∷ 0x00 ∷ 0x20 ∷ 0x00 ∷ 0x00 ∷ 0x00 ∷ 0x0C ∷ 0x00 ∷ 0x00 ∷ 0x00 ∷
    0x10 ∷ 0x00 ∷ 0x00 ∷ 0x00 ∷ 0x10 ∷ 0xE7 ∷ 0xDC ∷ 0xCE ∷ 0x66 ∷ 0xDF ∷ 0x85 ∷ 0x5A ∷ 0x32 ∷
    0x3A ∷ 0x6B ∷ 0xB7 ∷ 0xBD ∷ 0x7A ∷ 0x59 ∷ 0xBE ∷ 0x45 ∷ []
unfolding xtime times_bits times even_power inverse affine sub_byte rot_word sub_word power_of_x rcon added_word next_word first_words key_expansion sub_bytes shift_rows mix_columns add_round_key rounds cipher aes_cipher S512.first_words S512.schedule S512.rounds S512.compress S512.hash_after S512.digest_bytes sha512 number_of block_of next_multiple sum_of_multiples product ghash gcm_tag kdf derived context_header
header_of_gcm_256 = refl

-- AES-192 in CBC with HMAC over SHA-256
pub header_of_cbc_192 : context_header (Cbc256 A192) ≡
    0x00 ∷ 0x00 ∷ 0x00 ∷ 0x00 ∷ 0x00 ∷ 0x18 ∷ 0x00 ∷ 0x00 ∷ 0x00 ∷ 0x10 ∷ 0x00 ∷ 0x00 ∷ 0x00 ∷
    0x20 ∷ 0x00 ∷ 0x00 ∷ 0x00 ∷ 0x20 ∷ 0xF4 ∷ 0x74 ∷ 0xB1 ∷ 0x87 ∷ 0x2B ∷ 0x3B ∷ 0x53 ∷ 0xE4 ∷
    0x72 ∷ 0x1D ∷ 0xE1 ∷ 0x9C ∷ 0x08 ∷ 0x41 ∷ 0xDB ∷ 0x6F ∷ 0xD4 ∷ 0x79 ∷ 0x11 ∷ 0x84 ∷ 0xB9 ∷
    0x96 ∷ 0x09 ∷ 0x2E ∷ 0xE1 ∷ 0x20 ∷ 0x2F ∷ 0x36 ∷ 0xE8 ∷ 0x60 ∷ 0x8F ∷ 0xA8 ∷ 0xFB ∷ 0xD9 ∷
    0x8A ∷ 0xBD ∷ 0xFF ∷ 0x54 ∷ 0x02 ∷ 0xF2 ∷ 0x64 ∷ 0xB1 ∷ 0xD7 ∷ 0x21 ∷ 0x15 ∷ 0x36 ∷ 0x22 ∷
    0x0C ∷ []
unfolding xtime times_bits times even_power inverse affine sub_byte rot_word sub_word power_of_x rcon added_word next_word first_words key_expansion sub_bytes shift_rows mix_columns add_round_key rounds cipher aes_cipher S512.first_words S512.schedule S512.rounds S512.compress S512.hash_after S512.digest_bytes sha512 S256.first_words S256.schedule S256.rounds S256.compress S256.hash_after S256.digest_bytes sha256 kdf derived context_header
header_of_cbc_192 = refl
