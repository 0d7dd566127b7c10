-- What a key makes of blocks is a block, and each way undoes the other.
pub mod Bytes
pub mod Columns
pub mod Products
pub mod Steps
pub mod Tables
pub mod Undoing
use Rattle.std.proofs.Common.{◌≡◌, List, ℕ}
use Rattle.dp_base.specs.Blocks.{IsBlock}
use Rattle.aes_block.specs.Cipher.{aes_cipher, aes_decipher}
use Rattle.aes_block.specs.KeyExpansion.{key_expansion, round_count}
use Rattle.aes_block.specs.Laws.Undoing.{IsBlock-cipher, IsBlock-inv_cipher, cipher-inv_cipher, inv_cipher-cipher}

-- a block becomes a block, both ways
pub IsBlock-aes_cipher : (key b : List ℕ) → IsBlock b → IsBlock (aes_cipher key b)
unfolding aes_cipher
IsBlock-aes_cipher key b h = IsBlock-cipher (key_expansion key) b (round_count key) h

pub IsBlock-aes_decipher : (key b : List ℕ) → IsBlock b → IsBlock (aes_decipher key b)
unfolding aes_decipher
IsBlock-aes_decipher key b h = IsBlock-inv_cipher (key_expansion key) b (round_count key) h

-- each undoes the other, under every key
pub aes_decipher-aes_cipher : (key b : List ℕ) → IsBlock b → aes_decipher key (aes_cipher key b) ≡ b
unfolding aes_cipher aes_decipher
aes_decipher-aes_cipher key b h = inv_cipher-cipher (key_expansion key) b (round_count key) h

pub aes_cipher-aes_decipher : (key b : List ℕ) → IsBlock b → aes_cipher key (aes_decipher key b) ≡ b
unfolding aes_cipher aes_decipher
aes_cipher-aes_decipher key b h = cipher-inv_cipher (key_expansion key) b (round_count key) h
