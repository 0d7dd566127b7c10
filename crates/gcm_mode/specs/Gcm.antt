-- Galois/Counter Mode with a nonce of 96 bits and a tag of 128 (SP 800-38D, 7), under a cipher f.
-- Section numbers are the standard's.
use Rattle.std.specs.Prelude.{ℕ, List, ◌++◌, replicate}
use Rattle.dp_base.specs.Blocks.{xor_bytes}
use Rattle.gcm_mode.specs.Ctr.{counter_block, ctr}
use Rattle.gcm_mode.specs.Ghash.{ghash}

-- T: the hash under the cipher's block of zeros, enciphered with the counter 1 (7.1, steps 1, 2, 5
-- and 6)
unfoldable pub gcm_tag : (List ℕ → List ℕ) → List ℕ → List ℕ → List ℕ → List ℕ
gcm_tag f nonce aad enciphered =
    xor_bytes (ghash (f (replicate 16 0)) aad enciphered) (f (counter_block nonce 1))

-- C and T: the enciphered text, and its tag (7.1)
abbrev pub sealed : (List ℕ → List ℕ) → List ℕ → List ℕ → List ℕ → List ℕ
sealed f nonce aad text = let c = ctr f nonce text in c ++ gcm_tag f nonce aad c
