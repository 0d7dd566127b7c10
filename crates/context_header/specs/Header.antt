-- The context header of an algorithm (docs/FORMATS.md, "Context header").
use Rattle.std.specs.Prelude.{ℕ, List, [], ◌∷◌, ◌++◌, replicate}
use Rattle.std.specs.Int.{w32, to_be_bytes}
use Rattle.dp_base.specs.declared.alg.Alg.{Alg}
use Rattle.dp_base.specs.declared.alg.Alg.TheVariants.{Cbc256, Cbc512, Gcm}
use Rattle.aes_block.specs.Cipher.{aes_cipher}
use Rattle.cbc_mode.specs.Cbc.{ciphertext}
use Rattle.cbc_mode.specs.Pad.{pad}
use Rattle.gcm_mode.specs.Gcm.{gcm_tag}
use Rattle.context_header.specs.Algorithms.{key_len, mac_len, mac}
use Rattle.context_header.specs.Keys.{KeyPair, key_pair}

-- four counts of bytes, of 32 bits each
abbrev pub counts : ℕ → ℕ → ℕ → ℕ → List ℕ
counts a b c d = to_be_bytes w32 a ++ to_be_bytes w32 b ++ to_be_bytes w32 c ++ to_be_bytes w32 d

-- CBC: 00 00; the bytes of the cipher's key and block, of the hash's key and digest; the empty text,
-- enciphered after a vector of zeros; and the value of the empty text
abbrev pub cbc_header : Alg → KeyPair → List ℕ
cbc_header alg keys =
    (0 ∷ 0 ∷ counts (key_len alg) 16 (mac_len alg) (mac_len alg))
    ++ ciphertext (aes_cipher keys.encryption) (replicate 16 0) (pad [])
    ++ mac alg keys.validation []

-- GCM: 00 01; the bytes of the cipher's key, of the nonce, the block and the tag; and the tag of the
-- empty text under a nonce of zeros
abbrev pub gcm_header : Alg → KeyPair → List ℕ
gcm_header alg keys =
    (0 ∷ 1 ∷ counts (key_len alg) 12 16 16) ++ gcm_tag (aes_cipher keys.encryption) (replicate 12 0) [] []

-- the header under the keys that nothing derives
abbrev pub header_by : Alg → KeyPair → List ℕ
header_by (Cbc256 size) keys = cbc_header (Cbc256 size) keys
header_by (Cbc512 size) keys = cbc_header (Cbc512 size) keys
header_by (Gcm size) keys = gcm_header (Gcm size) keys

-- the context header
unfoldable pub context_header : Alg → List ℕ
context_header alg = header_by alg (key_pair alg [] [] [])
