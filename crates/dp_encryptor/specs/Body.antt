-- The bodies that a secret seals (docs/FORMATS.md, "Payload").
use Rattle.std.specs.Prelude.{◌≡◌, ℕ, List, [], ◌++◌}
use Rattle.dp_base.specs.declared.alg.Alg.{Alg}
use Rattle.dp_base.specs.declared.alg.Alg.TheVariants.{Cbc256, Cbc512, Gcm}
use Rattle.aes_block.specs.Cipher.{aes_cipher, aes_decipher}
use Rattle.cbc_mode.specs.Cbc.{ciphertext, plaintext, HasWholeBlocks}
use Rattle.cbc_mode.specs.Pad.{pad, IsPadded}
use Rattle.gcm_mode.specs.Ctr.{ctr}
use Rattle.gcm_mode.specs.Gcm.{gcm_tag}
use Rattle.payload_view.specs.Payload.{Parts}
use Rattle.context_header.specs.Algorithms.{mac}
use Rattle.context_header.specs.Keys.{KeyPair, key_pair}
use Rattle.context_header.specs.Header.{context_header}

-- an algorithm, and the bytes from which each body's keys are derived
pub record Secret : Type 0 where
  pub alg : Alg
  pub material : List ℕ

-- the keys of a body: by its modifier, and by data that is authenticated with it
abbrev pub subkeys : Secret → List ℕ → List ℕ → KeyPair
subkeys secret aad modifier =
    key_pair secret.alg secret.material aad (context_header secret.alg ++ modifier)

-- the text under the key of the cipher: padded and in CBC, or in counter mode
abbrev pub enciphered : Alg → List ℕ → List ℕ → List ℕ → List ℕ
enciphered (Cbc256 size) key iv text = ciphertext (aes_cipher key) iv (pad text)
enciphered (Cbc512 size) key iv text = ciphertext (aes_cipher key) iv (pad text)
enciphered (Gcm size) key iv text = ctr (aes_cipher key) iv text

-- the tag: the keyed hash of the vector and the enciphered text, or GCM's with no further data
abbrev pub tag : Alg → KeyPair → List ℕ → List ℕ → List ℕ
tag (Cbc256 size) keys iv c = mac (Cbc256 size) keys.validation (iv ++ c)
tag (Cbc512 size) keys iv c = mac (Cbc512 size) keys.validation (iv ++ c)
tag (Gcm size) keys iv c = gcm_tag (aes_cipher keys.encryption) iv [] c

-- the parts of the body of a text
abbrev pub sealed_by : Alg → KeyPair → List ℕ → List ℕ → List ℕ → Parts
sealed_by alg keys modifier iv text = record {
  modifier = modifier;
  iv = iv;
  enciphered = enciphered alg keys.encryption iv text;
  tag = tag alg keys iv (enciphered alg keys.encryption iv text);
}

abbrev pub sealed : Secret → List ℕ → List ℕ → List ℕ → List ℕ → Parts
sealed secret aad modifier iv text = sealed_by secret.alg (subkeys secret aad modifier) modifier iv text

-- the tag of a body is that of its other parts
abbrev pub HasTag : Alg → KeyPair → Parts → Type 0
HasTag alg keys parts = parts.tag ≡ tag alg keys parts.iv parts.enciphered

-- a body opens to a text: it has its tag, and its enciphered part is that of the text
abbrev pub Opens : Alg → KeyPair → Parts → List ℕ → Type 0
Opens alg keys parts text =
    HasTag alg keys parts × (parts.enciphered ≡ enciphered alg keys.encryption parts.iv text)

-- the enciphered part is a positive number of whole blocks that deciphers to a padded text; in counter
-- mode each is one
abbrev pub Unpads : Alg → KeyPair → Parts → Type 0
Unpads (Cbc256 size) keys parts =
    HasWholeBlocks parts.enciphered × IsPadded (plaintext (aes_decipher keys.encryption) parts.iv parts.enciphered)
Unpads (Cbc512 size) keys parts =
    HasWholeBlocks parts.enciphered × IsPadded (plaintext (aes_decipher keys.encryption) parts.iv parts.enciphered)
Unpads (Gcm size) keys parts = Unit {0}
