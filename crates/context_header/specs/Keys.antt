-- The keys that are derived for an algorithm (docs/FORMATS.md, "Derivation").
use Rattle.std.specs.Prelude.{ℕ, ◌+◌, List, take, drop}
use Rattle.sha2.specs.Sha512.{sha512}
use Rattle.dp_base.specs.declared.alg.Alg.{Alg}
use Rattle.hmac_sha2.specs.Hmac.{hmac}
use Rattle.kdf_ctr.specs.Kdf.{kdf}
use Rattle.context_header.specs.Algorithms.{key_len, mac_len}

-- a key of the cipher, and one of the keyed hash
pub record KeyPair : Type 0 where
  pub encryption : List ℕ
  pub validation : List ℕ

-- the bytes of both, one behind the other: by SP 800-108 over HMAC with SHA-512
unfoldable pub derived : Alg → List ℕ → List ℕ → List ℕ → List ℕ
derived alg key label context = kdf (hmac sha512 128) 64 key label context (key_len alg + mac_len alg)

-- the two keys
abbrev pub key_pair : Alg → List ℕ → List ℕ → List ℕ → KeyPair
key_pair alg key label context = record {
  encryption = take (key_len alg) (derived alg key label context);
  validation = drop (key_len alg) (derived alg key label context);
}
