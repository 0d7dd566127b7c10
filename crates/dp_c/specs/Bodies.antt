-- Bodies under an algorithm that is told by its code.
use Rattle.std.specs.Prelude.{◌≡◌, ℕ, ◌≤◌, ◌<◌, ◌^◌, List, length}
use Rattle.dp_base.specs.Codes.{code_of}
use Rattle.dp_base.specs.declared.alg.Alg.{Alg}
use Rattle.context_header.specs.Keys.{KeyPair}
use Rattle.payload_view.specs.Payload.{parts_of, plain_len}
use Rattle.dp_encryptor.specs.Body.{Secret, subkeys}

-- an algorithm, and the material of a key
abbrev pub secret : Alg → List ℕ → Secret
secret alg material = record { alg = alg; material = material }

-- the keys of a body, which stand by its modifier
abbrev pub body_keys : Alg → List ℕ → List ℕ → List ℕ → KeyPair
body_keys alg material aad body = subkeys (secret alg material) aad (parts_of alg body).modifier

-- the code is that of the algorithm, and the body has room for its modifier, vector and tag, and is
-- short enough
pub record FitsBody (alg : Alg) (code : ℕ) (body : List ℕ) : Type 0 where
  pub code_is : code_of alg ≡ code
  pub has_parts : plain_len alg ≤ length body
  pub short : length body < 2 ^ 32
