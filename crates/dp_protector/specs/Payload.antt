-- The payload of a text under a key, for a chain of purposes (docs/FORMATS.md, "Payload").
use Rattle.std.specs.Prelude.{ℕ, List, ◌++◌}
use Rattle.dp_base.specs.declared.alg.Alg.{Alg}
use Rattle.dp_base.specs.Guid.{guid}
use Rattle.key_elements.specs.declared.element.KeyRecord.{KeyRecord}
use Rattle.payload_view.specs.Payload.{joined}
use Rattle.dp_encryptor.specs.Body.{Secret, sealed}
use Rattle.purpose_chain.specs.Chain.{aad, first_bytes}

-- what the bodies of a key are sealed with
abbrev pub secret : Alg → KeyRecord → Secret
secret alg key = record { alg = alg; material = key.material }

-- the first bytes, the id of the key, and the body with its modifier and its vector
unfoldable pub seal : Alg → KeyRecord → List (List ℕ) → List ℕ → List ℕ → List ℕ → List ℕ
seal alg key chain modifier iv text =
    first_bytes ++ guid key.id.0 ++ joined (sealed (secret alg key) (aad key.id.0 chain) modifier iv text)
