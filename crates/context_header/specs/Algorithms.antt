-- What an algorithm is made of (docs/FORMATS.md, "Algorithm codes"): a cipher with keys of so many
-- bytes, and a keyed hash.
use Rattle.std.specs.Prelude.{ℕ, List, []}
use Rattle.sha2.specs.Sha256.{sha256}
use Rattle.sha2.specs.Sha512.{sha512}
use Rattle.dp_base.specs.declared.alg.Alg.{Alg}
use Rattle.dp_base.specs.declared.alg.Alg.TheVariants.{Cbc256, Cbc512, Gcm}
use Rattle.dp_base.specs.declared.alg.AesSize.{AesSize}
use Rattle.dp_base.specs.declared.alg.AesSize.TheVariants.{A128, A192, A256}
use Rattle.hmac_sha2.specs.Hmac.{hmac}

-- the bytes of a key of AES (FIPS 197, 5)
abbrev pub size_len : AesSize → ℕ
size_len A128 = 16
size_len A192 = 24
size_len A256 = 32

abbrev pub key_len : Alg → ℕ
key_len (Cbc256 size) = size_len size
key_len (Cbc512 size) = size_len size
key_len (Gcm size) = size_len size

-- the bytes of the key of the keyed hash, and of its value; GCM has none
abbrev pub mac_len : Alg → ℕ
mac_len (Cbc256 size) = 32
mac_len (Cbc512 size) = 64
mac_len (Gcm size) = 0

-- the keyed hash (FIPS 198-1)
abbrev pub mac : Alg → List ℕ → List ℕ → List ℕ
mac (Cbc256 size) = hmac sha256 64
mac (Cbc512 size) = hmac sha512 128
mac (Gcm size) = λ key message. []
