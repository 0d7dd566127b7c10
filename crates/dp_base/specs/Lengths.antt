-- The lengths in bytes that an algorithm of a payload fixes.
use Rattle.std.specs.Prelude.{ℕ}
use Rattle.dp_base.specs.declared.alg.Alg.{Alg}
use Rattle.dp_base.specs.declared.alg.Alg.TheVariants.{Cbc256, Cbc512, Gcm}

-- the initialization vector: a block for CBC, and 96 bits for GCM
abbrev pub iv_len : Alg → ℕ
iv_len (Cbc256 size) = 16
iv_len (Cbc512 size) = 16
iv_len (Gcm size) = 12

-- the tag: a whole value of the keyed hash, or 128 bits of GCM
abbrev pub tag_len : Alg → ℕ
tag_len (Cbc256 size) = 32
tag_len (Cbc512 size) = 64
tag_len (Gcm size) = 16
