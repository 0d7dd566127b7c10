-- The algorithm codes of records, 1 to 9.
use Rattle.std.specs.Prelude.{ℕ, ◌+◌, ◌≤◌}
use Rattle.dp_base.specs.declared.alg.AesSize.{AesSize}
use Rattle.dp_base.specs.declared.alg.AesSize.TheVariants.{A128, A192, A256}
use Rattle.dp_base.specs.declared.alg.Alg.{Alg}
use Rattle.dp_base.specs.declared.alg.Alg.TheVariants.{Cbc256, Cbc512, Gcm}

-- the place of a size among 128, 192 and 256 bits, from 1
abbrev pub size_place : AesSize → ℕ
size_place A128 = 1
size_place A192 = 2
size_place A256 = 3

-- CBC with SHA-256 has 1 to 3, CBC with SHA-512 has 4 to 6, GCM has 7 to 9
abbrev pub code_of : Alg → ℕ
code_of (Cbc256 size) = size_place size
code_of (Cbc512 size) = 3 + size_place size
code_of (Gcm size) = 6 + size_place size

-- a code that has an algorithm
abbrev pub IsCode : ℕ → Type 0
IsCode code = (1 ≤ code) × (code ≤ 9)
