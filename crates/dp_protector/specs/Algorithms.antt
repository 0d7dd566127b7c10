-- The algorithms by their codes.
use Rattle.std.specs.Prelude.{ℕ, zero, suc, List, [], ◌∷◌, Option, None, slice_get}
use Rattle.dp_base.specs.declared.alg.AesSize.TheVariants.{A128, A192, A256}
use Rattle.dp_base.specs.declared.alg.Alg.{Alg}
use Rattle.dp_base.specs.declared.alg.Alg.TheVariants.{Cbc256, Cbc512, Gcm}

-- the algorithms in the order of their codes
abbrev pub algorithms : List Alg
algorithms =
    Cbc256 A128 ∷ Cbc256 A192 ∷ Cbc256 A256 ∷ Cbc512 A128 ∷ Cbc512 A192 ∷ Cbc512 A256 ∷ Gcm A128
    ∷ Gcm A192 ∷ Gcm A256 ∷ []

-- the algorithm of a code, if it has one; they are numbered from 1
unfoldable pub alg_of : ℕ → Option Alg
alg_of zero = None
alg_of (suc place) = slice_get algorithms place
