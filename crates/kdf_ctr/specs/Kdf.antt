-- Key derivation in counter mode (SP 800-108, 4.1) on lists of bytes, with a counter of 32
-- bits before the fixed data, over a pseudorandom function prf of values of h bytes. Section and step
-- numbers are the standard's.
use Rattle.std.specs.Prelude.{ℕ, zero, suc, ◌+◌, ◌*◌, List, [], ◌∷◌, ◌++◌, take}
use Rattle.std.specs.Int.{w32, to_be_bytes, div_ceil}

-- what follows the counter: the label, a byte of zeros, the context, and the length in bits of the n
-- bytes that are derived (4.1, step 4a)
abbrev pub fixed_data : List ℕ → List ℕ → ℕ → List ℕ
fixed_data label context n = label ++ 0 ∷ [] ++ context ++ to_be_bytes w32 (8 * n)

-- K(i) (4.1, step 4a)
abbrev pub block : (List ℕ → List ℕ → List ℕ) → List ℕ → List ℕ → ℕ → List ℕ
block prf key fixed i = prf key (to_be_bytes w32 i ++ fixed)

-- K(i), K(i + 1), …, count in all, one behind the other (4.1, step 4b)
abbrev pub blocks : (List ℕ → List ℕ → List ℕ) → List ℕ → List ℕ → ℕ → ℕ → List ℕ
blocks prf key fixed i zero = []
blocks prf key fixed i (suc count) = block prf key fixed i ++ blocks prf key fixed (i + 1) count

-- K_OUT: the first n bytes of K(1), K(2), … (4.1, step 5)
unfoldable pub kdf : (List ℕ → List ℕ → List ℕ) → ℕ → List ℕ → List ℕ → List ℕ → ℕ → List ℕ
kdf prf h key label context n = take n (blocks prf key (fixed_data label context n) 1 (div_ceil n h))
