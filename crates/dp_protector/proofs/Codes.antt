-- Each algorithm is found by its code, and every other code has none.
use Rattle.std.proofs.Common.{◌≡◌, ℕ, zero, suc, Option, Some, None, refl, sym, subst, arith}
use Rattle.std.specs.Prelude.{◌↔◌, IfSome, IsNone}
use Rattle.dp_base.specs.declared.alg.AesSize.TheVariants.{A128, A192, A256}
use Rattle.dp_base.specs.declared.alg.Alg.{Alg}
use Rattle.dp_base.specs.declared.alg.Alg.TheVariants.{Cbc256, Cbc512, Gcm}
use Rattle.dp_base.specs.Codes.{IsCode, code_of}
use Rattle.dp_protector.specs.Algorithms.{alg_of}

found : (alg : Alg) → alg_of (code_of alg) ≡ Some alg
unfolding alg_of
found (Cbc256 A128) = refl
found (Cbc256 A192) = refl
found (Cbc256 A256) = refl
found (Cbc512 A128) = refl
found (Cbc512 A192) = refl
found (Cbc512 A256) = refl
found (Gcm A128) = refl
found (Gcm A192) = refl
found (Gcm A256) = refl

pub alg_of-some : (alg : Alg) (code : ℕ) → code_of alg ≡ code → alg_of code ≡ Some alg
alg_of-some alg code is = subst (λ (n : ℕ). alg_of n ≡ Some alg) is (found alg)

pub alg_of-none : (code : ℕ) → (IsCode code → ⊥) → alg_of code ≡ None
unfolding alg_of
alg_of-none zero none = refl
alg_of-none (suc zero) none = absurd (none (omega arith, omega arith))
alg_of-none (suc (suc zero)) none = absurd (none (omega arith, omega arith))
alg_of-none (suc (suc (suc zero))) none = absurd (none (omega arith, omega arith))
alg_of-none (suc (suc (suc (suc zero)))) none = absurd (none (omega arith, omega arith))
alg_of-none (suc (suc (suc (suc (suc zero))))) none = absurd (none (omega arith, omega arith))
alg_of-none (suc (suc (suc (suc (suc (suc zero)))))) none = absurd (none (omega arith, omega arith))
alg_of-none (suc (suc (suc (suc (suc (suc (suc zero))))))) none = absurd (none (omega arith, omega arith))
alg_of-none (suc (suc (suc (suc (suc (suc (suc (suc zero)))))))) none = absurd (none (omega arith, omega arith))
alg_of-none (suc (suc (suc (suc (suc (suc (suc (suc (suc zero))))))))) none = absurd (none (omega arith, omega arith))
alg_of-none (suc (suc (suc (suc (suc (suc (suc (suc (suc (suc code)))))))))) none = refl

-- a code of 1 to 9 has an algorithm
pub alg_of-code : (code : ℕ) → IsCode code → alg_of code ≡ None → ⊥
unfolding alg_of
alg_of-code zero is none = absurd (omega arith)
alg_of-code (suc zero) is none = absurd cc
alg_of-code (suc (suc zero)) is none = absurd cc
alg_of-code (suc (suc (suc zero))) is none = absurd cc
alg_of-code (suc (suc (suc (suc zero)))) is none = absurd cc
alg_of-code (suc (suc (suc (suc (suc zero))))) is none = absurd cc
alg_of-code (suc (suc (suc (suc (suc (suc zero)))))) is none = absurd cc
alg_of-code (suc (suc (suc (suc (suc (suc (suc zero))))))) is none = absurd cc
alg_of-code (suc (suc (suc (suc (suc (suc (suc (suc zero)))))))) is none = absurd cc
alg_of-code (suc (suc (suc (suc (suc (suc (suc (suc (suc zero))))))))) is none = absurd cc
alg_of-code (suc (suc (suc (suc (suc (suc (suc (suc (suc (suc code)))))))))) is none = absurd (omega arith)

-- what a look-up by the code answers
pub alg_of-is : (r : Option Alg) (code : ℕ) → (IsNone r ↔ (IsCode code → ⊥)) → IfSome r (λ alg. code_of alg ≡ code) → r ≡ alg_of code
alg_of-is None code none value = sym (alg_of-none code (none.0 refl))
alg_of-is (Some alg) code none value = sym (alg_of-some alg code value)
