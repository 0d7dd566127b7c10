-- Sixteen bytes read as one number and written again.
use Rattle.std.proofs.Common.{◌≡◌, ℕ, zero, suc, ◌+◌, ◌*◌, ◌/◌, ◌%◌, ◌^◌, ◌<◌, List, [], ◌∷◌, length, zero-mul, zero-add, refl, ap, subst, ◌∙◌, arith}
use Rattle.std.specs.Int.{w128, to_be_bytes, from_be_bytes, bytes_high_first, byte_at}
use Rattle.std.proofs.lemmas.Nat.{div-mul-add, mod-mul-add, mul-add-lt}
use Rattle.std.proofs.Math.Nat.{pow-suc}
use Rattle.dp_base.specs.Blocks.{AreBytes}

-- the number of the bytes, high byte first
abbrev pub value : List ℕ → ℕ
value [] = 0
value (b ∷ bs) = b * 256 ^ length bs + value bs

pub value-below : (bs : List ℕ) → AreBytes bs → value bs < 256 ^ length bs
value-below [] fits = omega arith
value-below (b ∷ bs) fits =
    let rest = value-below bs (λ i. fits (suc i)) in
    rw pow-suc (below b (value bs) (256 ^ length bs) (fits 0) rest)
  where
    below : (b v p : ℕ) → b < 256 → v < p → b * p + v < p * 256
    below b v p small rest = omega (arith, mul-add-lt b p v 256 small rest)

byte_at-div : (k n : ℕ) → byte_at k n ≡ n / 256 ^ k % 256
byte_at-div zero n = omega arith
byte_at-div (suc k) n = refl

-- the digit above the lower ones
digit : (high b v p : ℕ) → b < 256 → v < p → ((high * 256 + b) * p + v) / p % 256 ≡ b
digit high b v p small rest =
    ap (λ (x : ℕ). x % 256) (div-mul-add (high * 256 + b) p v rest) ∙ mod-mul-add high 256 b small

-- the digits to the base 256 are the bytes, whatever stands above them
pub digits-value : (high : ℕ) (bs : List ℕ) → AreBytes bs → bytes_high_first (length bs) (high * 256 ^ length bs + value bs) ≡ bs
digits-value high [] fits = refl
digits-value high (b ∷ bs) fits =
    let rest = value-below bs (λ i. fits (suc i)) in
    let regroup : high * 256 ^ suc (length bs) + (b * 256 ^ length bs + value bs) ≡ (high * 256 + b) * 256 ^ length bs + value bs =
    rw pow-suc (group high b (value bs) (256 ^ length bs)) in
    let first : byte_at (length bs) ((high * 256 + b) * 256 ^ length bs + value bs) ≡ b =
    byte_at-div (length bs) _ ∙ digit high b (value bs) (256 ^ length bs) (fits 0) rest in
    rw (regroup, first, digits-value (high * 256 + b) bs (λ i. fits (suc i))) refl
  where
    group : (h b v p : ℕ) → h * (p * 256) + (b * p + v) ≡ (h * 256 + b) * p + v
    group h b v p = omega arith

from-value : (bs : List ℕ) → length bs ≡ 16 → from_be_bytes w128 bs ≡ value bs
from-value ([]) len = absurd (omega arith)
from-value (a ∷ []) len = absurd (omega arith)
from-value (a ∷ b ∷ []) len = absurd (omega arith)
from-value (a ∷ b ∷ c ∷ []) len = absurd (omega arith)
from-value (a ∷ b ∷ c ∷ d ∷ []) len = absurd (omega arith)
from-value (a ∷ b ∷ c ∷ d ∷ e ∷ []) len = absurd (omega arith)
from-value (a ∷ b ∷ c ∷ d ∷ e ∷ f ∷ []) len = absurd (omega arith)
from-value (a ∷ b ∷ c ∷ d ∷ e ∷ f ∷ g ∷ []) len = absurd (omega arith)
from-value (a ∷ b ∷ c ∷ d ∷ e ∷ f ∷ g ∷ h ∷ []) len = absurd (omega arith)
from-value (a ∷ b ∷ c ∷ d ∷ e ∷ f ∷ g ∷ h ∷ i ∷ []) len = absurd (omega arith)
from-value (a ∷ b ∷ c ∷ d ∷ e ∷ f ∷ g ∷ h ∷ i ∷ j ∷ []) len = absurd (omega arith)
from-value (a ∷ b ∷ c ∷ d ∷ e ∷ f ∷ g ∷ h ∷ i ∷ j ∷ k ∷ []) len = absurd (omega arith)
from-value (a ∷ b ∷ c ∷ d ∷ e ∷ f ∷ g ∷ h ∷ i ∷ j ∷ k ∷ l ∷ []) len = absurd (omega arith)
from-value (a ∷ b ∷ c ∷ d ∷ e ∷ f ∷ g ∷ h ∷ i ∷ j ∷ k ∷ l ∷ m ∷ []) len = absurd (omega arith)
from-value (a ∷ b ∷ c ∷ d ∷ e ∷ f ∷ g ∷ h ∷ i ∷ j ∷ k ∷ l ∷ m ∷ n ∷ []) len = absurd (omega arith)
from-value (a ∷ b ∷ c ∷ d ∷ e ∷ f ∷ g ∷ h ∷ i ∷ j ∷ k ∷ l ∷ m ∷ n ∷ o ∷ []) len = absurd (omega arith)
from-value (a ∷ b ∷ c ∷ d ∷ e ∷ f ∷ g ∷ h ∷ i ∷ j ∷ k ∷ l ∷ m ∷ n ∷ o ∷ p ∷ []) len = omega arith
from-value (a ∷ b ∷ c ∷ d ∷ e ∷ f ∷ g ∷ h ∷ i ∷ j ∷ k ∷ l ∷ m ∷ n ∷ o ∷ p ∷ q ∷ bs) len = absurd (omega arith)

-- the bytes that a number was read from are the number's bytes
pub be_bytes_16 : (bs : List ℕ) → length bs ≡ 16 → AreBytes bs → to_be_bytes w128 (from_be_bytes w128 bs) ≡ bs
be_bytes_16 bs len fits =
    let digits : bytes_high_first (length bs) (value bs) ≡ bs = simp (zero-mul, zero-add) at (digits-value 0 bs fits) in
    ap (to_be_bytes w128) (from-value bs len) ∙ subst (λ (k : ℕ). bytes_high_first k (value bs) ≡ bs) len digits

-- sixteen bytes are a number below 2 ^ 128
pub from_be_bytes-below : (bs : List ℕ) → length bs ≡ 16 → AreBytes bs → from_be_bytes w128 bs < 2 ^ 128
from_be_bytes-below bs len fits =
    rw (from-value bs len) (subst (λ (k : ℕ). value bs < 256 ^ k) len (value-below bs fits))
