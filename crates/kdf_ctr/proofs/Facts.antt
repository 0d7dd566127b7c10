-- The definition on an example that is worked out by hand, by computing. In place of a pseudorandom
-- function stands the key and the message.
use Rattle.std.proofs.Common.{◌≡◌, [], ◌∷◌, ◌++◌, refl}
use Rattle.kdf_ctr.specs.Kdf.{kdf}

-- twenty bytes, 160 bits, of two blocks of thirteen
pub two_blocks : kdf (λ key message. key ++ message) 13 (0x99 ∷ []) (0x11 ∷ 0x12 ∷ []) (0x21 ∷ []) 20 ≡
    0x99 ∷ 0 ∷ 0 ∷ 0 ∷ 1 ∷ 0x11 ∷ 0x12 ∷ 0 ∷ 0x21 ∷ 0 ∷ 0 ∷ 0 ∷ 160 ∷
    0x99 ∷ 0 ∷ 0 ∷ 0 ∷ 2 ∷ 0x11 ∷ 0x12 ∷ []
unfolding kdf
two_blocks = refl
