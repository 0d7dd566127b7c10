use Rattle.std.proofs.Common.{◌∙◌, List, ℕ, ap, arith}
use Rattle.aes_block.specs.Cipher.{aes_decipher}
use Rattle.aes_block.proofs.Expanded.{inv_cipher-expanded, rounds-known}
use Rattle.aes_block.proofs.aes.AesBlockCipher.decrypt_block.Goals as goal

pub eq_inv_cipher-requires : goal.eq_inv_cipher-requires
eq_inv_cipher-requires c =
    let known = rounds-known c.self.inside.words c.self.inside.inverse c.self.inside.rounds c.self.invariant in
    record { even = known.0; some = omega arith; few = omega arith }

pub returns : goal.returns
returns c =
    c.eq_inv_cipher.ensures
    ∙ inv_cipher-expanded c.self.inside.words c.self.inside.inverse c.self.inside.rounds c.args.block.now c.self.invariant (c.told-block, c.fits-block)
    ∙ ap (λ (key : List ℕ). aes_decipher key c.args.block.now) c.self.view_is
