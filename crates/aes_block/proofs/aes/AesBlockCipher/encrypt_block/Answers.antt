use Rattle.std.proofs.Common.{◌∙◌, List, ℕ, ap, arith}
use Rattle.aes_block.specs.Cipher.{aes_cipher}
use Rattle.aes_block.proofs.Expanded.{cipher-expanded, rounds-known}
use Rattle.aes_block.proofs.aes.AesBlockCipher.encrypt_block.Goals as goal

pub cipher-requires : goal.cipher-requires
cipher-requires c =
    let known = rounds-known c.self.inside.words c.self.inside.inverse c.self.inside.rounds c.self.invariant in
    record { even = known.0; some = omega arith; few = omega arith }

pub returns : goal.returns
returns c =
    c.cipher.ensures
    ∙ cipher-expanded c.self.inside.words c.self.inside.inverse c.self.inside.rounds c.args.block.now c.self.invariant
    ∙ ap (λ (key : List ℕ). aes_cipher key c.args.block.now) c.self.view_is
