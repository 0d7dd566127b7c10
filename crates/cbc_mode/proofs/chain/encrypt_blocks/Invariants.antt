-- the blocks before the place are done, and the rest goes on after the last of them
use Rattle.std.proofs.Common.{◌≡◌, ◌*◌, ◌++◌, take, drop}
use Rattle.cbc_mode.specs.Cbc.{ciphertext}
use Rattle.cbc_mode.proofs.chain.encrypt_blocks.Given as goal

abbrev pub invariant-loop-i : goal.invariant-loop-i
invariant-loop-i g l =
    ciphertext (g.B.BlockCipher.cipher l.fn.cipher) l.fn.iv l.fn.bytes
    ≡ take (16 * l.i) l.bytes ++ ciphertext (g.B.BlockCipher.cipher l.fn.cipher) l.before (drop (16 * l.i) l.bytes)
