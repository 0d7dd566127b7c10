-- the pieces before the place are done, and the rest goes on with the next number
use Rattle.std.proofs.Common.{◌≡◌, ◌+◌, ◌*◌, ◌++◌, take, drop}
use Rattle.gcm_mode.specs.Ctr.{gctr, ctr}
use Rattle.gcm_mode.proofs.counter.encipher.Given as goal

abbrev pub invariant-loop-i : goal.invariant-loop-i
invariant-loop-i g l =
    ctr (g.B.BlockCipher.cipher l.fn.cipher) l.fn.nonce l.fn.bytes
    ≡ take (16 * l.i) l.bytes ++ gctr (g.B.BlockCipher.cipher l.fn.cipher) l.fn.nonce (2 + l.i) (drop (16 * l.i) l.bytes)
