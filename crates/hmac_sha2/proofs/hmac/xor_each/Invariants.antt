-- the bytes before the index are done
use Rattle.std.proofs.Common.{◌≡◌, ◌++◌, take, drop}
use Rattle.hmac_sha2.specs.Hmac.{xor_pad}
use Rattle.hmac_sha2.proofs.hmac.xor_each.Given as goal

abbrev pub invariant-loop-byte : goal.invariant-loop-byte
invariant-loop-byte l =
    l.bytes ≡ xor_pad (take l.byte-index l.fn.bytes) l.pad ++ drop l.byte-index l.fn.bytes
