-- the bytes before the place are done
use Rattle.std.proofs.Common.{◌≡◌, ◌++◌, take, drop}
use Rattle.dp_base.specs.Blocks.{xor_bytes}
use Rattle.dp_base.proofs.xor.xor_into.Given as goal

abbrev pub invariant-loop-i : goal.invariant-loop-i
invariant-loop-i l = l.bytes ≡ xor_bytes (take l.i l.fn.bytes) l.other ++ drop l.i l.fn.bytes
