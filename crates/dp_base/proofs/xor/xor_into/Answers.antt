use Rattle.std.proofs.Common.{◌<◌, length, arith, add-one}
use Rattle.dp_base.proofs.Sums.{xor_bytes-more}
use Rattle.dp_base.proofs.xor.xor_into.Goals as goal

pub loop-i-preserved : goal.loop-i-preserved
loop-i-preserved c =
    let bytes = c.args.bytes.now in
    let other = c.args.other.now in
    let within : c.loop-i.i < length bytes = omega arith in
    let over : c.loop-i.i < length other = omega arith in
    rw (c.loop-i.invariant, add-one) (xor_bytes-more bytes other c.loop-i.i within over)
