use Rattle.std.proofs.Common.{◌-◌, ◌∙◌, sym, arith}
use Rattle.dp_wire.proofs.Chains.{purposes_more}
use Rattle.dp_wire.proofs.reading.purposes_at.Goals as goal

pub loop-left-preserved : goal.loop-left-preserved
loop-left-preserved c =
    sym (purposes_more c.args.len c.loop-left.room c.loop-left.left (c.loop-left.left - 1) c.loop-left.after.now c.in_ok-purpose.purpose.now c.in_ok-purpose.rest.now (omega arith) c.in_ok-purpose.ensures.told) ∙ c.loop-left.invariant
