-- what is left gives what the whole gives
use Rattle.std.proofs.Common.{◌≡◌}
use Rattle.dp_wire.proofs.Chains.{behind}
use Rattle.dp_wire.specs.declared.chain.TheConstants.{MAX_WIRE_CHAIN}
use Rattle.dp_wire.specs.Reading.{purposes_at}
use Rattle.dp_wire.proofs.reading.purposes_at.Given as goal

abbrev pub invariant-loop-left : goal.invariant-loop-left
invariant-loop-left l =
    behind (purposes_at l.len l.room l.left l.after) ≡ behind (purposes_at l.len MAX_WIRE_CHAIN l.count l.fn.rest)

abbrev pub decreases-loop-left : goal.decreases-loop-left
decreases-loop-left l = l.left
