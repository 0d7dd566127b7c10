-- the lists before the place are fronts of the history
use Rattle.std.proofs.Common.{take}
use Rattle.dp_cluster.specs.Audit.{AreFronts}
use Rattle.dp_cluster.proofs.auditing.audit.Given as goal

abbrev pub invariant-loop-number : goal.invariant-loop-number
invariant-loop-number l = AreFronts l.history (take l.number l.traces)
