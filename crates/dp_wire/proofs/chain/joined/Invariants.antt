-- the chain so far and the purposes left are the whole
use Rattle.std.proofs.Common.{◌≡◌, ◌∷◌, ◌++◌}
use Rattle.dp_wire.specs.Purposes.{purposes_left}
use Rattle.dp_wire.proofs.chain.joined.Given as goal

abbrev pub invariant-loop-purpose : goal.invariant-loop-purpose
invariant-loop-purpose l = l.chain ++ purposes_left l.purpose-iterator ≡ l.fn.first ∷ purposes_left l.fn.others
