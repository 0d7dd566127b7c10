-- nothing was read, and no fault counted, before the loop ends
use Rattle.std.proofs.Common.{◌≡◌}
use Rattle.std.specs.Io.KnownBytes.{Keeps}
use Rattle.dp_base.proofs.standard_streams.ReadSourceSource.read.Given as goal

abbrev pub invariant-loop : goal.invariant-loop
invariant-loop g l = Keeps (g.R.Read.remaining l.fn.self.reader) (g.R.Read.remaining l.self.reader) × (l.self.faults ≡ l.fn.self.faults)
