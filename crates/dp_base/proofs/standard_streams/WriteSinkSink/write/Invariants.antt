-- nothing was written, and no fault counted, before the loop ends
use Rattle.std.proofs.Common.{◌≡◌}
use Rattle.std.specs.Io.KnownBytes.{Keeps}
use Rattle.dp_base.proofs.standard_streams.WriteSinkSink.write.Given as goal

abbrev pub invariant-loop : goal.invariant-loop
invariant-loop g l = Keeps (g.W.Write.contents l.fn.self.writer) (g.W.Write.contents l.self.writer) × (l.self.faults ≡ l.fn.self.faults)
