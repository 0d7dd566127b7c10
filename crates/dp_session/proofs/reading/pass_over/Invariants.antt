-- so many bytes were taken from the front
use Rattle.std.proofs.Common.{◌≡◌, ◌≤◌, ◌-◌, ℕ, List, length}
use Rattle.std.specs.Io.KnownBytes.{Consumes}
use Rattle.dp_session.specs.declared.reading.TheConstants.{PIECE}
use Rattle.dp_session.proofs.reading.pass_over.Given as goal

abbrev pub invariant-loop-done : goal.invariant-loop-done
invariant-loop-done g l = record {
  within : l.done ≤ l.count;
  room : length l.piece ≡ PIECE;
  read : (bytes : List ℕ) × (length bytes ≡ l.done) × Consumes (g.I.Source.left l.fn.input) (g.I.Source.left l.input) bytes;
  no_fault : g.I.Source.faults l.input ≡ g.I.Source.faults l.fn.input;
}

abbrev pub decreases-loop-done : goal.decreases-loop-done
decreases-loop-done g l = l.count - l.done
