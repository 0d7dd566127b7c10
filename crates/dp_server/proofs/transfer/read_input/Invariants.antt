-- the bytes so far went from the front of the input
use Rattle.std.proofs.Common.{◌≡◌, ◌≤◌, ◌+◌, ◌-◌, length}
use Rattle.std.specs.Io.KnownBytes.{Consumes}
use Rattle.dp_server.specs.declared.transfer.TheConstants.{MAX_INPUT, PIECE}
use Rattle.dp_server.proofs.transfer.read_input.Given as goal

abbrev pub invariant-loop-buffer : goal.invariant-loop-buffer
invariant-loop-buffer g l = record {
  within : length l.bytes.items ≤ MAX_INPUT + 1;
  room : length l.buffer ≡ PIECE;
  read : Consumes (g.I.Source.left l.fn.input) (g.I.Source.left l.input) l.bytes.items;
  no_fault : g.I.Source.faults l.input ≡ g.I.Source.faults l.fn.input;
}

abbrev pub decreases-loop-buffer : goal.decreases-loop-buffer
decreases-loop-buffer g l = MAX_INPUT + 1 - length l.bytes.items
