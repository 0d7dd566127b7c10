use Rattle.std.proofs.Common.{◌≡◌}
use Rattle.swap_cell.specs.Cells.{viewer_cell}
use Rattle.swap_cell.proofs.tests.refusals.Given as goal

-- the viewer stays one of its cell
abbrev pub invariant-loop : goal.invariant-loop
invariant-loop l = viewer_cell l.viewer ≡ viewer_cell l.fn.viewer
