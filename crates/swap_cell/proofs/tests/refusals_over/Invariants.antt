use Rattle.std.proofs.Common.{◌<◌}
use Rattle.swap_cell.specs.Cells.{last_set}
use Rattle.swap_cell.proofs.tests.refusals_over.Given as goal

-- the level that was set last is lower
abbrev pub invariant-loop-metres : goal.invariant-loop-metres
invariant-loop-metres g l = (last_set l.setter).metres < l.metres
