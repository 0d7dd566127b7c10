use Rattle.swap_cell.specs.Steps.{StaysSeated}
use Rattle.swap_cell.proofs.setting.wait_for_flag.Given as goal

-- nothing is told so far
abbrev pub invariant-loop : goal.invariant-loop
invariant-loop g l = StaysSeated l.fn.place l.place
