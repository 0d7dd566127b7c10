use Rattle.std.proofs.Common.{◌≡◌}
use Rattle.swap_cell.proofs.setting.lock.Given as goal

-- nothing is taken so far
abbrev pub invariant-loop : goal.invariant-loop
invariant-loop g l = (l.place.table_id ≡ l.fn.place.table_id) × (l.place.me ≡ l.fn.place.me)
