use Rattle.std.proofs.Common.{◌≡◌}
use Rattle.repo_shared.proofs.locking.lock.Given as goal

-- nothing is taken so far
abbrev pub invariant-loop : goal.invariant-loop
invariant-loop g l = (l.seat.table_id ≡ l.fn.seat.table_id) × (l.seat.me ≡ l.fn.seat.me)
