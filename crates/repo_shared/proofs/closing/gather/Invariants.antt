use Rattle.std.proofs.Common.{◌≡◌, length}
use Rattle.repo_shared.specs.Rule.{StartsWith}
use Rattle.repo_shared.specs.Seats.{IsFree}
use Rattle.repo_shared.specs.Closes.{AreGathered}
use Rattle.repo_shared.proofs.closing.gather.Given as goal

-- the links behind those that are left are gathered
abbrev pub invariant-loop-link : goal.invariant-loop-link
invariant-loop-link g l =
    (l.seat.table_id ≡ l.initial.seat.table_id) × IsFree l.seat × StartsWith l.initial.links.items l.links.items × AreGathered (length l.links.items) l.seat.me.0.list l.initial.links.items

abbrev pub decreases-loop-link : goal.decreases-loop-link
decreases-loop-link g l = length l.links.items
