use Rattle.std.proofs.Common.{◌≡◌, ◌≤◌, All, length}
use Rattle.swap_cell.specs.Steps.{IsHanding}
use Rattle.swap_cell.proofs.setting.hand_all.Given as goal

-- what was handed on so far
abbrev pub invariant-loop-one : goal.invariant-loop-one
invariant-loop-one g l = IsHanding l.initial.place l.place × (length l.room.items ≤ l.place.table_id.slots) × All (λ x. x ≡ l.item) l.room.items

abbrev pub decreases-loop-one : goal.decreases-loop-one
decreases-loop-one g l = length l.room.items
