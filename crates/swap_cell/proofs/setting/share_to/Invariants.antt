use Rattle.std.proofs.Common.{◌≡◌, ◌*◌, All, length}
use Rattle.swap_cell.proofs.setting.share_to.Given as goal

-- two shares for each viewer that the loop has counted
abbrev pub invariant-loop : goal.invariant-loop
invariant-loop g l = (length l.room.items ≡ 2 * l.counter) × All (λ x. x ≡ l.item) l.room.items
