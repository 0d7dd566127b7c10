use Rattle.std.proofs.Common.{◌≡◌, ◌+◌, All, length}
use Rattle.std.specs.Arc.{arc_value}
use Rattle.swap_cell.specs.Cells.{setter_cell}
use Rattle.flight_turn.specs.Seats.{IsSeatOf, AreNew}
use Rattle.dp_node.specs.NodeOpening.{IsEndOf, AreOpened}
use Rattle.dp_node.proofs.node.seat_all.Given as goal

-- a pass for each seat that is gone
abbrev pub invariant-loop-seat : goal.invariant-loop-seat
invariant-loop-seat l =
    (length l.viewers.items ≡ length l.seats.items) × All (IsEndOf (arc_value l.turn) l.ring) l.viewers.items
    × All (IsSeatOf setter_cell (arc_value l.turn)) l.seats.items × AreNew l.seats.items
    × (length l.passes.items + length l.seats.items ≡ length l.fn.seats.items)
    × AreOpened l.facts l.ring (length l.fn.seats.items) l.passes.items

abbrev pub decreases-loop-seat : goal.decreases-loop-seat
decreases-loop-seat l = length l.seats.items
