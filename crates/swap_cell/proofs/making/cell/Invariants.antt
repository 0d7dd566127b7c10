use Rattle.std.proofs.Common.{◌≡◌, ◌*◌, ◌∷◌, [], All, length}
use Rattle.swap_cell.specs.Cells.{HaveSlots, setter_cell, viewer_cell, last_set, set_before, known}
use Rattle.swap_cell.proofs.making.cell.Given as goal

-- as many viewers as the loop has counted, each of the setter's cell with its own slot
abbrev pub invariant-loop-index : goal.invariant-loop-index
invariant-loop-index g l =
    (setter_cell l.setter ≡ setter_cell l.initial.setter) × (last_set l.setter ≡ l.fn.first) × (set_before l.setter ≡ l.fn.first ∷ [])
    × (l.initial.setter.place.table_id.slots ≡ 2 * l.count) × (length l.ends.items ≡ l.index)
    × All (λ v. (viewer_cell v ≡ setter_cell l.initial.setter) × (known v ≡ l.fn.first ∷ [])) l.ends.items × HaveSlots l.ends.items
