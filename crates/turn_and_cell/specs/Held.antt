-- What holds of the two ends while one caller holds the turn.
use Rattle.std.specs.Prelude.{◌≡◌, Contains}
use Rattle.swap_cell.specs.declared.handles.Setter.{Setter}
use Rattle.swap_cell.specs.declared.handles.Viewer.{Viewer}
use Rattle.swap_cell.specs.Cells.{setter_cell, viewer_cell, last_set, known}

-- the setter is of the viewer's cell, and the viewer knows the value that it set last
abbrev pub IsHeldBy : {T : Type 0} → Viewer T → Setter T → Type 0
IsHeldBy v s = (setter_cell s ≡ viewer_cell v) × Contains (known v) (last_set s)
