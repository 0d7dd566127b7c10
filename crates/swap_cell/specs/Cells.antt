-- What clauses read of the ends of a cell.
use Rattle.std.specs.Prelude.{◌≡◌, ℕ, ◌*◌, ◌<◌, List, ◌∷◌, ◌++◌, length, map, slice_index_or}
use Rattle.atomic_table.specs.Seated.{TableId}
use Rattle.swap_cell.specs.declared.board.Item.{Item}
use Rattle.swap_cell.specs.declared.handles.Setter.{Setter}
use Rattle.swap_cell.specs.declared.handles.Viewer.{Viewer}
use Rattle.swap_cell.specs.declared.handles.Told.{Told}
use Rattle.swap_cell.specs.Rule.{Each}

module _ {T : Type 0} where
  abbrev pub value_of : Item T → T
  value_of x = x.value

  -- which cell an end is of
  abbrev pub setter_cell : Setter T → TableId
  setter_cell s = s.place.table_id

  abbrev pub viewer_cell : Viewer T → TableId
  viewer_cell v = v.place.table_id

  -- the number of the first of a viewer's two slots
  abbrev pub viewer_slot : Viewer T → ℕ
  viewer_slot v = v.index

  abbrev pub told_cell : Told T → TableId
  told_cell t = t.place.table_id

  -- the value that was set last
  abbrev pub last_set : Setter T → T
  last_set s = s.last.value

  -- all that was set, the last first
  abbrev pub set_before : Setter T → List T
  set_before s = map value_of s.place.me.0.known

  -- all that a viewer looked at or learnt
  abbrev pub known : Viewer T → List T
  known v = map value_of v.place.me.0.known

  -- all that a telling tells
  abbrev pub told_values : Told T → List T
  told_values t = map value_of t.place.me.0.known

  -- the value was set behind all that was
  abbrev pub HasSet : Setter T → Setter T → T → Type 0
  HasSet s t value = (last_set t ≡ value) × (set_before t ≡ value ∷ set_before s)

  -- nothing was set
  abbrev pub StaysSet : Setter T → Setter T → Type 0
  StaysSet s t = (last_set t ≡ last_set s) × (set_before t ≡ set_before s)

  -- the viewer is of the setter's cell, and knows all that was set
  abbrev pub Follows : Setter T → Viewer T → Type 0
  Follows s v = (viewer_cell v ≡ setter_cell s) × (known v ≡ set_before s)

  -- each viewer has two slots of its own: the first the slots 0 and 1, and so on
  abbrev pub HaveSlots : List (Viewer T) → Type 0
  HaveSlots viewers = (i : ℕ) (d : Viewer T) → i < length viewers → viewer_slot (slice_index_or viewers i d) ≡ 2 * i

  -- the value extends all that the viewer knew, and is known now
  abbrev pub HasLooked : (T → T → Type 0) → Viewer T → Viewer T → T → Type 0
  HasLooked extends v w x = Each (extends x) (known v) × (known w ≡ x ∷ known v)

  -- the viewer knows what was told beside what it knew
  abbrev pub HasLearnt : Told T → Viewer T → Viewer T → Type 0
  HasLearnt t v w = known w ≡ told_values t ++ known v
