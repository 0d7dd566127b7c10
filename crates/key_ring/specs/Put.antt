-- A record put among the records of other keys.
use Rattle.std.specs.Prelude.{List, [], ◌∷◌, if◌then◌else◌}
use Rattle.key_elements.specs.declared.element.KeyRecord.{KeyRecord}
use Rattle.key_ring.specs.Keys.{same_key}

-- in the place of the first record of its key, or at the end where there is none
abbrev pub put_record : KeyRecord → List KeyRecord → List KeyRecord
put_record k [] = k ∷ []
put_record k (j ∷ js) = if same_key j k then k ∷ js else j ∷ put_record k js
