-- What a call that appends an element is asked, in the terms of the paths.
use Rattle.std.specs.Prelude.{◌≡◌, ℕ, Bool, List, [], ◌∷◌, ◌++◌, Option, Result, Ok, Err}
use Rattle.dp_base.specs.declared.key_id.KeyId.{KeyId}
use Rattle.key_elements.specs.declared.element.Element.{Element}
use Rattle.key_elements.specs.declared.element.Element.TheVariants.{Key}
use Rattle.key_elements.specs.declared.element.KeyRecord.{KeyRecord}
use Rattle.ring_world.specs.Flight.{Refusal}
use Rattle.ring_world.specs.Placing.{Asked}
use Rattle.node_calls.specs.declared.error.NodeError.{NodeError}
use Rattle.node_calls.specs.declared.place.Placed.{Placed}
use Rattle.node_calls.specs.Gather.{refusal}

abbrev pub asked : List Element → Bool → (List ℕ → Element) → Option (List Element) → Asked
asked own draws element told = record { own = own; draws = draws; element = element; told = told }

-- the place in an answer
abbrev pub placed : Result Placed NodeError → Result ℕ Refusal
placed (Ok p) = Ok p.place
placed (Err why) = Err (refusal why)

-- the id of the element, where that is a key
abbrev pub IsIdOf : KeyId → Element → Type 0
IsIdOf id e = (k : KeyRecord) → e ≡ Key k → id ≡ k.id

-- the list ends with a key of the id
abbrev pub EndsWithKey : KeyId → List Element → Type 0
EndsWithKey id es = (others : List Element) × (k : KeyRecord) × (es ≡ others ++ Key k ∷ []) × (id ≡ k.id)
