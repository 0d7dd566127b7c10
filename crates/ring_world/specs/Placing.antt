-- The lawful paths of a call that appends an element to what a pass has seen: a new key of bytes
-- drawn, or a revocation. Places count from 0.
use Rattle.std.specs.Prelude.{◌≡◌, ℕ, ◌-◌, Bool, true, false, List, [], ◌∷◌, ◌++◌, length, Option, Result, Ok, Err}
use Rattle.key_elements.specs.declared.element.Element.{Element}
use Rattle.key_elements.specs.declared.list.TheConstants.{MAX_ELEMENTS}
use Rattle.ring_world.specs.declared.step.Step.{Step}
use Rattle.ring_world.specs.declared.step.Step.TheVariants.{WentBack, Drawn, DrawFailed, Appended, AppendFull, AppendFailed, RaiseWant, Answer}
use Rattle.ring_world.specs.Course.{Course, idle, IsFront}
use Rattle.ring_world.specs.Lists.{IsReadFrom, FindsFewer, IsFilled, IsGrown}
use Rattle.ring_world.specs.Flight.{Refusal, StoreFault, DrawFault, Shorter, Full, Memory}

-- what a call is to append, for a pass that has seen a list
pub record Asked : Type 0 where
  pub own : List Element
  -- whether eighty bytes are drawn for it
  pub draws : Bool
  pub element : List ℕ → Element
  -- the list that the repository holds at the end of the call, where it is told
  pub told : Option (List Element)

-- the element is placed, at the end of the new list; the draw fails; the append fails, finds the
-- repository full, or finds fewer elements than were seen
pub data Placing : Type 0 where
  Placed : List ℕ → List Element → Placing
  Undrawn : Placing
  Unplaced : List ℕ → Placing
  Overfull : List ℕ → Placing
  Receded : List ℕ → ℕ → Placing

abbrev pub draw_steps : Bool → List Step
draw_steps true = Drawn 80 ∷ []
draw_steps false = []

-- the steps, without those that follow the append
abbrev pub place_course : Asked → Placing → Course
place_course a (Placed b fs) =
    record idle { steps = draw_steps a.draws ++ Appended (length fs - 1) ∷ []; drawn = b }
place_course a Undrawn = record idle { steps = DrawFailed ∷ [] }
place_course a (Unplaced b) = record idle { steps = draw_steps a.draws ++ AppendFailed ∷ []; drawn = b }
place_course a (Overfull b) = record idle { steps = draw_steps a.draws ++ AppendFull ∷ []; drawn = b }
place_course a (Receded b got) =
    record idle { steps = draw_steps a.draws ++ WentBack (length a.own) got ∷ []; drawn = b }

-- the new list, or the refusal
abbrev pub place_end : Asked → Placing → Result (List Element) Refusal
place_end a (Placed b fs) = Ok fs
place_end a Undrawn = Err DrawFault
place_end a (Unplaced b) = Err StoreFault
place_end a (Overfull b) = Err (Full MAX_ELEMENTS)
place_end a (Receded b got) = Err (Shorter (length a.own) got)

abbrev pub IsDraw : Bool → List ℕ → Type 0
IsDraw true b = length b ≡ 80
IsDraw false b = b ≡ []

abbrev pub IsPlacing : Asked → Placing → Type 0
IsPlacing a (Placed b fs) =
    IsDraw a.draws b × IsGrown a.own (a.element b) fs × IsReadFrom a.told a.own fs
IsPlacing a Undrawn = a.draws ≡ true
IsPlacing a (Unplaced b) = IsDraw a.draws b
IsPlacing a (Overfull b) = IsDraw a.draws b × IsFilled a.told
IsPlacing a (Receded b got) = IsDraw a.draws b × FindsFewer a.told (length a.own) got

-- after an append the want number is raised to the length of the list, and the call is answered
abbrev pub placed_steps : Result (List Element) Refusal → List Step
placed_steps (Ok fs) = RaiseWant (length fs) ∷ Answer ∷ []
placed_steps (Err why) = []

-- the place of the element
abbrev pub place_of : Result (List Element) Refusal → Result ℕ Refusal
place_of (Ok fs) = Ok (length fs - 1)
place_of (Err why) = Err why

abbrev pub own_placed : List Element → Result (List Element) Refusal → List Element
own_placed own (Ok fs) = fs
own_placed own (Err why) = own

-- the steps of a call are those of a lawful path, and the place and the list seen afterwards are
-- those to which it comes; or, for want of memory, it was cut off
pub data PlacePath (a : Asked) (result : Result ℕ Refusal) (own : List Element) (d : Course) : Type 0 where
  complete : (p : Placing) → IsPlacing a p → place_of (place_end a p) ≡ result → own ≡ own_placed a.own (place_end a p) → (let e = place_course a p in d ≡ record e { steps = e.steps ++ placed_steps (place_end a p) }) → PlacePath a result own d
  cut_off : (p : Placing) → IsPlacing a p → result ≡ Err Memory → own ≡ a.own → IsFront d (place_course a p) → PlacePath a result own d
