-- Lists of elements that are shared, and how one grows out of another.
use Rattle.std.specs.Prelude.{◌≡◌, ◌≢◌, ℕ, ◌<◌, List, [], length, map, take, slice_get, Option, Some, None}
use Rattle.std.specs.declared.vec.Vec.{Vec}
use Rattle.std.specs.declared.sync.Arc.{Arc}
use Rattle.std.specs.declared.alloc.Global.{Global}
use Rattle.std.specs.Arc.{arc_value}
use Rattle.key_elements.specs.declared.element.Element.{Element}

-- the elements behind the pointers
abbrev pub elements_of : Option (Arc (Vec (Arc Element Global) Global) Global) → List Element
elements_of None = []
elements_of (Some items) = map arc_value (arc_value items).items

-- the second list is a front of the first
abbrev pub Extends : List Element → List Element → Type 0
Extends grown from = take (length from) grown ≡ from

-- the lists are the same as far as both reach: one extends the other
abbrev pub Agree : List Element → List Element → Type 0
Agree a b = take (length b) a ≡ take (length a) b

-- the lists differ at a place below both lengths, and at no lower one
pub record IsFirstDifference (a b : List Element) (place : ℕ) : Type 0 where
  pub in_first : place < length a
  pub in_second : place < length b
  pub differs : slice_get a place ≢ slice_get b place
  pub agrees : take place a ≡ take place b
