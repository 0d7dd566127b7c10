-- What a run of show says: from the bytes that come in to the bytes that go out.
use Rattle.std.specs.Prelude.{◌≡◌, ℕ, ◌+◌, min, List, [], drop, Option, Some, IfSome}
use Rattle.dp_base.specs.declared.ticks.TheConstants.{LAST}
use Rattle.key_elements.specs.declared.element.Element.{Element}
use Rattle.key_elements.specs.Record.{IsList}
use Rattle.key_ring.specs.Listing.{listing}
use Rattle.dp_server.specs.declared.transfer.TheConstants.{MAX_INPUT}

-- the bytes are a list of elements
abbrev pub IsListed : List ℕ → Type 0
IsListed bytes = (list : List Element) × IsList bytes list

-- the input, where it is told, is this list, and was read to its end
abbrev pub IsWhole : Option (List ℕ) → Option (List ℕ) → List Element → Type 0
IsWhole left after list = IfSome left (λ bytes. IsList bytes list × (after ≡ Some []))

-- the input, where it is told, is no list, and was read to its end or to the limit
abbrev pub IsRefused : Option (List ℕ) → Option (List ℕ) → Type 0
IsRefused left after =
    IfSome left (λ bytes. (IsListed bytes → ⊥) × (after ≡ Some (drop (MAX_INPUT + 1) bytes)))

-- the whole input is a list, of which the listing at the moment is written; the last moment stands
-- for each that is later
pub record Shows (moment : ℕ) (left after : Option (List ℕ)) (writes : List ℕ → Type 0) : Type 0 where
  pub list : List Element
  pub input : IsWhole left after list
  pub output : writes (listing list (min moment LAST))
