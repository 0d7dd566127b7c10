-- What reads and appends give of a list that grows. Where a repository tells its list, told is that
-- list at the end of the call.
use Rattle.std.specs.Prelude.{◌≡◌, ◌<◌, ◌≤◌, nat_le, if◌then◌else◌, ℕ, List, [], ◌∷◌, ◌++◌, length, drop, take, Option, IfSome}
use Rattle.key_elements.specs.declared.element.Element.{Element}
use Rattle.key_elements.specs.declared.list.TheConstants.{MAX_ELEMENTS}
use Rattle.key_elements.specs.Lists.{Extends}

-- the longer of the two, of two as long the first
abbrev pub longer : List Element → List Element → List Element
longer own list = if nat_le (length list) (length own) then own else list

-- the list begins with the base, and its rest is what the repository holds from there on
abbrev pub IsReadFrom : Option (List Element) → List Element → List Element → Type 0
IsReadFrom told base es =
    Extends es base
    × IfSome told (λ list. (length base ≤ length list) × (drop (length base) es ≡ drop (length base) list))

-- the list begins with the base, and its rest is what the repository holds there up to its end
abbrev pub IsReadUpTo : Option (List Element) → List Element → List Element → Type 0
IsReadUpTo told base es =
    Extends es base
    × IfSome told (λ list. (length es ≤ length list) × (drop (length base) es ≡ drop (length base) (take (length es) list)))

-- the list has at least as many elements as the one that was told
abbrev pub Reaches : List Element → Option (List Element) → Type 0
Reaches es told = IfSome told (λ list. length list ≤ length es)

-- fewer elements stand than were known: so many
abbrev pub FindsFewer : Option (List Element) → ℕ → ℕ → Type 0
FindsFewer told had got = (got < had) × IfSome told (λ list. length list ≡ got)

-- as many elements stand as may
abbrev pub IsFilled : Option (List Element) → Type 0
IsFilled told = IfSome told (λ list. length list ≡ MAX_ELEMENTS)

-- the list that grew begins with the one from before, and ends with the element
abbrev pub IsGrown : List Element → Element → List Element → Type 0
IsGrown es e fs = (others : List Element) × (fs ≡ es ++ (others ++ e ∷ []))
