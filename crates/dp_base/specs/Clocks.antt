-- The moments that a clock shows, where they are told.
use Rattle.std.specs.Prelude.{◌≡◌, ℕ, List, [], ◌∷◌, Option, Some, None}

-- the next moment; a clock of no moments shows 0
abbrev pub next_moment : List ℕ → ℕ
next_moment [] = 0
next_moment (t ∷ ts) = t

-- the moments after it; the last one stays
abbrev pub later_moments : List ℕ → List ℕ
later_moments [] = []
later_moments (t ∷ []) = t ∷ []
later_moments (t ∷ u ∷ ts) = u ∷ ts

-- the clock showed this moment
abbrev pub ShowsMoment : Option (List ℕ) → Option (List ℕ) → ℕ → Type 0
ShowsMoment None after moment = after ≡ None
ShowsMoment (Some moments) after moment =
    (moment ≡ next_moment moments) × (after ≡ Some (later_moments moments))
