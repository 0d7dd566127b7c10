-- The rule of a turn. Its table has two words, the turn and the want, and one slot.
use Rattle.std.specs.Prelude.{◌≡◌, ◌≢◌, ◌⊎◌, ℕ, ◌<◌, ◌≤◌, true, false, List, [], ◌∷◌, Option, Some, None}
use mathlib.Core.Option.{some, none}
use mathlib.Core.Option as maybe
use lib.ListN.{get_elem?}
use Rattle.atomic_table.specs.Table.{State}
use Rattle.flight_turn.specs.declared.rule.Stand.{Stand}

-- the seat i has the view v
abbrev pub seated : {F : Type 0} → List (Stand F) → ℕ → Stand F → Type 0
seated views i v = get_elem? views i ≡ some v

module _ {F M : Type 0} (mark : F → M) where
  -- the slot is at home exactly where nobody holds the turn, and then it has a flight of the mark
  abbrev pub Lies : M → ℕ → maybe.Option (Option F) → Type 0
  Lies m turn home = (turn ≡ 0 → (f : F) × (home ≡ some (Some f)) × (mark f ≡ m)) × (turn ≢ 0 → home ≡ none)

  -- what one seat knows is so: it holds exactly where the turn names it, no recorded want is above
  -- the word, and a seat with no number has raised nothing
  pub record Fits (m : M) (seats turn want : ℕ) (v : Stand F) : Type 0 where
    pub numbered : v.number ≤ seats
    pub named : v.holds ≡ true → (0 < v.number) × (turn ≡ v.number)
    pub holder : 0 < v.number → turn ≡ v.number → v.holds ≡ true
    pub counted : 0 < v.number → v.seats ≡ seats
    pub below : v.want ≤ want
    pub under : v.raised_to ≤ v.want
    pub unraised : v.number ≡ 0 → v.raised_to ≡ 0
    pub alike : (f : F) → v.like ≡ Some f → mark f ≡ m

  -- the want is 0, or a number to which some seat raised it
  abbrev pub IsRaised : ℕ → (ℕ → Stand F → Type 0) → Type 0
  IsRaised want at = (want ≡ 0) ⊎ ((i : ℕ) × (v : Stand F) × at i v × (v.raised_to ≡ want))

  -- at i v: the seat i has the view v. Each seat that has a number has its own. One seat at most
  -- makes others, and no seat has the number that it gives next, nor does the turn name it
  pub record Rules (m : M) (seats turn want : ℕ) (home : maybe.Option (Option F)) (at : ℕ → Stand F → Type 0) : Type 0 where
    pub lies : Lies m turn home
    pub known : turn ≤ seats
    pub reached : IsRaised want at
    pub each : (i : ℕ) (v : Stand F) → at i v → Fits m seats turn want v
    pub own : (i j : ℕ) (v w : Stand F) → at i v → at j w → 0 < v.number → v.number ≡ w.number → i ≡ j
    pub makers : (i j : ℕ) (v w : Stand F) → at i v → at j w → 0 < v.next → 0 < w.next → i ≡ j
    pub unmade : (i j : ℕ) (v w : Stand F) → at i v → at j w → 0 < v.next → w.number < v.next
    pub unnamed : (i : ℕ) (v : Stand F) → at i v → 0 < v.next → turn < v.next

  abbrev pub Kept : F → ℕ → State (Option F) (Stand F) → Type 0
  Kept like seats s =
      (turn : ℕ) × (want : ℕ) × (home : maybe.Option (Option F)) × (s.words ≡ turn ∷ want ∷ []) × (s.homes ≡ home ∷ [])
      × Rules (mark like) seats turn want home (seated s.views)

module _ {F : Type 0} where
  -- a seat with this number, of so many, which makes none and has made no step
  abbrev pub newcomer : ℕ → ℕ → Option F → Stand F
  newcomer number seats like = record { number = number; next = 0; seats = seats; holds = false; steps = 0; read = 0; want = 0; raised_to = 0; left = None; like = like }

  -- the seat that makes the others, of which this is the next number
  abbrev pub maker_at : ℕ → ℕ → F → Stand F
  maker_at next seats like = record (newcomer 0 seats (Some like)) { next = next }

  abbrev pub maker : ℕ → F → Stand F
  maker = maker_at 1
