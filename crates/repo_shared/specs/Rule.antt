-- The rule of a shared repository. There is one history. Each seat knows a front of it, and the seat
-- that has the lock knows it whole. The shelf at home is that of the history.
use Rattle.std.specs.Prelude.{◌≡◌, ℕ, ◌≤◌, true, false, List, [], ◌∷◌, length, map, take, Option, Some}
use mathlib.Core.Option.{some}
use mathlib.Core.Option as maybe
use lib.ListN.{get_elem?}
use Rattle.atomic_table.specs.Table.{State}
use Rattle.key_elements.specs.declared.element.Element.{Element}
use Rattle.key_elements.specs.declared.list.TheConstants.{MAX_ELEMENTS}
use Rattle.repo_shared.specs.declared.shelf.Shelf.{Shelf}
use Rattle.repo_shared.specs.declared.board.Entry.{Entry}
use Rattle.repo_shared.specs.declared.board.Knowledge.{Knowledge}

-- P holds of each
abbrev pub Each : {A : Type 0} → (A → Type 0) → List A → Type 0
Each P [] = Unit {0}
Each P (x ∷ xs) = P x × Each P xs

-- the second list is a front of the first
abbrev pub StartsWith : {A : Type 0} → List A → List A → Type 0
StartsWith grown front = take (length front) grown ≡ front

abbrev pub element_of : Entry → Element
element_of x = x.element

-- a history without its authors
abbrev pub elements : List Entry → List Element
elements = map element_of

-- elements of one author
abbrev pub authored : ℕ → List Element → List Entry
authored n = map (λ e. record { element = e; author = n })

abbrev pub seated : List Knowledge → ℕ → Knowledge → Type 0
seated views i v = get_elem? views i ≡ some v

-- what one seat knows is so
pub record Fits (history : List Entry) (lock : ℕ) (v : Knowledge) : Type 0 where
  pub front : StartsWith history v.list
  pub told : Each (StartsWith v.list) v.told
  pub locks : v.locks ≡ true → (lock ≡ 1) × (v.list ≡ history)

module _ {K : Type 0} where
  -- the shelf of the history is at home while nobody has the lock
  abbrev pub Lies : List Entry → ℕ → maybe.Option (Option (Shelf K)) → Type 0
  Lies history lock home = lock ≡ 0 → (shelf : Shelf K) × (home ≡ some (Some shelf)) × (shelf.list ≡ elements history)

  -- at i v: the seat i has the view v. One seat at most has the lock
  pub record Rules (history : List Entry) (lock : ℕ) (home : maybe.Option (Option (Shelf K))) (at : ℕ → Knowledge → Type 0) : Type 0 where
    pub few : length history ≤ MAX_ELEMENTS
    pub lies : Lies history lock home
    pub each : (i : ℕ) (v : Knowledge) → at i v → Fits history lock v
    pub one : (i j : ℕ) (v w : Knowledge) → at i v → at j w → v.locks ≡ true → w.locks ≡ true → i ≡ j

  abbrev pub Kept : State (Option (Shelf K)) Knowledge → Type 0
  Kept s =
      (lock : ℕ) × (history : List Entry) × (home : maybe.Option (Option (Shelf K))) × (s.words ≡ lock ∷ length history ∷ []) × (s.homes ≡ home ∷ [])
      × Rules history lock home (seated s.views)

-- a seat of the link with this number that knows so much
abbrev pub newcomer : ℕ → List Entry → Knowledge
newcomer number list = record { list = list; told = []; number = number; next = 0; mine = []; locks = false; loads = 0; found = 0 }

-- the seat that makes those of the links
abbrev pub opener : Knowledge
opener = record (newcomer 0 []) { next = 1 }
