-- What each kind of step on the table of a shared repository tells its seat. A step is made by a
-- seat m, which is m' afterwards; n is the number that it found, or that it stored.
use Rattle.std.specs.Prelude.{◌≡◌, ◌≢◌, ℕ, ◌+◌, ◌-◌, true, false, ltb, cond, length, take, drop, List, [], ◌∷◌, ◌++◌, Option, Some, None}
use Rattle.atomic_table.specs.Table.{Me, Step, rest}
use Rattle.key_elements.specs.declared.element.Element.{Element}
use Rattle.repo_shared.specs.declared.shelf.Shelf.{Shelf}
use Rattle.repo_shared.specs.declared.board.Entry.{Entry}
use Rattle.repo_shared.specs.declared.board.Knowledge.{Knowledge}
use Rattle.repo_shared.specs.Rule.{Each, StartsWith, elements, authored, newcomer}

-- the list on the shelf that the seat has in its slot
abbrev pub lying : {K : Type 0} → List (ℕ × Option (Shelf K)) → List Element
lying [] = []
lying ((k, None) ∷ rest) = []
lying ((k, Some shelf) ∷ rest) = shelf.list

-- the last is of the author, and those before it are of nobody
abbrev pub last_authored : ℕ → List Element → List Entry
last_authored n es = authored 0 (take (length es - 1) es) ++ authored n (drop (length es - 1) es)

-- what a list gains that has become a longer one
abbrev pub gained : List Entry → List Element → List Element
gained list longer = drop (length list) longer

-- the seat knows the longer list
abbrev pub knows : List Entry → Knowledge → Knowledge
knows list v = record v { list = list }

abbrev Sat : Type 0 → Type 0
Sat K = Me (Option (Shelf K)) Knowledge

module _ {K : Type 0} where
  -- the lock goes from 0 to 1: the seat has the shelf and knows the history, which begins with what
  -- it knew; or the lock is found taken
  abbrev pub locked : Step (Option (Shelf K)) → Sat K → ℕ → Sat K → Type 0
  locked st m n m' =
      (n ≡ 0 → (shelf : Shelf K) × (history : List Entry) × (m' ≡ (record m.0 { list = history; locks = true }, (0, Some shelf) ∷ m.1))
      × StartsWith history m.0.list × (shelf.list ≡ elements history))
      × (n ≢ 0 → m' ≡ m)

  -- the history is that of the shelf, whose new elements are of nobody
  abbrev pub grown : Step (Option (Shelf K)) → Sat K → ℕ → Sat K → Type 0
  grown st m n m' = m' ≡ (knows (m.0.list ++ authored 0 (gained m.0.list (lying m.1))) m.0, m.1)

  -- the same, but the last of the new elements is of the seat's link, and its place is noted
  abbrev pub appended : Step (Option (Shelf K)) → Sat K → ℕ → Sat K → Type 0
  appended st m n m' = m' ≡ (record m.0 { list = m.0.list ++ last_authored m.0.number (gained m.0.list (lying m.1)); mine = m.0.mine ++ (length (lying m.1) - 1) ∷ [] }, m.1)

  -- the count is recorded; where the seat has the lock it is the length of the history. What others
  -- told are fronts of what the seat knows
  abbrev pub counted : Step (Option (Shelf K)) → Sat K → ℕ → Sat K → Type 0
  counted st m n m' =
      (m' ≡ (record m.0 { loads = m.0.loads + 1; found = n; told = [] }, m.1)) × (m.0.locks ≡ true → n ≡ length m.0.list) × Each (StartsWith m.0.list) m.0.told

  -- the lock is 0 again, and the shelf at home
  abbrev pub unlocked : Step (Option (Shelf K)) → Sat K → ℕ → Sat K → Type 0
  unlocked st m n m' = m' ≡ (record m.0 { locks = false }, rest m.1)

-- a seat that makes those of links makes the next one
abbrev pub counts_on : Knowledge → Knowledge
counts_on v = record v { next = v.next + 1 }

abbrev pub made : Knowledge → Knowledge
made v = newcomer v.next v.list

-- a seat that knows as much, and is of no link
abbrev pub teller : Knowledge → Knowledge
teller v = newcomer 0 v.list

-- the longer of two lists, the first where they are as long
abbrev pub longer : List Entry → List Entry → List Entry
longer v w = cond (ltb (length v) (length w)) w v

-- what a seat knows when it has learnt what another knew
abbrev pub learnt : Knowledge → Knowledge → Knowledge
learnt v w = record v { list = longer v.list w.list; told = v.list ∷ w.list ∷ w.told ++ v.told }

abbrev pub spent : Knowledge
spent = newcomer 0 []
