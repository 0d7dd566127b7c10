-- A seat at the table of a shared repository, before and after the lock.
use Rattle.std.specs.Prelude.{◌≡◌, ℕ, ◌+◌, ◌-◌, ◌<◌, true, false, List, [], ◌∷◌, ◌++◌, length, All, Option, Some, None, Result, Ok, Err}
use Rattle.std.specs.declared.vec.Vec.{Vec}
use Rattle.std.specs.declared.alloc.Global.{Global}
use Rattle.atomic_table.specs.Table.{Me}
use Rattle.atomic_table.specs.Seated.{TableId}
use Rattle.atomic_table.specs.declared.shared.Seat.{Seat}
use Rattle.key_elements.specs.declared.element.Element.{Element}
use Rattle.key_elements.specs.Lists.{Extends}
use Rattle.repo_keeper.specs.declared.repo.RepoError.{RepoError}
use Rattle.repo_keeper.specs.declared.repo.RepoError.TheVariants as refused
use Rattle.repo_shared.specs.declared.shelf.Shelf.{Shelf}
use Rattle.repo_shared.specs.declared.board.Entry.{Entry}
use Rattle.repo_shared.specs.declared.board.Knowledge.{Knowledge}
use Rattle.repo_shared.specs.Rule.{StartsWith, elements, authored}
use Rattle.repo_shared.specs.Steps.{gained, last_authored}
use Rattle.repo_shared.specs.Mine.{IsBy}

abbrev BoardSeat : Type 0 → Type 0
BoardSeat K = Seat (Option (Shelf K)) Knowledge

module _ {K : Type 0} where
  -- the seat is at the table, which has two words and one slot
  abbrev pub IsAt : TableId → BoardSeat K → Type 0
  IsAt table p = (p.table_id ≡ table) × (p.table_id.words ≡ 2) × (p.table_id.slots ≡ 1)

  -- it hasn't the lock
  abbrev pub IsFree : BoardSeat K → Type 0
  IsFree p = (p.me.0.locks ≡ false) × (p.me.1 ≡ [])

  -- it has the lock and the empty slot, and knows the history
  abbrev pub HasLock : BoardSeat K → Type 0
  HasLock p = (p.me.0.locks ≡ true) × (p.me.1 ≡ (0, None) ∷ [])

  -- the lock was taken, and with it the shelf of the history, which begins with what was known
  pub record HasLocked (shelf : Shelf K) (p q : BoardSeat K) : Type 0 where
    pub table : q.table_id ≡ p.table_id
    pub history : List Entry
    pub me : q.me ≡ (record p.me.0 { list = history; locks = true }, (0, None) ∷ [])
    pub front : StartsWith history p.me.0.list
    pub shelf_is : shelf.list ≡ elements history

  -- the lock was given back with the shelf of a history that had become this one, whose length was
  -- loaded
  pub record HasUnlocked (history : List Entry) (mine : List ℕ) (found : ℕ) (p q : BoardSeat K) : Type 0 where
    pub table : q.table_id ≡ p.table_id
    pub me : q.me ≡ (record p.me.0 { list = history; told = []; mine = mine; locks = false; loads = p.me.0.loads + 1; found = found }, [])
    pub found_is : found ≡ length history

  -- it has the shelf of all that it knows
  abbrev pub CarriesShelf : BoardSeat K → Type 0
  CarriesShelf p = (shelf : Shelf K) × (p.me.1 ≡ (0, Some shelf) ∷ []) × (shelf.list ≡ elements p.me.0.list)

  -- what a seat knows when the shelf has become longer by elements of nobody
  abbrev pub list_grown : BoardSeat K → Shelf K → List Entry
  list_grown p shelf = p.me.0.list ++ authored 0 (gained p.me.0.list shelf.list)

  -- what it knows when the last of these is of its link
  abbrev pub list_appended : BoardSeat K → Shelf K → List Entry
  list_appended p shelf = p.me.0.list ++ last_authored p.me.0.number (gained p.me.0.list shelf.list)

  abbrev pub mine_appended : BoardSeat K → Shelf K → List ℕ
  mine_appended p shelf = p.me.0.mine ++ (length shelf.list - 1) ∷ []

-- each place has been seen, and its element is of this author
abbrev pub AreMine : ℕ → List Entry → List Element → List ℕ → Type 0
AreMine number list seen = All (λ p. (p < length seen) × IsBy number list p)

-- what was answered, and have is the length of what was seen
abbrev pub HasTold : Result (Vec Element Global) RepoError → ℕ → List Element → Type 0
HasTold (Ok tail) have seen = length seen ≡ have
HasTold (Err (refused.Short n)) have seen = (n ≡ have) × (length seen ≡ have)
HasTold (Err (refused.Full n)) have seen = length seen ≡ have
HasTold (Err refused.Failed) have seen = Unit {0}
HasTold (Err refused.Memory) have seen = Unit {0}

module _ {K : Type 0} where
  -- a link's seat between calls: it hasn't the lock; what was seen is a front of what it knows; its
  -- places are of its number
  abbrev pub IsHeld : Me (Option (Shelf K)) Knowledge → List Element → Type 0
  IsHeld m seen = (m.0.locks ≡ false) × (m.1 ≡ []) × StartsWith (elements m.0.list) seen × AreMine m.0.number m.0.list seen m.0.mine

  -- one call was made under the lock, in which the count was loaded once and was this number
  pub record HasCalled (answer : Result (Vec Element Global) RepoError) (have : ℕ) (p q : BoardSeat K) (seen seen' : List Element) : Type 0 where
    pub table : q.table_id ≡ p.table_id
    pub held : IsHeld q.me seen'
    pub grows : Extends seen' seen
    pub number : q.me.0.number ≡ p.me.0.number
    pub loads : q.me.0.loads ≡ p.me.0.loads + 1
    pub found : q.me.0.found ≡ have
    pub told : HasTold answer have seen'
