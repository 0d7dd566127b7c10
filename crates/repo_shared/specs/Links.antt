-- What clauses read of a link.
use Rattle.std.specs.Prelude.{◌≡◌, ℕ, ◌+◌, List, [], ◌∷◌, slice_get, Some, Result, Ok, Err}
use Rattle.std.specs.declared.vec.Vec.{Vec}
use Rattle.std.specs.declared.alloc.Global.{Global}
use Rattle.atomic_table.specs.Seated.{TableId}
use Rattle.dp_base.specs.Counts.{more}
use Rattle.key_elements.specs.declared.element.Element.{Element}
use Rattle.repo_keeper.specs.Store.{Store, Mark, read_tally}
use Rattle.repo_keeper.specs.declared.repo.RepoError.{RepoError}
use Rattle.repo_keeper.specs.declared.repo.RepoError.TheVariants.{Failed, Short, Full, Memory}
use Rattle.repo_shared.specs.declared.board.Knowledge.{Knowledge}
use Rattle.repo_shared.specs.declared.handles.Link.{Link}
use Rattle.repo_shared.specs.Seats.{HasTold}

-- a table's name as plain data
abbrev pub mark_list : TableId → List ℕ
mark_list z = z.words ∷ z.slots ∷ z.views_name ∷ z.atom ∷ z.block ∷ z.offset ∷ z.slot_names

module _ {K : Type 0} where
  abbrev pub knowledge : Link K → Knowledge
  knowledge l = l.seat.me.0

  -- its repository and its number
  abbrev pub mark_of : Link K → Mark
  mark_of l = record { name = mark_list l.seat.table_id; number = (knowledge l).number }

  -- what a link tells as a repository: the list that it has seen, and its counts
  abbrev pub store_of : Link K → Store
  store_of l = record { list = Some l.seen; faults = l.faults; calls = l.calls; shorts = l.shorts; fulls = l.fulls; mine = (knowledge l).mine; mark = mark_of l }

  -- its repository
  abbrev pub repo_of : Link K → TableId
  repo_of l = l.seat.table_id

  -- its number, from 1
  abbrev pub number_of : Link K → ℕ
  number_of l = (knowledge l).number

  -- the same link of the same repository
  abbrev pub IsSameLink : Link K → Link K → Type 0
  IsSameLink s t = (repo_of t ≡ repo_of s) × (number_of t ≡ number_of s)

  -- the link of a repository with this number, which has seen nothing and made no call
  abbrev pub IsFresh : TableId → ℕ → Link K → Type 0
  IsFresh table number l = (repo_of l ≡ table) × (number_of l ≡ number)
      × (store_of l ≡ record { list = Some []; faults = 0; calls = 0; shorts = 0; fulls = 0; mine = []; mark = mark_of l })

  -- the links have the numbers 1, 2, …
  abbrev pub AreFresh : TableId → List (Link K) → Type 0
  AreFresh table links = (i : ℕ) (l : Link K) → slice_get links i ≡ Some l → IsFresh table (i + 1) l

  -- the call loaded the count once; an Ok, a Short or a Full has seen so many elements, and Short
  -- names this number
  abbrev pub HasLoaded : Result (Vec Element Global) RepoError → Link K → Link K → Type 0
  HasLoaded answer s t = ((knowledge t).loads ≡ (knowledge s).loads + 1) × HasTold answer (knowledge t).found t.seen

  -- the call was counted, and nothing else changed
  pub record HasNoted (answer : Result (Vec Element Global) RepoError) (s t : Link K) : Type 0 where
    pub seat : t.seat ≡ s.seat
    pub seen : t.seen ≡ s.seen
    pub calls : t.calls ≡ more (read_tally answer).calls s.calls
    pub faults : t.faults ≡ more (read_tally answer).faults s.faults
    pub shorts : t.shorts ≡ more (read_tally answer).shorts s.shorts
    pub fulls : t.fulls ≡ more (read_tally answer).fulls s.fulls

-- the answer, but that Short names the number
abbrev pub IsAnswer : Result (Vec Element Global) RepoError → ℕ → Result (Vec Element Global) RepoError → Type 0
IsAnswer (Ok tail) have answer = answer ≡ Ok tail
IsAnswer (Err Failed) have answer = answer ≡ Err Failed
IsAnswer (Err (Short n)) have answer = answer ≡ Err (Short have)
IsAnswer (Err (Full n)) have answer = answer ≡ Err (Full n)
IsAnswer (Err Memory) have answer = answer ≡ Err Memory
