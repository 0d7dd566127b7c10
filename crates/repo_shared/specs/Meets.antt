-- What links learn of each other.
use Rattle.std.specs.Prelude.{◌≡◌, ◌≢◌, ◌⊎◌, ℕ, ◌+◌, ◌<◌, ◌≤◌, List, [], length, slice_index_or, Option}
use Rattle.atomic_table.specs.declared.shared.Seat.{Seat}
use Rattle.key_elements.specs.declared.element.Element.{Element}
use Rattle.key_elements.specs.Lists.{Extends}
use Rattle.repo_shared.specs.declared.shelf.Shelf.{Shelf}
use Rattle.repo_shared.specs.declared.board.Knowledge.{Knowledge}
use Rattle.repo_shared.specs.declared.handles.Link.{Link}
use Rattle.repo_shared.specs.Rule.{StartsWith}
use Rattle.repo_shared.specs.Steps.{longer}
use Rattle.repo_shared.specs.Links.{store_of, IsSameLink}

-- no place stands in both lists
abbrev pub AreApart : List ℕ → List ℕ → Type 0
AreApart xs ys = (i j d : ℕ) → i < length xs → j < length ys → slice_index_or xs i d ≢ slice_index_or ys j d

-- the list is the longer of two
abbrev pub IsLongerOf : List Element → List Element → List Element → Type 0
IsLongerOf a b l = ((l ≡ b) × (length a ≤ length b)) ⊎ ((l ≡ a) × (length b ≤ length a))

-- the list is one of the two, and extends both
pub record HasMet (a b l : List Element) : Type 0 where
  pub longer : IsLongerOf a b l
  pub first : Extends l a
  pub second : Extends l b

module _ {K : Type 0} where
  -- the seat p has learnt what the seat o knew, of which it knew a front or more, and is q
  pub record HasLearnt (o p q : Seat (Option (Shelf K)) Knowledge) : Type 0 where
    pub table : q.table_id ≡ p.table_id
    pub found : ℕ
    pub me : q.me ≡ (record p.me.0 { list = longer p.me.0.list o.me.0.list; told = []; loads = p.me.0.loads + 1; found = found }, p.me.1)
    pub own : StartsWith q.me.0.list p.me.0.list
    pub other : StartsWith q.me.0.list o.me.0.list

  -- each of the seats p and q has learnt what the other knew
  pub record HaveMet (p q p' q' : Seat (Option (Shelf K)) Knowledge) : Type 0 where
    pub first : HasLearnt q p p'
    pub second : HasLearnt p' q q'

  -- the same link, which has counted nothing and may have seen more
  abbrev pub IsLikeBefore : Link K → Link K → Type 0
  IsLikeBefore s t = IsSameLink s t × (store_of t ≡ record (store_of s) { list = (store_of t).list })
