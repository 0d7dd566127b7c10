-- What closing a shared repository leaves.
use Rattle.std.specs.Prelude.{◌≡◌, ◌≢◌, ℕ, ◌<◌, ◌≤◌, List, length, slice_get, Some, All}
use Rattle.key_elements.specs.declared.element.Element.{Element}
use Rattle.key_elements.specs.Lists.{Extends}
use Rattle.repo_shared.specs.declared.handles.Link.{Link}
use Rattle.repo_shared.specs.declared.handles.SharedRepo.{SharedRepo}
use Rattle.repo_shared.specs.declared.closing.CloseRefused.{CloseRefused}
use Rattle.repo_shared.specs.declared.closing.CloseRefused.TheVariants.{Missing, Memory}
use Rattle.atomic_table.specs.Seated.{TableId}
use Rattle.repo_shared.specs.declared.board.Entry.{Entry}
use Rattle.repo_shared.specs.Rule.{StartsWith}
use Rattle.repo_shared.specs.Links.{knowledge, number_of, repo_of}
use Rattle.repo_shared.specs.Repos.{made_of}
use Rattle.repo_shared.specs.Meets.{AreApart}

module _ {K : Type 0} where
  -- the links are of the repository
  abbrev pub AreOf : TableId → List (Link K) → Type 0
  AreOf table links = (i : ℕ) (l : Link K) → slice_get links i ≡ Some l → repo_of l ≡ table

  -- what the links from the place on know are fronts of the list
  abbrev pub AreGathered : ℕ → List Entry → List (Link K) → Type 0
  AreGathered from list links = (i : ℕ) (l : Link K) → from ≤ i → slice_get links i ≡ Some l → StartsWith list (knowledge l).list

  -- no two links have one number
  abbrev pub AreNumbered : List (Link K) → Type 0
  AreNumbered links = (i j : ℕ) (l m : Link K) → slice_get links i ≡ Some l → slice_get links j ≡ Some m → i ≢ j → number_of l ≢ number_of m

  -- no two links share a place
  abbrev pub AreAllApart : List (Link K) → Type 0
  AreAllApart links = (i j : ℕ) (l m : Link K) → slice_get links i ≡ Some l → slice_get links j ≡ Some m → i ≢ j → AreApart (knowledge l).mine (knowledge m).mine

  -- the element at the place is the one that the link has seen there
  abbrev pub IsHeldBy : List Element → Link K → ℕ → Type 0
  IsHeldBy history l place = (e : Element) × (slice_get l.seen place ≡ Some e) × (slice_get history place ≡ Some e)

  -- what the link has seen is a front of the history, and its places hold its elements
  abbrev pub IsFrontOf : List Element → Link K → Type 0
  IsFrontOf history l = Extends history l.seen × All (IsHeldBy history l) (knowledge l).mine

  abbrev pub AreFrontsOf : List Element → List (Link K) → Type 0
  AreFrontsOf history links = (i : ℕ) (l : Link K) → slice_get links i ≡ Some l → IsFrontOf history l

  -- fewer links were given than made, and all comes back; or somebody had the lock
  abbrev pub IsMissing : SharedRepo K → List (Link K) → CloseRefused K → Type 0
  IsMissing r links (Missing given made repo back) = (given < made) × (given ≡ length links) × (made ≡ made_of r) × (repo ≡ r) × (back.items ≡ links)
  IsMissing r links Memory = made_of r ≤ length links
