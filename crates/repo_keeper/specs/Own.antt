-- A repository of one's own over a keeper: what it tells is what the keeper tells, and its own counts.
use Rattle.std.specs.Prelude.{◌≡◌, ◌⊎◌, ℕ, List, [], ◌∷◌, ◌++◌, Option, option_map, Result, Ok, Err}
use Rattle.std.specs.declared.vec.Vec.{Vec}
use Rattle.std.specs.declared.alloc.Global.{Global}
use Rattle.key_elements.specs.declared.element.Element.{Element}
use Rattle.repo_keeper.specs.declared.repo.RepoError.{RepoError}
use Rattle.repo_keeper.specs.declared.repo.RepoError.TheVariants.{Failed}
use Rattle.repo_keeper.specs.Kept.{Kept}
use Rattle.repo_keeper.specs.Store.{Store, no_mark}

abbrev pub own_store : Kept → ℕ → ℕ → List ℕ → Store
own_store k calls fulls mine = record {
  list = k.list;
  faults = k.faults;
  calls = calls;
  shorts = k.shorts;
  fulls = fulls;
  mine = mine;
  mark = no_mark;
}

-- what the keeper of a repository tells
abbrev pub kept_in : Store → Kept
kept_in s = record { list = s.list; faults = s.faults; shorts = s.shorts }

-- the list with the element behind it
abbrev pub followed_by : Element → Option (List Element) → Option (List Element)
followed_by e list = option_map (λ es. es ++ e ∷ []) list

-- an append puts its element once, at the end. After a failure it stands there or doesn't, and after
-- any other refusal it doesn't
abbrev pub AppendsOnce : Element → Result (Vec Element Global) RepoError → Option (List Element) → Option (List Element) → Type 0
AppendsOnce e (Ok tail) old new = new ≡ followed_by e old
AppendsOnce e (Err Failed) old new = (new ≡ old) ⊎ (new ≡ followed_by e old)
AppendsOnce e (Err _) old new = new ≡ old
