-- A repository as clauses see it: the list, where it is told, and counts of what its calls answered.
use Rattle.std.specs.Prelude.{◌≡◌, ℕ, ◌+◌, ◌-◌, ◌<◌, ◌≤◌, List, [], ◌∷◌, ◌++◌, length, drop, Option, Some, None, Result, Ok, Err, IfSome}
use Rattle.std.specs.List.{AllByRecursion}
use Rattle.std.specs.declared.vec.Vec.{Vec}
use Rattle.std.specs.declared.alloc.Global.{Global}
pub use Rattle.dp_base.specs.Counts.{more}
use Rattle.key_elements.specs.declared.element.Element.{Element}
use Rattle.key_elements.specs.declared.list.TheConstants.{MAX_ELEMENTS}
use Rattle.key_elements.specs.Lists.{Extends}
use Rattle.key_elements.specs.Record.{IsElement}
use Rattle.repo_keeper.specs.declared.repo.RepoError.{RepoError}
use Rattle.repo_keeper.specs.declared.repo.RepoError.TheVariants.{Failed, Short, Full, Memory}

-- what a repository belongs to: plain data that clauses alone see, and that no call changes
pub record Mark : Type 0 where
  -- the name of what is shared, and the number of the one who shares it
  pub name : List ℕ
  pub number : ℕ

-- that of a repository of one's own
abbrev pub no_mark : Mark
no_mark = record { name = []; number = 0 }

pub record Store : Type 0 where
  -- the list as far as it was seen
  pub list : Option (List Element)
  -- how many calls failed, were made, answered Short, answered Full
  pub faults : ℕ
  pub calls : ℕ
  pub shorts : ℕ
  pub fulls : ℕ
  -- the places of its own appends, from 0, in order
  pub mine : List ℕ
  pub mark : Mark

-- what some calls add to the counts
pub record Tally : Type 0 where
  pub calls : ℕ
  pub faults : ℕ
  pub shorts : ℕ
  pub fulls : ℕ
  pub places : List ℕ

-- what is told begins with what was told
abbrev pub Grows : Option (List Element) → Option (List Element) → Type 0
Grows None None = Unit {0}
Grows None (Some new) = ⊥
Grows (Some old) None = ⊥
Grows (Some old) (Some new) = Extends new old

-- the repository after calls that add so much
pub record Moved (t : Tally) (old new : Store) : Type 0 where
  pub list : Grows old.list new.list
  pub calls : new.calls ≡ more t.calls old.calls
  pub faults : new.faults ≡ more t.faults old.faults
  pub shorts : new.shorts ≡ more t.shorts old.shorts
  pub fulls : new.fulls ≡ more t.fulls old.fulls
  pub mine : new.mine ≡ old.mine ++ t.places
  pub mark : new.mark ≡ old.mark

abbrev pub no_calls : Tally
no_calls = record { calls = 0; faults = 0; shorts = 0; fulls = 0; places = [] }

abbrev pub one_call : Tally
one_call = record no_calls { calls = 1 }

-- what a refused call adds
abbrev pub refused_tally : RepoError → Tally
refused_tally Failed = record one_call { faults = 1 }
refused_tally (Short have) = record one_call { shorts = 1 }
refused_tally (Full count) = record one_call { fulls = 1 }
refused_tally Memory = one_call

-- what a read adds
abbrev pub read_tally : Result (Vec Element Global) RepoError → Tally
read_tally (Ok tail) = one_call
read_tally (Err why) = refused_tally why

-- what an append adds: where it is answered by a tail, the place of its element
abbrev pub append_tally : ℕ → Result (Vec Element Global) RepoError → Tally
append_tally known (Ok tail) = record one_call { places = (known + length tail.items - 1) ∷ [] }
append_tally known (Err why) = refused_tally why

-- elements, and all that stand from the place on
abbrev pub IsTail : ℕ → List Element → Option (List Element) → Type 0
IsTail known tail told =
    (known + length tail ≤ MAX_ELEMENTS) × AllByRecursion IsElement tail
    × IfSome told (λ list. (known ≤ length list) × (tail ≡ drop known list))

-- the element stands last
abbrev pub EndsWith : Element → List Element → Type 0
EndsWith e tail = (front : List Element) × (tail ≡ front ++ e ∷ [])

-- Short where fewer elements stand than were known, and else Full where no more may stand
abbrev pub IsCause : ℕ → Option (List Element) → RepoError → Type 0
IsCause known told Failed = Unit {0}
IsCause known told (Short have) = (have < known) × IfSome told (λ list. length list ≡ have)
IsCause known told (Full count) =
    (count ≡ MAX_ELEMENTS) × (known ≤ count) × IfSome told (λ list. length list ≡ count)
IsCause known told Memory = Unit {0}

-- a read is never answered Full
abbrev pub IsReadCause : ℕ → Option (List Element) → RepoError → Type 0
IsReadCause known told (Full count) = ⊥
IsReadCause known told why = IsCause known told why
