-- A keeper in memory as clauses see it.
use Rattle.std.specs.Prelude.{ℕ, List, Some}
use Rattle.key_elements.specs.declared.element.Element.{Element}
use Rattle.repo_keeper.specs.Kept.{Kept}

pub record MemKept : Type 0 where
  pub list : List Element
  -- the numbers of the calls that are to fail, from 0
  pub fail : List ℕ
  pub calls : ℕ
  pub faults : ℕ
  pub shorts : ℕ

-- what it tells as a keeper
abbrev pub kept_of : MemKept → Kept
kept_of k = record { list = Some k.list; faults = k.faults; shorts = k.shorts }
