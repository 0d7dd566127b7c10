-- What clauses read of a shared repository.
use Rattle.std.specs.Prelude.{ℕ, List}
use Rattle.atomic_table.specs.Seated.{TableId}
use Rattle.repo_shared.specs.declared.board.Entry.{Entry}
use Rattle.repo_shared.specs.declared.handles.SharedRepo.{SharedRepo}

module _ {K : Type 0} where
  abbrev pub table_of : SharedRepo K → TableId
  table_of r = r.seat.table_id

  -- how many links it made
  abbrev pub made_of : SharedRepo K → ℕ
  made_of r = r.made

  -- the number of the next link
  abbrev pub next_of : SharedRepo K → ℕ
  next_of r = r.seat.me.0.next

  abbrev pub list_of : SharedRepo K → List Entry
  list_of r = r.seat.me.0.list
