-- A source and a sink in memory, as clauses see them, and what a call leaves of them.
use Rattle.std.specs.Prelude.{ℕ, Bool, List, ◌++◌, ◌==◌, length, drop, min}
use Rattle.std.specs.List.{list_any}
use Rattle.dp_base.specs.Counts.{one_more}

pub record Input : Type 0 where
  -- the bytes left
  pub left : List ℕ
  -- the most bytes that a call moves
  pub piece : ℕ
  -- the numbers of the calls that are to fail, from 0
  pub fail : List ℕ
  pub calls : ℕ
  pub faults : ℕ

pub record Output : Type 0 where
  -- the bytes written
  pub written : List ℕ
  pub piece : ℕ
  pub fail : List ℕ
  pub calls : ℕ
  pub faults : ℕ

-- whether the call of this number is to fail
abbrev pub fails : List ℕ → ℕ → Bool
fails fail call = list_any (λ n. n == call) fail

-- how many bytes a read into so much room moves
abbrev pub moved : Input → ℕ → ℕ
moved s room = min (min s.piece room) (length s.left)

-- a read that moved n bytes
abbrev pub read_leaves : Input → ℕ → Input
read_leaves s n = record s { calls = one_more s.calls; left = drop n s.left }

-- a read that failed
abbrev pub read_failed : Input → Input
read_failed s = record s { calls = one_more s.calls; faults = one_more s.faults }

-- a write that took these bytes
abbrev pub write_leaves : Output → List ℕ → Output
write_leaves s bytes = record s { calls = one_more s.calls; written = s.written ++ bytes }

-- a write that took none
abbrev pub write_failed : Output → Output
write_failed s = record s { calls = one_more s.calls; faults = one_more s.faults }

pub record Coming : Type 0 where
  -- the bytes to come
  pub coming : List ℕ
  -- the numbers of the calls that are to fail, from 0
  pub fail : List ℕ
  pub calls : ℕ
  pub faults : ℕ

-- a draw that gave n bytes
abbrev pub draw_leaves : Coming → ℕ → Coming
draw_leaves s n = record s { calls = one_more s.calls; coming = drop n s.coming }

-- a draw that failed
abbrev pub draw_failed : Coming → Coming
draw_failed s = record s { calls = one_more s.calls; faults = one_more s.faults }
