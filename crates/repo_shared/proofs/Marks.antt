-- What the mark of a link tells.
use Rattle.std.proofs.Common.{◌≡◌, ℕ, List, [], ◌∷◌, ap}
use Rattle.atomic_table.specs.Seated.{TableId}
use Rattle.repo_shared.specs.declared.handles.Link.{Link}
use Rattle.repo_shared.specs.Links.{mark_list, mark_of, IsSameLink}

-- the first of a list, or 0, and those behind it
abbrev first_of : List ℕ → ℕ
first_of [] = 0
first_of (x ∷ xs) = x

abbrev behind : List ℕ → List ℕ
behind [] = []
behind (x ∷ xs) = xs

-- the name of a table as plain data says which it is
same_table : (x y : TableId) → mark_list x ≡ mark_list y → x ≡ y
same_table x y e i = record {
  words = first_of (e i);
  slots = first_of (behind (e i));
  views_name = first_of (behind (behind (e i)));
  atom = first_of (behind (behind (behind (e i))));
  block = first_of (behind (behind (behind (behind (e i)))));
  offset = first_of (behind (behind (behind (behind (behind (e i))))));
  slot_names = behind (behind (behind (behind (behind (behind (e i))))));
}

pub same_link : {K : Type 0} (s t : Link K) → mark_of t ≡ mark_of s → IsSameLink s t
same_link s t e = (same_table t.seat.table_id s.seat.table_id (ap (λ m. m.name) e), ap (λ m. m.number) e)
