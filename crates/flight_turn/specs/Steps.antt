-- What each kind of step on the table of a turn tells its seat. A step is made by a seat m, which
-- is m' afterwards; n is the number that it found, or that it stored.
use Rattle.std.specs.Prelude.{◌≡◌, ◌≢◌, ℕ, ◌+◌, ◌<◌, ◌≤◌, true, false, max, Option, Some, None, List, [], ◌∷◌}
use Rattle.atomic_table.specs.Table.{Me, Step, rest}
use Rattle.flight_turn.specs.declared.rule.Stand.{Stand}
use Rattle.flight_turn.specs.Rule.{newcomer}

abbrev Sat : Type 0 → Type 0
Sat F = Me (Option F) (Stand F)

module _ {F M : Type 0} (mark : F → M) where
  -- f has the mark of a flight that the seat has seen, if it has seen one
  abbrev pub IsAlike : Option F → F → Type 0
  IsAlike like f = (g : F) → like ≡ Some g → mark f ≡ mark g

  -- the compare and exchange of the turn: where it found 0 the seat holds, and has the slot with
  -- the flight; else nothing but the number is recorded
  abbrev pub tried : Step (Option F) → Sat F → ℕ → Sat F → Type 0
  tried st m n m' =
      (n ≡ 0 → (f : F) × (m' ≡ (record m.0 { holds = true; steps = m.0.steps + 1; read = 0 }, (0, Some f) ∷ m.1)) × (m.0.holds ≡ false) × IsAlike m.0.like f)
      × (n ≢ 0 → (m' ≡ (record m.0 { steps = m.0.steps + 1; read = n }, m.1)) × (0 < m.0.number → n ≤ m.0.seats) × (m.0.holds ≡ false → n ≢ m.0.number) × (m.0.holds ≡ true → n ≡ m.0.number))

module _ {F : Type 0} where
  -- what lies in the slot that a seat has
  abbrev pub lying : List (ℕ × Option F) → Option F
  lying [] = None
  lying (x ∷ xs) = x.1

  -- the turn back to 0: the seat holds no longer, and its slot is at home with what lies in it
  abbrev pub gave : Step (Option F) → Sat F → ℕ → Sat F → Type 0
  gave st m n m' = m' ≡ (record m.0 { holds = false; steps = m.0.steps + 1; left = lying m.1 }, rest m.1)

  -- the want that a seat finds is no less than it recorded or raised it to, and just this where it
  -- is the one seat
  abbrev pub found : Stand F → ℕ → Type 0
  found v n = (v.want ≤ n) × (v.raised_to ≤ n) × (v.seats ≡ 1 → n ≡ v.raised_to)

  -- the greater of the want and the number is the want, and is recorded
  abbrev pub raised : Step (Option F) → Sat F → ℕ → Sat F → Type 0
  raised st m n m' = (m' ≡ (record m.0 { want = max n st.first; raised_to = max m.0.raised_to st.first; steps = m.0.steps + 1 }, m.1)) × found m.0 n

  -- the want is recorded
  abbrev pub asked : Step (Option F) → Sat F → ℕ → Sat F → Type 0
  asked st m n m' = (m' ≡ (record m.0 { want = n; steps = m.0.steps + 1 }, m.1)) × found m.0 n

  -- a seat that makes others makes the next one, which doesn't hold
  abbrev pub counts_on : Stand F → Stand F
  counts_on v = record v { next = v.next + 1 }

  abbrev pub made : Stand F → Stand F
  made v = newcomer v.next v.seats v.like

  abbrev pub spent : Stand F
  spent = newcomer 0 0 None
