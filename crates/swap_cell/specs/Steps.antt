-- What each kind of step on the table of a cell tells its seat. A step is made by a seat m, which is
-- m' afterwards; n is the number that it found.
use Rattle.std.specs.Prelude.{◌≡◌, ◌≢◌, ℕ, ◌+◌, ◌*◌, ◌≤◌, max, false, [], ◌∷◌, ◌++◌, Some, None}
use mathlib.Core.Option.{some}
use Rattle.atomic_table.specs.Table.{Me, Step, rest}
use Rattle.atomic_table.specs.Seated.{TableId}
use Rattle.atomic_table.specs.declared.shared.Seat.{Seat}
use Rattle.swap_cell.specs.declared.board.Item.{Item}
use Rattle.swap_cell.specs.declared.board.Knowledge.{Knowledge}
use Rattle.swap_cell.specs.Rule.{Each, InLine}

abbrev Sat : Type 0 → Type 0
Sat T = Me (Item T) (Knowledge T)

module _ {T : Type 0} where
  -- the word of a slot goes from 0 to 1, and the seat has the slot; or it is found taken
  abbrev pub locked : Step (Item T) → Sat T → ℕ → Sat T → Type 0
  locked st m n m' =
      (n ≡ 0 → (r : ℕ) → st.word ≡ 16 * r → (y : Item T) × (m' ≡ (record m.0 { found = Some y; slot = r + 1 }, (r, y) ∷ m.1)))
      × (n ≢ 0 → m' ≡ m)

  -- the slot is at home again, with what the seat found there or with what it has
  abbrev pub freed : Step (Item T) → Sat T → ℕ → Sat T → Type 0
  freed st m n m' = m' ≡ (record m.0 { slot = 0 }, rest m.1)

  -- the same, and what the seat found is what it has
  abbrev pub swapped : Step (Item T) → Sat T → ℕ → Sat T → Type 0
  swapped st m n m' = m' ≡ (record m.0 { slot = 0; mine = m.0.found }, rest m.1)

  -- nothing is told
  abbrev pub flagged : Step (Item T) → Sat T → ℕ → Sat T → Type 0
  flagged st m n m' = m' ≡ m

  -- the setter sets the value that the step announces, which extends all that it knows
  abbrev pub appended : (T → T → Type 0) → Step (Item T) → Sat T → ℕ → Sat T → Type 0
  appended extends st m n m' = (x : Item T) → st.said ≡ some x
      → Each (λ k. extends x.value k.value) m.0.known × (m' ≡ (record m.0 { known = x ∷ m.0.known; most = x.number; mine = Some x; chain = m.0.chain ++ x.value ∷ [] }, m.1))

  -- what the seat has extends all that it knows, and is known
  abbrev pub looked : (T → T → Type 0) → Step (Item T) → Sat T → ℕ → Sat T → Type 0
  looked extends st m n m' = (x : Item T) → m.0.mine ≡ Some x
      → Each (λ k. extends x.value k.value) m.0.known × (m' ≡ (record m.0 { known = x ∷ m.0.known; most = x.number }, m.1))

  -- all that the seat knows is in line
  abbrev pub lined : (T → T → Type 0) → Step (Item T) → Sat T → ℕ → Sat T → Type 0
  lined extends st m n m' = (m' ≡ m) × InLine (λ a b. extends a.value b.value) m.0.known

  -- a seat that knows as much, and has the same
  abbrev pub follower : Knowledge T → Knowledge T
  follower v = record { known = v.known; most = v.most; mine = v.mine; found = None; slot = 0; sets = false; chain = [] }

  -- what a seat knows when it has learnt, with what it had
  abbrev pub learnt : Knowledge T → Knowledge T → Knowledge T
  learnt v w = record v { known = w.known ++ v.known; most = max v.most w.most }

  -- the same, with what the other had
  abbrev pub renewed : Knowledge T → Knowledge T → Knowledge T
  renewed v w = record (learnt v w) { mine = w.mine }

  abbrev pub spent : Knowledge T
  spent = record { known = []; most = 0; mine = None; found = None; slot = 0; sets = false; chain = [] }

  -- the seat has handed on what it has, and knows what it knew
  abbrev pub IsHanding : Seat (Item T) (Knowledge T) → Seat (Item T) (Knowledge T) → Type 0
  IsHanding p q =
      (q.table_id ≡ p.table_id) × (q.me.0.slot ≡ 0) × (q.me.1 ≡ []) × (q.me.0.mine ≡ p.me.0.mine) × (q.me.0.most ≡ p.me.0.most)
      × (q.me.0.known ≡ p.me.0.known) × (q.me.0.sets ≡ p.me.0.sets) × (q.me.0.chain ≡ p.me.0.chain)

  -- the seat is at a cell's table, which has 16 words for each slot and at most 128 slots
  abbrev pub IsAt : TableId → Seat (Item T) (Knowledge T) → Type 0
  IsAt table p = (p.table_id ≡ table) × (p.table_id.words ≡ 16 * p.table_id.slots) × (p.table_id.slots ≤ 128)

  -- it has no slot
  abbrev pub IsFree : Seat (Item T) (Knowledge T) → Type 0
  IsFree p = (p.me.0.slot ≡ 0) × (p.me.1 ≡ [])

  -- it has taken the slot r
  abbrev pub HasTaken : ℕ → Seat (Item T) (Knowledge T) → Seat (Item T) (Knowledge T) → Type 0
  HasTaken r p q = (q.table_id ≡ p.table_id) × ((y : Item T) × (q.me ≡ (record p.me.0 { found = Some y; slot = r + 1 }, (r, y) ∷ [])))

  -- it is at its table, and knows and has what it did
  abbrev pub StaysSeated : Seat (Item T) (Knowledge T) → Seat (Item T) (Knowledge T) → Type 0
  StaysSeated p q = (q.table_id ≡ p.table_id) × (q.me ≡ p.me)

  -- it knows what it knew
  abbrev pub StaysKnown : Seat (Item T) (Knowledge T) → Seat (Item T) (Knowledge T) → Type 0
  StaysKnown p q = (q.me.0.known ≡ p.me.0.known) × (q.me.0.most ≡ p.me.0.most)
