-- What clauses read of a turn and of a seat.
use Rattle.std.specs.Prelude.{◌≡◌, ℕ, ◌+◌, ◌<◌, Bool, true, false, Option, Some, option_map, List, [], length, slice_get, slice_index_or}
use Rattle.atomic_table.specs.declared.shared.Seat.{Seat}
use Rattle.flight_turn.specs.declared.turn.Turn.{Turn}
use Rattle.flight_turn.specs.declared.seat.TurnSeat.{TurnSeat}
use Rattle.flight_turn.specs.declared.rule.Stand.{Stand}
use Rattle.flight_turn.specs.Rule.{newcomer, maker_at}

module _ {F : Type 0} where
  abbrev pub stand : TurnSeat F → Stand F
  stand s = s.place.me.0

  -- the number of a seat, from 1
  abbrev pub number : TurnSeat F → ℕ
  number s = (stand s).number

  -- whether it holds the turn
  abbrev pub holds : TurnSeat F → Bool
  holds s = (stand s).holds

  -- how many steps it made
  abbrev pub steps : TurnSeat F → ℕ
  steps s = (stand s).steps

  -- the turn as its last try found it
  abbrev pub read : TurnSeat F → ℕ
  read s = (stand s).read

  -- the want as its last step on the want left it
  abbrev pub recorded : TurnSeat F → ℕ
  recorded s = (stand s).want

  -- the greatest number to which it raised the want
  abbrev pub raised_to : TurnSeat F → ℕ
  raised_to s = (stand s).raised_to

  -- the flight that lay in the slot as it gave the turn back last
  abbrev pub left : TurnSeat F → Option F
  left s = (stand s).left

  -- the same seat of the same turn
  abbrev pub IsSameSeat : TurnSeat F → TurnSeat F → Type 0
  IsSameSeat s t = (t.place.table_id ≡ s.place.table_id) × (number t ≡ number s) × ((stand t).seats ≡ (stand s).seats) × ((stand t).like ≡ (stand s).like)

  -- the same seat, after one step more
  abbrev pub IsStep : TurnSeat F → TurnSeat F → Type 0
  IsStep s t = IsSameSeat s t × (steps t ≡ steps s + 1)

  -- it knows no more of the turn than before
  abbrev pub StaysAtTurn : TurnSeat F → TurnSeat F → Type 0
  StaysAtTurn s t = (read t ≡ read s) × (holds t ≡ holds s)

  -- it knows no more of the want than before
  abbrev pub StaysAtWant : TurnSeat F → TurnSeat F → Type 0
  StaysAtWant s t = (recorded t ≡ recorded s) × (raised_to t ≡ raised_to s)

  -- it didn't hold the turn, and does now
  abbrev pub HasTaken : TurnSeat F → TurnSeat F → Type 0
  HasTaken s t = (holds s ≡ false) × (holds t ≡ true)

  -- the seats have the numbers 1, 2, …, hold nothing, know no want and raised none
  abbrev pub AreNew : List (TurnSeat F) → Type 0
  AreNew seats = (i : ℕ) (d : TurnSeat F) → i < length seats → let s = slice_index_or seats i d in (number s ≡ i + 1) × (holds s ≡ false) × (recorded s ≡ 0) × (raised_to s ≡ 0)

  -- how many seats a turn has
  abbrev pub seats_of : Turn F → ℕ
  seats_of t = t.table.shared.key.seats

  -- a flight of the turn's mark: the one that it was made with
  abbrev pub first_flight : Turn F → F
  first_flight t = t.table.shared.key.flight.value

  -- the seat that makes the others, of which this is the next number
  abbrev pub IsMaker : Turn F → ℕ → Seat (Option F) (Stand F) → Type 0
  IsMaker t number p = (p.table_id ≡ t.table.shared.table_id) × (p.me ≡ (maker_at number (seats_of t) (first_flight t), []))

  -- a seat of the turn that has this number and has made no step
  abbrev pub IsFresh : Turn F → ℕ → TurnSeat F → Type 0
  IsFresh t number s = (s.place.table_id ≡ t.table.shared.table_id) × (stand s ≡ newcomer number (seats_of t) (Some (first_flight t)))

  abbrev pub AreFresh : Turn F → List (TurnSeat F) → Type 0
  AreFresh t seats = (i : ℕ) (s : TurnSeat F) → slice_get seats i ≡ Some s → IsFresh t (i + 1) s

  module _ {M : Type 0} (mark : F → M) where
    -- the mark of a turn's flights
    abbrev pub turn_mark : Turn F → M
    turn_mark t = mark (first_flight t)

    -- the seat is one of the turn
    pub record IsSeatOf (t : Turn F) (s : TurnSeat F) : Type 0 where
      pub table_is : s.place.table_id ≡ t.table.shared.table_id
      pub seats_are : (stand s).seats ≡ seats_of t
      pub like_is : option_map mark (stand s).like ≡ Some (turn_mark t)
