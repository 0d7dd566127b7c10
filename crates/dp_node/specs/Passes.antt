-- A pass of a node of many threads, as the clauses of a host see it.
use Rattle.std.specs.Prelude.{ℕ, Option, Some, None, is_some, option_map, IfSome}
use Rattle.key_elements.specs.Lists.{Extends}
use Rattle.key_ring.specs.Ring.{RingOf}
use Rattle.swap_cell.specs.declared.handles.Setter.{Setter}
use Rattle.swap_cell.specs.Cells.{last_set}
use Rattle.flight_turn.specs.declared.seat.TurnSeat.{TurnSeat}
use Rattle.flight_turn.specs.Seats.{steps, read, recorded}
use Rattle.dp_node.specs.declared.pass.Pass.{Pass}
use Rattle.node_calls.specs.HostState.{HostState, AtTurn}
use Rattle.dp_node.specs.Floor.{floor_of}

-- the steps that a seat made at the turn
abbrev pub at_turn : TurnSeat (Setter RingOf) → AtTurn
at_turn seat = record { steps = steps seat; read = read seat }

abbrev pub state_of : Pass → HostState
state_of p = record {
  facts = p.notes.facts;
  own = p.notes.own;
  looked = p.notes.looked.value;
  held = is_some p.setter;
  floor = floor_of p.viewer;
  acts = p.notes.acts;
  single = None;
  turn = Some (at_turn p.seat);
}

-- the ring that the setter in the pass's hand set last
abbrev pub set_last : Pass → Option RingOf
set_last p = option_map last_set p.setter

-- the want number as the pass's last step on it left it
abbrev pub want_recorded : Pass → ℕ
want_recorded p = recorded p.seat

-- while the turn is held, the floor extends the list that was published last at the node
abbrev pub LeadsNode : Pass → Type 0
LeadsNode p = IfSome (set_last p) (λ r. Extends (state_of p).floor r.list)
