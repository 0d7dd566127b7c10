use Rattle.flight_turn.specs.Seats.{IsSeatOf}
use Rattle.flight_turn.proofs.tests.take_often.Given as goal

-- the seat stays one of the turn
abbrev pub invariant-loop : goal.invariant-loop
invariant-loop l = IsSeatOf (λ t. t.owner) l.turn l.seat
