use Rattle.std.proofs.Common.{◌≡◌, ◌+◌, length}
use Rattle.flight_turn.specs.Seats.{IsMaker, AreFresh}
use Rattle.flight_turn.proofs.turn.Turn.seat_all.Given as goal

-- as many seats are made as the maker has counted
abbrev pub invariant-loop-number : goal.invariant-loop-number
invariant-loop-number g l = IsMaker l.self l.number l.maker × (length l.made.items + 1 ≡ l.number) × AreFresh l.self l.made.items
