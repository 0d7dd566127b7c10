use Rattle.std.proofs.Common.{rules, ℕ, ◌≡◌, ◌+◌, Some, length, slice_get, subst, sym, ap, ◌∙◌, arith}
use Rattle.flight_turn.specs.declared.seat.TurnSeat.{TurnSeat}
use Rattle.flight_turn.specs.Rule.{newcomer}
use Rattle.flight_turn.specs.Seats.{IsFresh, seats_of, first_flight}
use Rattle.flight_turn.proofs.Keeps.{takes_in, each_more}
use Rattle.flight_turn.proofs.turn.Turn.seat_all.Goals as goal

pub join_seat-requires : goal.join_seat-requires
join_seat-requires g c = let m = c.make-last.ensures.maker in (
  c.make-last.ensures.made.0,
  m.0,
  ap (λ z. z.1) m.1,
  search rules,
  takes_in g.F.Kin.mark _ _ _ _ _ _ (ap (λ z. z.0.raised_to) m.1),
)

pub returns-clause-each : goal.returns-clause-each
returns-clause-each g c = let turn = c.args.self.now in let inv = c.loop-number.invariant in
    let end = c.loop-number.auto.number-end c.requires.seats.0 in let past = c.loop-number-test.false in
    let n : length c.loop-number.made.items + 1 ≡ c.args.seats = omega (arith, inv.1) in
    let fresh = c.make-last.ensures.made in let joined = c.join_seat.ensures in
    subst (λ xs. (i : ℕ) (s : TurnSeat g.row.F.Denot) → slice_get xs i ≡ Some s → IsFresh turn (i + 1) s) (sym c.in_ok-push-2.ensures.items)
    (each_more (λ i s. IsFresh turn (i + 1) s) c.loop-number.made.items _ inv.2
    (joined.0 ∙ fresh.0, ap (λ m. m.0) joined.2 ∙ (fresh.1 ∙ ap (λ z. newcomer z (seats_of turn) (Some (first_flight turn))) (sym n))))
