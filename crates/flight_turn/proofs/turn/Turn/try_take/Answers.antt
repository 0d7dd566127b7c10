use Rattle.std.proofs.Common.{rules, Some, ap}
use Rattle.flight_turn.proofs.Keeps.{tries, front}
use Rattle.flight_turn.proofs.turn.Turn.try_take.Goals as goal

pub compare_exchange-found-requires : goal.compare_exchange-found-requires
compare_exchange-found-requires g c = let n = c.args.seat.now.numbered in (
  c.requires.seat.table_is,
  search rules,
  tries g.F.Kin.mark _ _ _ _ _ _ n.0 n.1,
)

pub exchange-requires : goal.exchange-requires
exchange-requires g c = let e = c.compare_exchange-found.ensures in let t = e.2.0 c.if-found-ne0.false in
    (search rules, (Some t.0, front _ _ _ (ap (λ m. m.1) t.1)))
