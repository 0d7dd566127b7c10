use Rattle.std.proofs.Common.{rules, ap}
use Rattle.flight_turn.proofs.Keeps.{makes_at}
use Rattle.flight_turn.proofs.turn.Turn.make.Goals as goal

pub split_seat-requires : goal.split_seat-requires
split_seat-requires g c = let n = c.requires.number in (
  c.requires.maker.0,
  search rules,
  makes_at g.F.Kin.mark _ _ _ c.args.number _ (ap (λ m. m.0) c.requires.maker.1) n.0 n.1,
)
