use Rattle.std.proofs.Common.{rules, arith}
use Rattle.flight_turn.proofs.Keeps.{raises}
use Rattle.flight_turn.proofs.turn.Turn.raise_want.Goals as goal

pub fetch_max-requires : goal.fetch_max-requires
fetch_max-requires g c = (c.requires.seat.table_is, search rules, let n = c.args.seat.now.numbered in raises g.F.Kin.mark _ _ _ _ _ _ (omega arith))
