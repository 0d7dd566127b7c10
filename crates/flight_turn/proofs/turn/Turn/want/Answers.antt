use Rattle.std.proofs.Common.{rules, arith}
use Rattle.flight_turn.proofs.Keeps.{asks}
use Rattle.flight_turn.proofs.turn.Turn.want.Goals as goal

pub load-requires : goal.load-requires
load-requires g c = (c.requires.seat.table_is, search rules, let n = c.args.seat.now.numbered in asks g.F.Kin.mark _ _ _ _ _ (omega arith))
