use Rattle.std.proofs.Common.{◌≡◌, ap, ◌∙◌, arith}
use Rattle.repo_shared.proofs.Keeps.{learns, counts}
use Rattle.repo_shared.proofs.Meetings.{learnt_is}
use Rattle.repo_shared.proofs.meeting.take_in.Goals as goal

pub join_seat-requires : goal.join_seat-requires
join_seat-requires g c = let t = c.requires.table in let o = c.requires.other in let e : c.args.seat.now.table_id.words ≡ c.args.board.now.shared.table_id.words = ap (λ z. z.words) t.0 in
    (t.0, o.0 ∙ t.0, o.1, omega (arith, e, t.1), learns _ _ _ _)

pub load-requires : goal.load-requires
load-requires g c = let t = c.requires.table in let j = c.join_seat.ensures in let e : c.args.seat.now.table_id.words ≡ c.args.board.now.shared.table_id.words = ap (λ z. z.words) t.0 in
    (j.0 ∙ t.0, omega (arith, e, t.1), counts _ _ _)

pub returns : goal.returns
returns g c = let j = c.join_seat.ensures in let l = c.load.ensures in
    learnt_is c.args.other c.args.seat.now c.join_seat.new.seat c.load.new.seat c.load.result j.0 j.2 l.0 l.2
