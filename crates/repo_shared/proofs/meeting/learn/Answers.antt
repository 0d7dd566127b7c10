use Rattle.std.proofs.Common.{◌≡◌, ap, ◌∙◌, arith}
use Rattle.repo_shared.proofs.Keeps.{tells}
use Rattle.repo_shared.proofs.Meetings.{relearnt}
use Rattle.repo_shared.proofs.meeting.learn.Goals as goal

pub split_seat-told-requires : goal.split_seat-told-requires
split_seat-told-requires g c = let t = c.requires.table in let o = c.requires.other in let e : c.args.seat.now.table_id.words ≡ c.args.board.now.shared.table_id.words = ap (λ z. z.words) t.0 in
    (o.0 ∙ t.0, omega (arith, e, t.1), tells _ _)

pub returns-clause-learnt : goal.returns-clause-learnt
returns-clause-learnt g c = relearnt c.args.other.now c.split_seat-told.result c.args.seat.now c.take_in.new.seat (ap (λ m. m.0.list) c.split_seat-told.ensures.4) c.take_in.ensures
