use Rattle.repo_shared.proofs.Meetings.{have_met}
use Rattle.repo_shared.proofs.meeting.learn_each.Goals as goal

pub returns : goal.returns
returns g c = let x = c.learn.ensures in let y = c.learn-2.ensures in
    have_met c.args.a.now c.learn.new.seat c.learn-2.new.other c.args.b.now c.learn.new.other c.learn-2.new.seat x.learnt x.other.0 x.other.1 y.learnt y.other.0 y.other.1
