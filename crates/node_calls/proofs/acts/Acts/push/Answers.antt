use Rattle.std.proofs.Common.{arith}
use Rattle.node_calls.proofs.Latest.{push_short, push_full}
use Rattle.node_calls.proofs.acts.Acts.push.Goals as goal

pub returns-then-self-eq24 : goal.returns-then-self-eq24
returns-then-self-eq24 c =
    let kept = c.self.inside.kept in
    rw (← c.self.view_is, c.if-self-eq24.true) (push_full kept c.rotate_left.new.self c.args.act c.self.invariant.1 c.rotate_left.ensures.after)

pub returns-else-self-eq24 : goal.returns-else-self-eq24
returns-else-self-eq24 c =
    rw (← c.self.view_is) (push_short c.self.inside.kept c.self.inside.len c.args.act (omega (arith, c.self.invariant.0, c.if-self-eq24.false)) c.self.invariant.1)
