use Rattle.std.proofs.Common.{sym, arith}
use Rattle.default_key.proofs.Maxima.{position-found}
use Rattle.default_key.proofs.choice.first_of.Goals as goal

pub returns-in-Some : goal.returns-in-Some
returns-in-Some g c =
    let found = position-found (g.C.Choice.passes c.args.choice.now) g.C.Choice.before c.args.keys.now c.loop-place.place c.loop-place.found (omega arith) c.loop-place.invariant in
    sym (rw c.in-Some.is at found)

pub returns-in-None : goal.returns-in-None
returns-in-None g c =
    let found = position-found (g.C.Choice.passes c.args.choice.now) g.C.Choice.before c.args.keys.now c.loop-place.place c.loop-place.found (omega arith) c.loop-place.invariant in
    sym (rw c.in-None.is at found)
