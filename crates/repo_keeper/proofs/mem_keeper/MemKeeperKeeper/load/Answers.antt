use Rattle.std.proofs.Common.{◌≤◌, arith}
use Rattle.std.proofs.lemmas.List.{length-take-le}
use Rattle.repo_keeper.proofs.Parts.{IsTail-part}
use Rattle.repo_keeper.proofs.mem_keeper.MemKeeperKeeper.load.Goals as goal

pub returns-clause-tail : goal.returns-clause-tail
returns-clause-tail c =
    let have = rw (← c.self.view_is) at c.have-have.ensures.value in
    let le : c.args.from ≤ c.self.inside.len = omega (arith, have, c.if-have-from.false, length-take-le c.self.inside.len c.self.inside.list c.self.invariant) in
    let is = IsTail-part c.args.from c.self.inside.len c.self.inside.list c.in_ok-tail.ensures.elements le c.self.invariant in
    rw (← c.self.view_is, c.in_ok-tail.ensures.value) is
