use Rattle.std.proofs.Common.{[], refl}
use Rattle.node_calls.specs.Books.{books}
use Rattle.dp_wire.specs.Request.{request_of}
use Rattle.dp_answer.proofs.Answers.{ring_given, ring_refused}
use Rattle.dp_answer.proofs.request.answer_by_ring.Goals as goal

pub returns-in-Ok-clause-served : goal.returns-in-Ok-clause-served
returns-in-Ok-clause-served g c =
    let old = books [] (g.H.HostView.state c.args.lent.now.host.now) (g.R.Repo.store c.args.lent.now.repo.now) (g.D.Draw.draws c.args.lent.now.draw.now) in
    let new = books c.ring_for.new.self.steps.now (g.H.HostView.state c.ring_for.new.self.host.now) (g.R.Repo.store c.ring_for.new.self.repo.now) (g.D.Draw.draws c.respond.new.draw) in
    ring_given c.args.setting.app.now c.args.now (request_of c.args.view) old new (g.D.Draw.draws c.ring_for.new.self.draw.now) c.requires.needs c.requires.dates c.in-Ok.ring c.respond.result
    (rw (c.need_of.ensures, c.in_ok-sought.ensures.sought.missing) at c.in-Ok.ensures.path) (rw c.need_of.ensures at c.in-Ok.ensures.enough) c.respond.ensures

pub returns-clause-served : goal.returns-clause-served
returns-clause-served g c =
    let draws = g.D.Draw.draws c.ring_for.new.self.draw.now in
    let old = books [] (g.H.HostView.state c.args.lent.now.host.now) (g.R.Repo.store c.args.lent.now.repo.now) (g.D.Draw.draws c.args.lent.now.draw.now) in
    let new = books c.ring_for.new.self.steps.now (g.H.HostView.state c.ring_for.new.self.host.now) (g.R.Repo.store c.ring_for.new.self.repo.now) draws in
    ring_refused c.args.setting.app.now c.args.now (request_of c.args.view) old new draws c.requires.needs c.requires.dates c.in-Err.why c.refused.result
    (rw (c.need_of.ensures, c.in_ok-sought.ensures.sought.missing) at c.in-Err.ensures.path) refl c.refused.ensures.known c.refused.ensures.answer
