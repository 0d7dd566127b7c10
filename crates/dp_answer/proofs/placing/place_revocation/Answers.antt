use Rattle.std.proofs.Common.{ℕ, List, false, ap}
use Rattle.key_elements.specs.declared.element.Element.TheVariants.{RevokeKey}
use Rattle.ring_world.specs.Placing.{Asked}
use Rattle.node_calls.specs.Places.{asked}
use Rattle.dp_wire.specs.declared.reply.Reply.TheVariants as replies
use Rattle.dp_wire.specs.Replies.{reply_body}
use Rattle.dp_wire.specs.Request.{Revoke}
use Rattle.dp_answer.proofs.Answers.{placed_given, placed_refused, front_at}
use Rattle.dp_answer.proofs.placing.place_revocation.Goals as goal

pub returns-in-Ok-clause-served : goal.returns-in-Ok-clause-served
returns-in-Ok-clause-served g c = λ app.
    let draws = g.D.Draw.draws c.args.lent.now.draw.now in
    let p = Revoke c.args.id.0 c.args.reason.now in
    let own = (g.H.HostView.state c.args.lent.now.host.now).own in
    let told = (g.R.Repo.store c.revoke.new.repo).list in
    let a : Asked = asked own false (λ _. RevokeKey c.args.id c.args.now c.in_ok-reason.reason) told in
    let x = c.in-Ok.ensures.path draws in
    let asks = ap (λ (text : List ℕ). asked own false (λ _. RevokeKey c.args.id c.args.now text) told) c.in_ok-reason.ensures.value in
    let front = front_at a c.in-Ok.place c.len-front.result _ c.own.result.now x.course x.is c.own.ensures c.len-front.ensures.value in
    (x.course.drawn, placed_given app p c.args.now a _ _ (λ bad. bad) asks c.in-Ok.place _ _ x c.placed.ensures (ap (λ (n : ℕ). reply_body (replies.Revoked n)) front))

pub returns-in-Err-clause-served : goal.returns-in-Err-clause-served
returns-in-Err-clause-served g c = λ app.
    let draws = g.D.Draw.draws c.args.lent.now.draw.now in
    let p = Revoke c.args.id.0 c.args.reason.now in
    let own = (g.H.HostView.state c.args.lent.now.host.now).own in
    let told = (g.R.Repo.store c.revoke.new.repo).list in
    let a : Asked = asked own false (λ _. RevokeKey c.args.id c.args.now c.in_ok-reason.reason) told in
    let x = c.in-Err.ensures.path draws in
    let asks = ap (λ (text : List ℕ). asked own false (λ _. RevokeKey c.args.id c.args.now text) told) c.in_ok-reason.ensures.value in
    (x.course.drawn, placed_refused app p c.args.now a _ _ (λ bad. bad) asks c.in-Err.why _ x c.refused.ensures.known c.refused.ensures.answer)
