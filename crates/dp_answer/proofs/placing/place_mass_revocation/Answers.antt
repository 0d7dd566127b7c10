use Rattle.std.proofs.Common.{◌≡◌, ◌<◌, ℕ, List, [], false, refl, ap, ⊎_elim}
use Rattle.dp_base.specs.declared.ticks.TheConstants.{MAX_TICKS}
use Rattle.key_elements.specs.declared.element.Element.TheVariants.{RevokeBefore as Before}
use Rattle.ring_world.specs.Placing.{Asked}
use Rattle.node_calls.specs.declared.error.NodeError.TheVariants as errors
use Rattle.node_calls.specs.Books.{books}
use Rattle.node_calls.specs.Places.{asked}
use Rattle.dp_wire.specs.declared.reply.Reply.TheVariants as replies
use Rattle.dp_wire.specs.Replies.{reply_body}
use Rattle.dp_wire.specs.Request.{RevokeBefore}
use Rattle.dp_answer.proofs.Answers.{placed_given, placed_refused, front_at, misdated_by, same_books, late_tells, late_within}
use Rattle.dp_answer.proofs.placing.place_mass_revocation.Goals as goal

pub returns-in-Ok-clause-served : goal.returns-in-Ok-clause-served
returns-in-Ok-clause-served g c = λ app.
    let draws = g.D.Draw.draws c.args.lent.now.draw.now in
    let p = RevokeBefore c.args.date c.args.reason.now in
    let own = (g.H.HostView.state c.args.lent.now.host.now).own in
    let told = (g.R.Repo.store c.revoke_before.new.repo).list in
    let a : Asked = asked own false (λ _. Before c.args.date c.in_ok-reason.reason) told in
    let good : MAX_TICKS < c.args.date → ⊥ = λ bad. let e = c.in-Ok.ensures.bad_dates.1 bad in cc in
    let within = late_within c.args.date good in
    let x = c.in-Ok.ensures.path within draws in
    let asks = ap (λ (text : List ℕ). asked own false (λ _. Before c.args.date text) told) c.in_ok-reason.ensures.value in
    let front = front_at a c.in-Ok.place c.len-front.result _ c.own.result.now x.course x.is c.own.ensures c.len-front.ensures.value in
    (x.course.drawn, placed_given app p c.args.now a _ _ good asks c.in-Ok.place _ _ x c.placed.ensures (ap (λ (n : ℕ). reply_body (replies.RevokedBefore n)) front))

pub returns-in-Err-clause-served : goal.returns-in-Err-clause-served
returns-in-Err-clause-served g c = λ app.
    let draws = g.D.Draw.draws c.args.lent.now.draw.now in
    let p = RevokeBefore c.args.date c.args.reason.now in
    let h = g.H.HostView.state c.args.lent.now.host.now in
    let store = g.R.Repo.store c.args.lent.now.repo.now in
    let told = (g.R.Repo.store c.revoke_before.new.repo).list in
    let old = books [] h store draws in
    let new = books c.revoke_before.new.steps (g.H.HostView.state c.revoke_before.new.host) (g.R.Repo.store c.revoke_before.new.repo) draws in
    let a : Asked = asked h.own false (λ _. Before c.args.date c.in_ok-reason.reason) told in
    let asks = ap (λ (text : List ℕ). asked h.own false (λ _. Before c.args.date text) told) c.in_ok-reason.ensures.value in
    ⊎_elim (λ late.
    let e : c.in-Err.why ≡ errors.BadDates = let e = c.in-Err.ensures.bad_dates.1 late in cc in
    let u = c.in-Err.ensures.untouched late in
    let same = same_books c.revoke_before.new.steps h _ store _ draws draws u.2 (ap g.H.HostView.state u.0) (ap g.R.Repo.store u.1) refl in
    ([], misdated_by app p c.args.now old new _ c.in-Err.why late same e c.refused.ensures.answer))
    (λ good.
    let x = c.in-Err.ensures.path (late_within c.args.date good) draws in
    (x.course.drawn, placed_refused app p c.args.now a old new good asks c.in-Err.why _ x c.refused.ensures.known c.refused.ensures.answer))
    (late_tells c.args.date)
