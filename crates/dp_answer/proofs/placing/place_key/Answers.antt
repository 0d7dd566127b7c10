use Rattle.std.proofs.Common.{◌≡◌, ℕ, true, [], ap, ⊎_elim}
use Rattle.dp_base.specs.Codes.{code_of}
use Rattle.repo_keeper.specs.Made.{key_of_draw, AreBadDates}
use Rattle.ring_world.specs.Placing.{Asked}
use Rattle.node_calls.specs.declared.error.NodeError.TheVariants as errors
use Rattle.node_calls.specs.Books.{books}
use Rattle.node_calls.specs.Places.{asked}
use Rattle.dp_wire.specs.Request.{Roll}
use Rattle.dp_answer.proofs.Answers.{placed_given, placed_refused, front_at, rolled_reply, misdated_by, same_books, dates_tell}
use Rattle.dp_answer.proofs.placing.place_key.Goals as goal

pub returns-in-Ok-clause-served : goal.returns-in-Ok-clause-served
returns-in-Ok-clause-served g c = λ app.
    let p = Roll c.args.activation c.args.expiration c.args.code in
    let own = (g.H.HostView.state c.args.lent.now.host.now).own in
    let told = (g.R.Repo.store c.roll.new.repo).list in
    let a : Asked = asked own true (λ bytes. key_of_draw bytes c.args.now c.args.activation c.args.expiration (code_of c.in-Some.alg)) told in
    let good : AreBadDates c.args.now c.args.activation c.args.expiration → ⊥ = λ bad. let e = c.in-Ok.ensures.bad_dates.1 bad in cc in
    let x = c.in-Ok.ensures.path good in
    let asks = ap (λ (n : ℕ). asked own true (λ bytes. key_of_draw bytes c.args.now c.args.activation c.args.expiration n) told) c.in-Some.ensures.value in
    let front = front_at a c.in-Ok.key.place c.len-front.result _ c.own.result.now x.course x.is c.own.ensures c.len-front.ensures.value in
    let reply = rolled_reply c.in-Ok.key.id own told c.in-Ok.key.place c.len-front.result c.args.now c.args.activation c.args.expiration (code_of c.in-Some.alg) _ x.course x.is c.in-Ok.ensures.id front in
    (x.course.drawn, placed_given app p c.args.now a _ _ good asks c.in-Ok.key.place _ _ x c.placed.ensures reply)

pub returns-in-Err-clause-served : goal.returns-in-Err-clause-served
returns-in-Err-clause-served g c = λ app.
    let p = Roll c.args.activation c.args.expiration c.args.code in
    let h = g.H.HostView.state c.args.lent.now.host.now in
    let store = g.R.Repo.store c.args.lent.now.repo.now in
    let draws = g.D.Draw.draws c.args.lent.now.draw.now in
    let told = (g.R.Repo.store c.roll.new.repo).list in
    let old = books [] h store draws in
    let new = books c.roll.new.steps (g.H.HostView.state c.roll.new.host) (g.R.Repo.store c.roll.new.repo) (g.D.Draw.draws c.roll.new.draw) in
    let a : Asked = asked h.own true (λ bytes. key_of_draw bytes c.args.now c.args.activation c.args.expiration (code_of c.in-Some.alg)) told in
    let asks = ap (λ (n : ℕ). asked h.own true (λ bytes. key_of_draw bytes c.args.now c.args.activation c.args.expiration n) told) c.in-Some.ensures.value in
    ⊎_elim (λ bad.
    let e : c.in-Err.why ≡ errors.BadDates = let e = c.in-Err.ensures.bad_dates.1 bad in cc in
    let u = c.in-Err.ensures.untouched bad in
    let same = same_books c.roll.new.steps h _ store _ draws _ u.3 (ap g.H.HostView.state u.0) (ap g.R.Repo.store u.1) (ap g.D.Draw.draws u.2) in
    ([], misdated_by app p c.args.now old new _ c.in-Err.why bad same e c.refused.ensures.answer))
    (λ good.
    let x = c.in-Err.ensures.path good in
    (x.course.drawn, placed_refused app p c.args.now a old new good asks c.in-Err.why _ x c.refused.ensures.known c.refused.ensures.answer))
    (dates_tell c.args.now c.args.activation c.args.expiration)
