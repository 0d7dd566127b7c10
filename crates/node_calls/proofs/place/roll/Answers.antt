use Rattle.std.proofs.Common.{false, ℕ, List, [], ◌∷◌, ◌++◌, ap, ◌∙◌, Ok, Err}
use Rattle.std.proofs.lemmas.Result.{err_from_is_err_and}
use Rattle.dp_base.specs.Codes.{code_of}
use Rattle.key_elements.specs.declared.element.Element.{Element}
use Rattle.repo_keeper.specs.Made.{key_of_draw}
use Rattle.node_calls.specs.Gather.{refusal}
use Rattle.node_calls.specs.Places.{asked}
use Rattle.node_calls.proofs.Books.{chain, as_kind}
use Rattle.node_calls.proofs.Placings.{roll_placed, roll_undrawn, place_not_dates}
use Rattle.node_calls.proofs.place.roll.Goals as goal

pub returns-in_err-key-clause-path : goal.returns-in_err-key-clause-path
returns-in_err-key-clause-path g c = λ good.
    let h = g.H.HostView.state c.args.host.now in
    let store = g.R.Repo.store c.args.repo.now in
    let p = err_from_is_err_and c.from_residual.result c.from_residual.ensures.1 in
    let make = λ (b : List ℕ). key_of_draw b c.args.now c.args.activation c.args.expiration (code_of c.args.alg) in
    let d = rw c.requires.room at (c.in_err-key.ensures.did good h store) in
    rw (p.1, p.2) (as_kind d (roll_undrawn store.list h.own make (refusal c.in_err-key.field-0.0)))

pub returns-in_err-place-clause-path : goal.returns-in_err-place-clause-path
returns-in_err-place-clause-path g c = λ good.
    let h = g.H.HostView.state c.args.host.now in
    let told = (g.R.Repo.store c.place_on.new.repo).list in
    let p = err_from_is_err_and c.from_residual-in_err-place.result c.from_residual-in_err-place.ensures.1 in
    let make = λ (b : List ℕ). key_of_draw b c.args.now c.args.activation c.args.expiration (code_of c.args.alg) in
    let k = rw c.requires.room at (c.in_ok-key.ensures.did good h (g.R.Repo.store c.args.repo.now)) in
    let a = c.in_err-place.ensures.did (g.D.Draw.draws c.draw_key.new.draw) in
    rw (p.1, p.2) (chain k a (roll_placed told h.own make c.in_ok-key.key (Err (refusal c.in_err-place.field-0.0)) _))

pub returns-in_err-place-clause-bad_dates : goal.returns-in_err-place-clause-bad_dates
returns-in_err-place-clause-bad_dates g c =
    let p = err_from_is_err_and c.from_residual-in_err-place.result c.from_residual-in_err-place.ensures.1 in
    let h = g.H.HostView.state c.args.host.now in
    let told = (g.R.Repo.store c.place_on.new.repo).list in
    let a = c.in_err-place.ensures.did (g.D.Draw.draws c.draw_key.new.draw) in
    (λ e. absurd (place_not_dates (asked h.own false (λ _. c.in_ok-key.key) told) c.in_err-place.field-0.0 _ a.course a.is (cc (p.1, p.2, e))), λ bad. let e = c.in_ok-key.ensures.bad_dates.1 bad in cc)

pub returns-in_err-place-clause-untouched : goal.returns-in_err-place-clause-untouched
returns-in_err-place-clause-untouched g c = λ bad. let e = c.in_ok-key.ensures.bad_dates.1 bad in cc

pub returns-clause-path : goal.returns-clause-path
returns-clause-path g c = λ good.
    let h = g.H.HostView.state c.args.host.now in
    let told = (g.R.Repo.store c.place_on.new.repo).list in
    let make = λ (b : List ℕ). key_of_draw b c.args.now c.args.activation c.args.expiration (code_of c.args.alg) in
    let k = rw c.requires.room at (c.in_ok-key.ensures.did good h (g.R.Repo.store c.args.repo.now)) in
    let a = c.in_ok-place.ensures.did (g.D.Draw.draws c.draw_key.new.draw) in
    chain k a (roll_placed told h.own make c.in_ok-key.key (Ok c.in_ok-place.place) _)

pub returns-clause-bad_dates : goal.returns-clause-bad_dates
returns-clause-bad_dates g c = (λ e. cc, λ bad. let e = c.in_ok-key.ensures.bad_dates.1 bad in cc)

pub returns-clause-untouched : goal.returns-clause-untouched
returns-clause-untouched g c = λ bad. let e = c.in_ok-key.ensures.bad_dates.1 bad in cc

pub returns-clause-id : goal.returns-clause-id
returns-clause-id g c =
    let k = c.in_ok-key.ensures.key in
    let l = c.in_ok-place.ensures.last in
    (l.0, k.0, l.1 ∙ ap (λ (e : Element). l.0 ++ e ∷ []) k.1, c.id_of-id.ensures k.0 k.1)
