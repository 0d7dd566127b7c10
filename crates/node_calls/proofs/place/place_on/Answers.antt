use Rattle.std.proofs.Common.{◌≡◌, [], ◌∷◌, ◌++◌, length, refl, sym, ap, ◌∙◌, arith, append_assoc}
use Rattle.std.proofs.lemmas.Result.{err_from_is_err_and}
use Rattle.ring_world.specs.declared.step.Step.TheVariants.{RaiseWant, Answer}
use Rattle.ring_world.specs.Course.{stepped}
use Rattle.node_calls.specs.HostState.{HostState, raised}
use Rattle.node_calls.specs.Gather.{refusal}
use Rattle.node_calls.proofs.Books.{before, as_kind, recorded-joined}
use Rattle.node_calls.proofs.HostSteps.{did_raise, did_answer}
use Rattle.node_calls.proofs.Placings.{append_placed, append_unplaced, grown-some, no_draws}
use Rattle.node_calls.proofs.place.place_on.Goals as goal

pub returns-in_err-list-clause-did : goal.returns-in_err-list-clause-did
returns-in_err-list-clause-did g c = λ draws.
    let h = g.H.HostView.state c.args.host.now in
    let told = (g.R.Repo.store c.append_on.new.repo).list in
    let p = err_from_is_err_and c.from_residual.result c.from_residual.ensures.1 in
    let d = rw c.own.ensures at (c.in_err-list.ensures.did h draws) in
    rw (p.1, p.2) (as_kind d (append_unplaced told h.own c.args.element.now (refusal c.in_err-list.field-0.0)))

pub overflow_sub-result : goal.overflow_sub-result
overflow_sub-result g c =
    let d = c.in_ok-list.ensures.did (g.H.HostView.state c.args.host.now) no_draws in
    omega (arith, c.len-count.ensures.value, grown-some c.own.result.now c.in_ok-list.list c.args.element.now d.is.1)

pub returns-clause-did : goal.returns-clause-did
returns-clause-did g c = λ draws.
    let h = g.H.HostView.state c.args.host.now in
    let told = (g.R.Repo.store c.append_on.new.repo).list in
    let list = c.in_ok-list.list in
    let n : c.len-count.result ≡ length list = c.len-count.ensures.value in
    let d = rw c.own.ensures at (c.in_ok-list.ensures.did h draws) in
    let host : g.H.HostView.state c.raise_want.new.self ≡ raised (length list) (record h { own = list }) = c.raise_want.ensures ∙ ap (λ m. raised m (g.H.HostView.state c.keep.new.self)) n ∙ ap (raised (length list)) c.keep.ensures in
    let own : (g.H.HostView.state c.raise_want.new.self).own ≡ list = ap (λ (s : HostState). s.own) host in
    let first = did_raise _ _ h (raised (length list) h) (g.R.Repo.store c.append_on.new.repo) draws (length list) (c.push.ensures ∙ ap (λ m. c.append_on.new.steps ++ RaiseWant m ∷ []) n) refl in
    let second = did_answer _ _ (raised (length list) h) (g.H.HostView.state c.raise_want.new.self) (g.R.Repo.store c.append_on.new.repo) draws list c.push-2.ensures host in
    let both = recorded-joined (stepped (RaiseWant (length list) ∷ [])) (stepped (Answer ∷ [])) _ _ _ first second in
    rw (own, n) (before (RaiseWant (length list) ∷ Answer ∷ []) d both (append_placed told h.own c.args.element.now list))

pub returns-clause-last : goal.returns-clause-last
returns-clause-last g c =
    let d = c.in_ok-list.ensures.did (g.H.HostView.state c.args.host.now) no_draws in
    let own : (g.H.HostView.state c.raise_want.new.self).own ≡ c.in_ok-list.list = ap (λ (s : HostState). s.own) c.raise_want.ensures ∙ ap (λ (s : HostState). s.own) c.keep.ensures in
    let e = c.args.element.now in
    (c.own.result.now ++ d.is.1.0, own ∙ d.is.1.1 ∙ sym (append_assoc c.own.result.now d.is.1.0 (e ∷ [])))
