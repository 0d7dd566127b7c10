use Rattle.std.proofs.Common.{◌≡◌, [], ◌∷◌, refl, true, false, arith, sym, ◌∙◌, subst}
use Rattle.std.proofs.lemmas.Result.{err_from_is_err_and}
use Rattle.ring_world.specs.Lists.{longer}
use Rattle.ring_world.specs.Flight.{sight_steps, FlightGives}
use Rattle.ring_world.specs.Path.{is_enough_for}
use Rattle.node_calls.specs.HostState.{HostState}
use Rattle.node_calls.specs.Sight.{sight_of}
use Rattle.node_calls.specs.Gather.{in_paths}
use Rattle.node_calls.specs.Calls.{call, terms}
use Rattle.node_calls.proofs.Books.{after, exactly}
use Rattle.node_calls.proofs.Courses.{turn_flies, turn_rests, enough-target, IsFrontOf-in_line}
use Rattle.node_calls.proofs.HostSteps.{did_sight, turn_refused}
use Rattle.node_calls.proofs.lent.Lent.under_turn.Goals as goal

pub returns-in_err-sight-clause-did : goal.returns-in_err-sight-clause-did
returns-in_err-sight-clause-did g c = λ missing before since.
    let p = err_from_is_err_and c.from_residual.result c.from_residual.ensures.1 in
    rw (p.1, p.2) (turn_refused (call c.args.at missing (g.H.HostView.state c.args.self.now.host.now) before (g.R.Repo.store c.args.self.now.repo.now).list) _ _ _ _ _ _ refl refl c.in_err-sight.field-0.0 c.in_err-sight.ensures.err)

pub returns-then-is_enough-clause-did : goal.returns-then-is_enough-clause-did
returns-then-is_enough-clause-did g c = λ missing before since.
    let s = sight_of c.in_ok-sight.sight in
    let x = call c.args.at missing (g.H.HostView.state c.args.self.now.host.now) before (g.R.Repo.store c.args.self.now.repo.now).list in
    let e = subst (λ n. is_enough_for c.args.at.now n s ≡ true) c.requires.target (sym c.is_enough.ensures ∙ c.if-is_enough.true) in
    exactly _ (did_sight _ _ _ _ _ _ s c.in_ok-sight.ensures.steps c.in_ok-sight.ensures.shows c.in_ok-sight.ensures.host) (turn_rests x s c.in_ok-sight.ensures.shows.2 c.in_ok-sight.ensures.in_line e)

pub returns-then-is_enough-clause-extends : goal.returns-then-is_enough-clause-extends
returns-then-is_enough-clause-extends g c =
    let s = sight_of c.in_ok-sight.sight in
    let l = enough-target c.args.at.now c.args.target s (sym c.is_enough.ensures ∙ c.if-is_enough.true) in
    IsFrontOf-in_line _ s.ring.list c.in_ok-sight.ensures.in_line (omega (arith, c.requires.target))

pub returns-clause-did : goal.returns-clause-did
returns-clause-did g c = λ missing before since.
    let s = sight_of c.in_ok-sight.sight in
    let h = g.H.HostView.state c.args.self.now.host.now in
    let told = (g.R.Repo.store c.flight.new.self.repo.now).list in
    let e = subst (λ n. is_enough_for c.args.at.now n s ≡ false) c.requires.target (sym c.is_enough.ensures ∙ c.if-is_enough.false) in
    let x = call c.args.at missing h before told in
    let r = in_paths c.flight.result in
    after (sight_steps s) (s.ring ∷ []) (did_sight _ _ _ _ _ _ s c.in_ok-sight.ensures.steps c.in_ok-sight.ensures.shows c.in_ok-sight.ensures.host) (c.flight.ensures.did before since)
    (λ d p. turn_flies x s c.in_ok-sight.ensures.shows.2 r c.in_ok-sight.ensures.in_line e d (subst (λ (z : HostState). FlightGives (terms c.args.at.now z.facts.options false before told) (longer z.own s.ring.list) s r d) c.in_ok-sight.ensures.host p))
