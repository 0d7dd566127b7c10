use Rattle.std.proofs.Common.{[], ◌∷◌, false, refl, subst}
use Rattle.std.proofs.lemmas.Result.{err_from_is_err_and}
use Rattle.ring_world.specs.Lists.{longer}
use Rattle.ring_world.specs.Flight.{sight_steps, FlightGives}
use Rattle.node_calls.specs.HostState.{HostState}
use Rattle.node_calls.specs.Sight.{sight_of}
use Rattle.node_calls.specs.Gather.{in_paths}
use Rattle.node_calls.specs.Calls.{call, terms}
use Rattle.node_calls.proofs.Books.{after}
use Rattle.node_calls.proofs.Settles.{second_flies}
use Rattle.node_calls.proofs.HostSteps.{did_sight, second_refused}
use Rattle.node_calls.proofs.lent.Lent.fly_again.Goals as goal

pub returns-in_err-sight-clause-did : goal.returns-in_err-sight-clause-did
returns-in_err-sight-clause-did g c = λ missing before since.
    let p = err_from_is_err_and c.from_residual.result c.from_residual.ensures.1 in
    rw (p.1, p.2) (second_refused (call c.args.at missing (g.H.HostView.state c.args.self.now.host.now) before (g.R.Repo.store c.args.self.now.repo.now).list) _ _ _ _ _ _ refl refl c.in_err-sight.field-0.0 c.in_err-sight.ensures.err)

pub returns-clause-did : goal.returns-clause-did
returns-clause-did g c = λ missing before since.
    let s = sight_of c.in_ok-sight.sight in
    let h = g.H.HostView.state c.args.self.now.host.now in
    let told = (g.R.Repo.store c.flight.new.self.repo.now).list in
    let x = call c.args.at missing h before told in
    let r = in_paths c.flight.result in
    after (sight_steps s) (s.ring ∷ []) (did_sight _ _ _ _ _ _ s c.in_ok-sight.ensures.steps c.in_ok-sight.ensures.shows c.in_ok-sight.ensures.host) (c.flight.ensures.did before since)
    (λ d p. second_flies x s c.in_ok-sight.ensures.shows.2 r c.in_ok-sight.ensures.in_line d (subst (λ (z : HostState). FlightGives (terms c.args.at.now z.facts.options false before told) (longer z.own s.ring.list) s r d) c.in_ok-sight.ensures.host p))
