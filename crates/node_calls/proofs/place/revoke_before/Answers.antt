use Rattle.std.proofs.Common.{false, subst}
use Rattle.key_elements.specs.declared.element.Element.{Element}
use Rattle.ring_world.specs.Placing.{PlacePath}
use Rattle.node_calls.specs.Gather.{in_paths}
use Rattle.node_calls.specs.Places.{asked}
use Rattle.node_calls.proofs.Books.{as_kind}
use Rattle.node_calls.proofs.Placings.{result_not_dates, no_draws}
use Rattle.node_calls.proofs.place.revoke_before.Goals as goal

pub returns-in-Ok-clause-path : goal.returns-in-Ok-clause-path
returns-in-Ok-clause-path g c = λ late draws.
    let h = g.H.HostView.state c.args.host.now in
    let told = (g.R.Repo.store c.place_on.new.repo).list in
    let d = rw c.requires.room at (c.place_on.ensures.did draws) in
    as_kind d (λ y p. subst (λ (x : Element). PlacePath (asked h.own false (λ _. x) told) (in_paths c.place_on.result) (g.H.HostView.state c.place_on.new.host).own y) c.in-Ok.ensures.made.0 p)

pub returns-in-Ok-clause-bad_dates : goal.returns-in-Ok-clause-bad_dates
returns-in-Ok-clause-bad_dates g c =
    let h = g.H.HostView.state c.args.host.now in
    let told = (g.R.Repo.store c.place_on.new.repo).list in
    let d = c.place_on.ensures.did no_draws in (
      λ e. absurd (result_not_dates (asked h.own false (λ _. c.in-Ok.element) told) c.place_on.result (g.H.HostView.state c.place_on.new.host).own d.course d.is e),
      λ late. cc (c.in-Ok.ensures.bad_dates.1 late),
    )
