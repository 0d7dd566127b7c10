use Rattle.std.proofs.Common.{◌≡◌, [], ◌∷◌, refl, true, false, sym, ap, ◌∙◌, subst}
use Rattle.ring_world.specs.declared.step.Step.TheVariants.{Take, Busy, Give}
use Rattle.ring_world.specs.Course.{idle, led}
use Rattle.ring_world.specs.Settle.{Keeps, Stays, SecondGives, SettleGives, settled, misses}
use Rattle.node_calls.specs.HostState.{HostState}
use Rattle.node_calls.specs.Gather.{in_paths}
use Rattle.node_calls.specs.Calls.{call}
use Rattle.node_calls.proofs.Books.{after, before as behind, exactly, nothing}
use Rattle.node_calls.proofs.Courses.{private_front}
use Rattle.node_calls.proofs.Settles.{settle_again}
use Rattle.node_calls.proofs.HostSteps.{did_busy, did_take, did_give}
use Rattle.node_calls.proofs.lent.Lent.settle.Goals as goal

pub returns-then-not-misses-clause-did : goal.returns-then-not-misses-clause-did
returns-then-not-misses-clause-did g c = λ before since.
    let h = g.H.HostView.state c.args.self.now.host.now in
    let told = (g.R.Repo.store c.args.self.now.repo.now).list in
    let m : misses (call c.args.at c.args.missing h before told) c.args.self.now.steps.now c.args.found ≡ false =
    rw c.as_slice.ensures at (sym (c.misses.ensures h before told (sym c.facts.ensures)) ∙ c.if-not-misses.true) in
    exactly idle (nothing _ _ _ _) (settled Keeps m tt refl refl)

pub returns-in-Err-clause-did : goal.returns-in-Err-clause-did
returns-in-Err-clause-did g c = λ before since.
    let h = g.H.HostView.state c.args.self.now.host.now in
    let told = (g.R.Repo.store c.args.self.now.repo.now).list in
    let m : misses (call c.args.at c.args.missing h before told) c.args.self.now.steps.now c.args.found ≡ true =
    rw c.as_slice.ensures at (sym (c.misses.ensures h before told (sym c.facts.ensures)) ∙ c.if-not-misses.false) in
    exactly _ (did_busy _ _ _ _ _ _ c.in-Err.busy.holder c.in-Err.ensures.1 c.push.ensures c.in-Err.ensures.2) (settled (Stays c.in-Err.busy.holder) (m, c.in-Err.ensures.0) tt refl refl)

pub returns-in-Err-clause-looked : goal.returns-in-Err-clause-looked
returns-in-Err-clause-looked g c = λ n.
    ap (λ (s : HostState). s.looked) c.in-Err.ensures.2 ∙ c.requires.looked (private_front c.args.self.now.steps.now (Busy c.in-Err.busy.holder ∷ []) c.push.new.self c.push.ensures n)

pub returns-in-Ok-clause-did : goal.returns-in-Ok-clause-did
returns-in-Ok-clause-did g c = λ before since.
    let h = g.H.HostView.state c.args.self.now.host.now in
    let told = (g.R.Repo.store c.fly_again-again.new.self.repo.now).list in
    let x = call c.args.at c.args.missing h before told in
    let m : misses x c.args.self.now.steps.now c.args.found ≡ true =
    rw c.as_slice.ensures at (sym (c.misses.ensures h before told (sym c.facts.ensures)) ∙ c.if-not-misses.false) in
    let result = in_paths c.fly_again-again.result in
    after _ _ (did_take _ _ _ _ _ _ c.in-Ok.ensures.0 c.push-in-Ok.ensures c.in-Ok.ensures.1 c.in-Ok.ensures.2)
    (behind {R = λ y. SettleGives x c.args.self.now.steps.now c.args.found result (led (Take ∷ []) [] y)} (Give ∷ []) (c.fly_again-again.ensures.did c.args.missing before since) (did_give _ _ _ _ _ _ c.push-in-Ok-2.ensures c.give.ensures)
    (λ y p. settle_again x c.args.self.now.steps.now c.args.found m result y (subst (λ (z : HostState). SecondGives (call c.args.at c.args.missing z before told) result y) c.in-Ok.ensures.2 p))) (λ y p. p)

pub returns-in-Ok-clause-kept : goal.returns-in-Ok-clause-kept
returns-in-Ok-clause-kept g c = λ before n.
    let h = g.H.HostView.state c.args.self.now.host.now in
    let told = (g.R.Repo.store c.fly_again-again.new.self.repo.now).list in
    let m : misses (call c.args.at c.args.missing h before told) c.args.self.now.steps.now c.args.found ≡ true =
    rw c.as_slice.ensures at (sym (c.misses.ensures h before told (sym c.facts.ensures)) ∙ c.if-not-misses.false) in
    absurd (cc (m, n))
