use Rattle.std.proofs.Common.{List, ◌≡◌, [], ◌∷◌, ◌++◌, length, refl, ◌≤◌, ◌<◌, true, false, arith, sym, ap, ◌∙◌, subst}
use Rattle.std.proofs.lemmas.Result.{err_from_is_err_and}
use Rattle.key_elements.specs.declared.element.Element.{Element}
use Rattle.ring_world.specs.declared.step.Step.TheVariants.{Take, Busy, Give}
use Rattle.ring_world.specs.Course.{stepped}
use Rattle.ring_world.specs.Lists.{longer}
use Rattle.ring_world.specs.Path.{is_enough_for, sight_course, after_sight, TurnGives, PathGives}
use Rattle.node_calls.specs.HostState.{HostState, taken}
use Rattle.node_calls.specs.Sight.{sight_of}
use Rattle.node_calls.specs.Gather.{refusal, in_paths}
use Rattle.node_calls.specs.Calls.{call}
use Rattle.node_calls.proofs.Books.{after, before, exactly, recorded-joined, IsFrontOf-trans, Grows-refl}
use Rattle.node_calls.proofs.Courses.{longer_extends_own, enough-target, IsFrontOf-in_line, path_at_once, path_turned, path_stale, path_alone, path_alone_lost, path_alone_refused, private_read}
use Rattle.node_calls.proofs.HostSteps.{did_sight, did_busy, did_take, did_give, path_refused}
use Rattle.node_calls.proofs.lent.Lent.find.Goals as goal

pub returns-in_err-sight-clause-did : goal.returns-in_err-sight-clause-did
returns-in_err-sight-clause-did g c = λ missing.
    let p = err_from_is_err_and c.from_residual.result c.from_residual.ensures.1 in
    rw (p.1, p.2) (path_refused (call c.args.at missing (g.H.HostView.state c.args.self.now.host.now) (g.R.Repo.store c.args.self.now.repo.now).list (g.R.Repo.store c.args.self.now.repo.now).list) _ _ _ _ _ _ refl refl c.in_err-sight.field-0.0 c.in_err-sight.ensures.err)

pub returns-then-is_enough-clause-did : goal.returns-then-is_enough-clause-did
returns-then-is_enough-clause-did g c = λ missing.
    let s = sight_of c.in_ok-sight.sight in
    let x = call c.args.at missing (g.H.HostView.state c.args.self.now.host.now) (g.R.Repo.store c.args.self.now.repo.now).list (g.R.Repo.store c.args.self.now.repo.now).list in
    let e = subst (λ n. is_enough_for c.args.at.now n s ≡ true) c.requires.target (sym c.is_enough.ensures ∙ c.if-is_enough.true) in
    exactly _ (did_sight _ _ _ _ _ _ s c.in_ok-sight.ensures.steps c.in_ok-sight.ensures.shows c.in_ok-sight.ensures.host) (path_at_once x s c.in_ok-sight.ensures.shows.2 c.in_ok-sight.ensures.in_line e)

pub returns-then-is_enough-clause-extends : goal.returns-then-is_enough-clause-extends
returns-then-is_enough-clause-extends g c =
    let s = sight_of c.in_ok-sight.sight in
    let l = enough-target c.args.at.now c.args.target s (sym c.is_enough.ensures ∙ c.if-is_enough.true) in
    IsFrontOf-in_line _ s.ring.list c.in_ok-sight.ensures.in_line (omega (arith, c.requires.target))

pub returns-then-target-len-clause-did : goal.returns-then-target-len-clause-did
returns-then-target-len-clause-did g c = λ missing.
    let s = sight_of c.in_ok-sight.sight in
    let h = g.H.HostView.state c.args.self.now.host.now in
    let e = subst (λ n. is_enough_for c.args.at.now n s ≡ false) c.requires.target (sym c.is_enough.ensures ∙ c.if-is_enough.false) in
    let l = subst (λ n. c.args.target ≤ n) (c.len.ensures.value ∙ ap length c.list.ensures) c.if-target-len.true in
    let x = call c.args.at missing h (g.R.Repo.store c.args.self.now.repo.now).list (g.R.Repo.store c.args.self.now.repo.now).list in
    let busy = sym (ap (λ (z : HostState). z.single) c.in_ok-sight.ensures.host) ∙ c.in-Err.ensures.0 in
    let r = recorded-joined (sight_course s []) (stepped (Busy c.in-Err.busy.holder ∷ [])) _ _ _ (did_sight _ _ _ _ (g.R.Repo.store c.args.self.now.repo.now) (g.D.Draw.draws c.args.self.now.draw.now) s c.in_ok-sight.ensures.steps c.in_ok-sight.ensures.shows c.in_ok-sight.ensures.host) (did_busy _ _ _ _ _ _ c.in-Err.busy.holder c.in-Err.ensures.1 c.push.ensures c.in-Err.ensures.2) in
    exactly _ r (path_stale x s c.in_ok-sight.ensures.shows.2 c.in_ok-sight.ensures.in_line e busy c.in-Err.busy.holder (subst (λ n. n ≤ length s.ring.list) c.requires.target l))

pub returns-then-target-len-clause-extends : goal.returns-then-target-len-clause-extends
returns-then-target-len-clause-extends g c =
    let s = sight_of c.in_ok-sight.sight in
    let l = subst (λ n. c.args.target ≤ n) (c.len.ensures.value ∙ ap length c.list.ensures) c.if-target-len.true in
    IsFrontOf-in_line _ s.ring.list c.in_ok-sight.ensures.in_line (omega (arith, c.requires.target, l))

pub returns-in_err-list-in-Err-clause-did : goal.returns-in_err-list-in-Err-clause-did
returns-in_err-list-in-Err-clause-did g c = λ missing.
    let s = sight_of c.in_ok-sight.sight in
    let h = g.H.HostView.state c.args.self.now.host.now in
    let e = subst (λ n. is_enough_for c.args.at.now n s ≡ false) c.requires.target (sym c.is_enough.ensures ∙ c.if-is_enough.false) in
    let l = subst (λ n. n < c.args.target) (c.len.ensures.value ∙ ap length c.list.ensures) c.if-target-len.false in
    let x = call c.args.at missing h (g.R.Repo.store c.args.self.now.repo.now).list (g.R.Repo.store c.read_on.new.repo).list in
    let p = err_from_is_err_and c.from_residual-in_err-list-in-Err.result c.from_residual-in_err-list-in-Err.ensures.1 in
    let own = ap (λ (z : HostState). z.own) c.in-Err.ensures.2 ∙ ap (λ (z : HostState). z.own) c.in_ok-sight.ensures.host in
    let busy = sym (ap (λ (z : HostState). z.single) c.in_ok-sight.ensures.host) ∙ c.in-Err.ensures.0 in
    let r = recorded-joined (sight_course s []) (stepped (Busy c.in-Err.busy.holder ∷ [])) _ _ _ (did_sight _ _ _ _ (g.R.Repo.store c.args.self.now.repo.now) (g.D.Draw.draws c.args.self.now.draw.now) s c.in_ok-sight.ensures.steps c.in_ok-sight.ensures.shows c.in_ok-sight.ensures.host) (did_busy _ _ _ _ _ _ c.in-Err.busy.holder c.in-Err.ensures.1 c.push.ensures c.in-Err.ensures.2) in
    let b : c.longer-base.result.now ≡ longer h.own s.ring.list = c.longer-base.ensures ∙ ap (λ (o : List Element). longer o c.list-in-Err.result.now) (c.own.ensures ∙ own) ∙ ap (λ (y : List Element). longer h.own y) c.list-in-Err.ensures in
    let d = rw b at (c.in_err-list-in-Err.ensures.did (g.H.HostView.state c.try_take.new.self) (g.D.Draw.draws c.args.self.now.draw.now)) in
    rw (p.1, p.2) (after _ _ r d (path_alone_refused x s c.in_ok-sight.ensures.shows.2 c.in_ok-sight.ensures.in_line e busy c.in-Err.busy.holder (refusal c.in_err-list-in-Err.field-0.0) (subst (λ n. length s.ring.list < n) c.requires.target l)))

pub returns-in_err-of-in-Err-clause-did : goal.returns-in_err-of-in-Err-clause-did
returns-in_err-of-in-Err-clause-did g c = λ missing.
    let s = sight_of c.in_ok-sight.sight in
    let h = g.H.HostView.state c.args.self.now.host.now in
    let e = subst (λ n. is_enough_for c.args.at.now n s ≡ false) c.requires.target (sym c.is_enough.ensures ∙ c.if-is_enough.false) in
    let l = subst (λ n. n < c.args.target) (c.len.ensures.value ∙ ap length c.list.ensures) c.if-target-len.false in
    let x = call c.args.at missing h (g.R.Repo.store c.args.self.now.repo.now).list (g.R.Repo.store c.read_on.new.repo).list in
    let p = err_from_is_err_and c.from_residual-in_err-of-in-Err.result c.from_residual-in_err-of-in-Err.ensures.1 in
    let own = ap (λ (z : HostState). z.own) c.in-Err.ensures.2 ∙ ap (λ (z : HostState). z.own) c.in_ok-sight.ensures.host in
    let busy = sym (ap (λ (z : HostState). z.single) c.in_ok-sight.ensures.host) ∙ c.in-Err.ensures.0 in
    let r = recorded-joined (sight_course s []) (stepped (Busy c.in-Err.busy.holder ∷ [])) _ _ _ (did_sight _ _ _ _ (g.R.Repo.store c.args.self.now.repo.now) (g.D.Draw.draws c.args.self.now.draw.now) s c.in_ok-sight.ensures.steps c.in_ok-sight.ensures.shows c.in_ok-sight.ensures.host) (did_busy _ _ _ _ _ _ c.in-Err.busy.holder c.in-Err.ensures.1 c.push.ensures c.in-Err.ensures.2) in
    let b : c.longer-base.result.now ≡ longer h.own s.ring.list = c.longer-base.ensures ∙ ap (λ (o : List Element). longer o c.list-in-Err.result.now) (c.own.ensures ∙ own) ∙ ap (λ (y : List Element). longer h.own y) c.list-in-Err.ensures in
    let d = rw b at (c.in_ok-list-in-Err.ensures.did (g.H.HostView.state c.try_take.new.self) (g.D.Draw.draws c.args.self.now.draw.now)) in
    rw (p.1, p.2) (after _ _ r d (path_alone_lost x s c.in_ok-sight.ensures.shows.2 c.in_ok-sight.ensures.in_line e busy c.in-Err.busy.holder c.in_ok-list-in-Err.list (subst (λ n. length s.ring.list < n) c.requires.target l)))

pub returns-in-Err-clause-did : goal.returns-in-Err-clause-did
returns-in-Err-clause-did g c = λ missing.
    let s = sight_of c.in_ok-sight.sight in
    let h = g.H.HostView.state c.args.self.now.host.now in
    let e = subst (λ n. is_enough_for c.args.at.now n s ≡ false) c.requires.target (sym c.is_enough.ensures ∙ c.if-is_enough.false) in
    let l = subst (λ n. n < c.args.target) (c.len.ensures.value ∙ ap length c.list.ensures) c.if-target-len.false in
    let x = call c.args.at missing h (g.R.Repo.store c.args.self.now.repo.now).list (g.R.Repo.store c.read_on.new.repo).list in
    let own = ap (λ (z : HostState). z.own) c.in-Err.ensures.2 ∙ ap (λ (z : HostState). z.own) c.in_ok-sight.ensures.host in
    let busy = sym (ap (λ (z : HostState). z.single) c.in_ok-sight.ensures.host) ∙ c.in-Err.ensures.0 in
    let r = recorded-joined (sight_course s []) (stepped (Busy c.in-Err.busy.holder ∷ [])) _ _ _ (did_sight _ _ _ _ (g.R.Repo.store c.args.self.now.repo.now) (g.D.Draw.draws c.args.self.now.draw.now) s c.in_ok-sight.ensures.steps c.in_ok-sight.ensures.shows c.in_ok-sight.ensures.host) (did_busy _ _ _ _ _ _ c.in-Err.busy.holder c.in-Err.ensures.1 c.push.ensures c.in-Err.ensures.2) in
    let b : c.longer-base.result.now ≡ longer h.own s.ring.list = c.longer-base.ensures ∙ ap (λ (o : List Element). longer o c.list-in-Err.result.now) (c.own.ensures ∙ own) ∙ ap (λ (y : List Element). longer h.own y) c.list-in-Err.ensures in
    let d = rw b at (c.in_ok-list-in-Err.ensures.did (g.H.HostView.state c.try_take.new.self) (g.D.Draw.draws c.args.self.now.draw.now)) in
    rw c.in_ok-of-in-Err.ensures (after _ _ r d (path_alone x s c.in_ok-sight.ensures.shows.2 c.in_ok-sight.ensures.in_line e busy c.in-Err.busy.holder c.in_ok-list-in-Err.list (subst (λ n. length s.ring.list < n) c.requires.target l)))

pub returns-in-Err-clause-extends : goal.returns-in-Err-clause-extends
returns-in-Err-clause-extends g c =
    let s = sight_of c.in_ok-sight.sight in
    let h = g.H.HostView.state c.args.self.now.host.now in
    let own = ap (λ (z : HostState). z.own) c.in-Err.ensures.2 ∙ ap (λ (z : HostState). z.own) c.in_ok-sight.ensures.host in
    let e = rw (c.longer-base.ensures, c.own.ensures, c.list-in-Err.ensures, own) at c.in_ok-list-in-Err.ensures.extends in
    rw c.in_ok-of-in-Err.ensures (IsFrontOf-trans h.own _ c.in_ok-list-in-Err.list (longer_extends_own h.own s.ring.list c.in_ok-sight.ensures.in_line) e)

pub returns-in-Err-clause-looked : goal.returns-in-Err-clause-looked
returns-in-Err-clause-looked g c = λ h.
    let d = c.in_ok-list-in-Err.ensures.did (g.H.HostView.state c.try_take.new.self) (g.D.Draw.draws c.args.self.now.draw.now) in
    let yes = private_read _ _ (length c.in_ok-list-in-Err.list) (d.recorded.steps ∙ ap (λ y. c.push.new.self ++ y.steps) d.is.1) in
    cc (yes, h)

pub returns-clause-did : goal.returns-clause-did
returns-clause-did g c = λ missing.
    let s = sight_of c.in_ok-sight.sight in
    let h = g.H.HostView.state c.args.self.now.host.now in
    let told = (g.R.Repo.store c.under_turn-found.new.self.repo.now).list in
    let e = subst (λ n. is_enough_for c.args.at.now n s ≡ false) c.requires.target (sym c.is_enough.ensures ∙ c.if-is_enough.false) in
    let x = call c.args.at missing h (g.R.Repo.store c.args.self.now.repo.now).list told in
    let r = recorded-joined (sight_course s []) (stepped (Take ∷ [])) _ _ _ (did_sight _ _ _ _ (g.R.Repo.store c.args.self.now.repo.now) (g.D.Draw.draws c.args.self.now.draw.now) s c.in_ok-sight.ensures.steps c.in_ok-sight.ensures.shows c.in_ok-sight.ensures.host) (did_take _ _ _ _ _ _ c.in-Ok.ensures.0 c.push-in-Ok.ensures c.in-Ok.ensures.1 c.in-Ok.ensures.2) in
    let result = in_paths c.under_turn-found.result in
    let host = c.in-Ok.ensures.2 ∙ ap (taken c.in-Ok.ensures.0) c.in_ok-sight.ensures.host in
    after _ _ r (before {R = λ y. PathGives x result (after_sight s (Take ∷ []) y)} (Give ∷ []) (c.under_turn-found.ensures.did missing (g.R.Repo.store c.args.self.now.repo.now).list (Grows-refl _)) (did_give _ _ _ _ _ _ c.push-in-Ok-2.ensures c.give.ensures)
    (λ y p. path_turned x s c.in_ok-sight.ensures.shows.2 c.in_ok-sight.ensures.in_line e result y (subst (λ (z : HostState). TurnGives (call c.args.at missing z (g.R.Repo.store c.args.self.now.repo.now).list told) result y) host p))) (λ y p. p)
