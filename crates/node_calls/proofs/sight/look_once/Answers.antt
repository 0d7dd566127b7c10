use Rattle.std.proofs.Common.{◌≡◌, subst, ap, ◌∙◌, inr, ◌++◌, ◌∷◌, []}
use Rattle.std.proofs.lemmas.Result.{err_from_is_err_and}
use Rattle.key_elements.specs.Lists.{IsFirstDifference}
use Rattle.ring_world.specs.Flight.{Sight}
use Rattle.node_calls.specs.declared.error.Fork.{Fork}
use Rattle.node_calls.specs.HostState.{HostState}
use Rattle.node_calls.proofs.Sights.{seen_by, sighted-is, sight_steps-is}
use Rattle.node_calls.proofs.sight.look_once.Goals as goal

pub returns-in_err-fork-in-Some-clause-err : goal.returns-in_err-fork-in-Some-clause-err
returns-in_err-fork-in-Some-clause-err g c =
    let p = err_from_is_err_and c.from_residual-in_err-fork-in-Some.result c.from_residual-in_err-fork-in-Some.ensures.1 in
    let n = c.want-want.result in
    let r = c.in_ok-ring.ring in
    let s : Sight = record { want = n; ring = r } in
    let own : c.own.result.now ≡ (g.H.HostView.state c.args.host.now).own = c.own.ensures ∙ ap (λ (h : HostState). h.own) c.in_ok-ring.ensures.ok ∙ ap (λ (h : HostState). h.own) c.want-want.ensures.act in
    let at : IsFirstDifference c.own.result.now c.list.result.now c.in-Some.at = c.in-Some.ensures in
    let steps = sight_steps-is n r c.args.steps.now _ _ c.push.ensures (c.push-2.ensures ∙ ap (λ x. c.push.new.self ++ x ∷ []) c.look_step.ensures) in
    rw (p.1, p.2) (inr (
      s,
      c.in-Some.at,
      sighted-is n r _ _ _ c.want-want.ensures.act c.in_ok-ring.ensures.ok,
      steps,
      seen_by n r _ _ c.want-want.ensures.act c.want-want.ensures.number c.in_ok-ring.ensures.ring,
      subst (λ xs. IsFirstDifference xs r.list c.in-Some.at) own (subst (λ ys. IsFirstDifference c.own.result.now ys c.in-Some.at) c.list.ensures at),
    ))

pub returns-in_ok-fork-in-Some-clause-err : goal.returns-in_ok-fork-in-Some-clause-err
returns-in_ok-fork-in-Some-clause-err g c =
    let n = c.want-want.result in
    let r = c.in_ok-ring.ring in
    let s : Sight = record { want = n; ring = r } in
    let own : c.own.result.now ≡ (g.H.HostView.state c.args.host.now).own = c.own.ensures ∙ ap (λ (h : HostState). h.own) c.in_ok-ring.ensures.ok ∙ ap (λ (h : HostState). h.own) c.want-want.ensures.act in
    let at : IsFirstDifference c.own.result.now c.list.result.now c.in-Some.at = c.in-Some.ensures in
    let steps = sight_steps-is n r c.args.steps.now _ _ c.push.ensures (c.push-2.ensures ∙ ap (λ x. c.push.new.self ++ x ∷ []) c.look_step.ensures) in
    let f = c.in_ok-fork-in-Some.ensures in
    let place : c.in_ok-fork-in-Some.field-0.at ≡ c.in-Some.at = ap (λ (x : Fork). x.at) f in
    let left : c.in_ok-fork-in-Some.field-0.left ≡ (g.H.HostView.state c.args.host.now).own = ap (λ (x : Fork). x.left) f ∙ c.own-in-Some.ensures ∙ ap (λ (h : HostState). h.own) c.in_ok-ring.ensures.ok ∙ ap (λ (h : HostState). h.own) c.want-want.ensures.act in
    let right : c.in_ok-fork-in-Some.field-0.right ≡ r.list = ap (λ (x : Fork). x.right) f ∙ c.list-in-Some.ensures in (
      s,
      sighted-is n r _ _ _ c.want-want.ensures.act c.in_ok-ring.ensures.ok,
      steps,
      seen_by n r _ _ c.want-want.ensures.act c.want-want.ensures.number c.in_ok-ring.ensures.ring,
      rw place (subst (λ xs. IsFirstDifference xs r.list c.in-Some.at) own (subst (λ ys. IsFirstDifference c.own.result.now ys c.in-Some.at) c.list.ensures at)),
      left,
      right,
    )
