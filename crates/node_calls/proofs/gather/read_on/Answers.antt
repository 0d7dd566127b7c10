use Rattle.std.proofs.Common.{◌≡◌, ◌∙◌, [], ◌∷◌, ◌++◌, ◌+◌, length, refl, ap, sym}
use Rattle.std.proofs.lemmas.List.{length-append}
use Rattle.std.proofs.lemmas.Result.{err_from_is_err_and}
use Rattle.node_calls.proofs.Refusals.{read_refused, read_gave, read_lost, read_from}
use Rattle.node_calls.proofs.gather.read_on.Goals as goal

pub returns-in_err-grown-in-Ok-clause-did : goal.returns-in_err-grown-in-Ok-clause-did
returns-in_err-grown-in-Ok-clause-did g c = λ host draws.
    let p = err_from_is_err_and c.from_residual.result c.from_residual.ensures.1 in
    let base = c.args.base.now in
    let tail = c.in-Ok.tail.items in
    let front : c.len-in-Ok.result + c.len-in-Ok-2.result ≡ length base + length tail = cc (c.len-in-Ok.ensures.value, c.len-in-Ok-2.ensures, c.in-Ok.tail.ok.0) in
    rw (p.1, p.2) (read_lost _ _ host _ _ draws c.args.private _ base (base ++ tail) _ (front ∙ sym (length-append base tail)) c.in-Ok.ensures.moved (c.push.ensures ∙ ap (λ x. c.args.steps.now ++ x ∷ []) c.read_step.ensures)
    (read_from _ base tail _ c.len.result c.len.ensures.value refl c.in-Ok.ensures.tail))

pub returns-in_ok-grown-in-Ok-clause-did : goal.returns-in_ok-grown-in-Ok-clause-did
returns-in_ok-grown-in-Ok-clause-did g c = λ host draws.
    let base = c.args.base.now in
    let tail = c.in-Ok.tail.items in
    let front : c.len-in-Ok.result + c.len-in-Ok-2.result ≡ length base + length tail = cc (c.len-in-Ok.ensures.value, c.len-in-Ok-2.ensures, c.in-Ok.tail.ok.0) in
    rw c.in_ok-grown-in-Ok.ensures (read_gave _ _ host _ _ draws c.args.private _ base (base ++ tail) _ (front ∙ sym (length-append base tail)) c.in-Ok.ensures.moved (c.push.ensures ∙ ap (λ x. c.args.steps.now ++ x ∷ []) c.read_step.ensures)
    (read_from _ base tail _ c.len.result c.len.ensures.value refl c.in-Ok.ensures.tail))

pub returns-in-Err-clause-did : goal.returns-in-Err-clause-did
returns-in-Err-clause-did g c = λ host draws.
    rw c.refused.ensures.error
    (read_refused _ _ host _ _ draws c.args.private (g.R.Repo.store c.read.new.self).list c.args.base.now c.len-in-Err.result c.in-Err.why c.len-in-Err.ensures.value c.in-Err.ensures.moved c.refused.ensures.steps (rw (c.len-in-Err.ensures.value, ← c.len.ensures.value) c.in-Err.ensures.cause))
