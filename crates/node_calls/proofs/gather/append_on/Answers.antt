use Rattle.std.proofs.Common.{◌≡◌, ◌++◌, ◌+◌, ◌-◌, length, refl}
use Rattle.std.proofs.lemmas.Result.{err_from_is_err_and}
use Rattle.node_calls.proofs.Refusals.{append_refused, append_gave, append_lost, appended, read_from}
use Rattle.node_calls.proofs.gather.append_on.Goals as goal

pub returns-in-Err-clause-did : goal.returns-in-Err-clause-did
returns-in-Err-clause-did g c = λ host draws.
    rw c.refused.ensures.error
    (append_refused _ _ host _ _ draws (g.R.Repo.store c.append.new.self).list c.args.list.now c.args.element.now c.len-in-Err.result c.in-Err.why c.len-in-Err.ensures.value c.in-Err.ensures.moved c.refused.ensures.steps (rw (c.len-in-Err.ensures.value, ← c.len.ensures.value) c.in-Err.ensures.cause))

pub returns-in_err-grown-in-Ok-clause-did : goal.returns-in_err-grown-in-Ok-clause-did
returns-in_err-grown-in-Ok-clause-did g c = λ host draws.
    let p = err_from_is_err_and c.from_residual.result c.from_residual.ensures.1 in
    let es = c.args.list.now in
    let tail = c.in-Ok.tail.items in
    let told = (g.R.Repo.store c.append.new.self).list in
    let q = appended c.args.element.now c.len.result es tail c.len.ensures.value c.in-Ok.ensures.last in
    let place : c.len-in-Ok.result + c.len-in-Ok-2.result - 1 ≡ c.len.result + length tail - 1 = cc (c.len-in-Ok.ensures.value, c.len.ensures.value, c.len-in-Ok-2.ensures, c.in-Ok.tail.ok.0) in
    rw (p.1, p.2) (append_lost c.args.steps.now c.push.new.self host _ _ draws told es c.args.element.now (es ++ tail) (c.len.result + length tail - 1) q.0 c.in-Ok.ensures.moved (rw (← place) c.push.ensures) (read_from told es tail (es ++ tail) c.len.result c.len.ensures.value refl c.in-Ok.ensures.tail) q.1)

pub returns-in_ok-grown-in-Ok-clause-did : goal.returns-in_ok-grown-in-Ok-clause-did
returns-in_ok-grown-in-Ok-clause-did g c = λ host draws.
    let es = c.args.list.now in
    let tail = c.in-Ok.tail.items in
    let told = (g.R.Repo.store c.append.new.self).list in
    let q = appended c.args.element.now c.len.result es tail c.len.ensures.value c.in-Ok.ensures.last in
    let place : c.len-in-Ok.result + c.len-in-Ok-2.result - 1 ≡ c.len.result + length tail - 1 = cc (c.len-in-Ok.ensures.value, c.len.ensures.value, c.len-in-Ok-2.ensures, c.in-Ok.tail.ok.0) in
    rw c.in_ok-grown-in-Ok.ensures (append_gave c.args.steps.now c.push.new.self host _ _ draws told es c.args.element.now (es ++ tail) (c.len.result + length tail - 1) q.0 c.in-Ok.ensures.moved (rw (← place) c.push.ensures) (read_from told es tail (es ++ tail) c.len.result c.len.ensures.value refl c.in-Ok.ensures.tail) q.1)
