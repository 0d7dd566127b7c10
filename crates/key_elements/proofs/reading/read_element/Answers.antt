use Rattle.std.proofs.Common.{arith}
use Rattle.std.proofs.lemmas.Result.{err_from_is_err_and}
use Rattle.key_elements.proofs.Elements.{reads_record, reads_only, reads_same}
use Rattle.key_elements.proofs.Answered.{want_only}
use Rattle.key_elements.proofs.reading.read_element.Goals as goal

pub returns-in_err-element-clause-only : goal.returns-in_err-element-clause-only
returns-in_err-element-clause-only c = λ e n le is.
    let p = err_from_is_err_and c.from_residual.result c.from_residual.ensures.1 in
    rw (p.1, p.2) (want_only _ _ _ (reads_only c.args.bytes.now e n le is) c.in_err-element.ensures.answers)

pub overflow_sub-result : goal.overflow_sub-result
overflow_sub-result c =
    (reads_record c.args.bytes.now c.in_ok-element.element c.in_ok-element.rest.now (λ i. omega (arith, c.type_inv.bytes i)) c.in_ok-element.ensures.answers).short

pub returns-clause-found : goal.returns-clause-found
returns-clause-found c =
    let r = reads_record c.args.bytes.now c.in_ok-element.element c.in_ok-element.rest.now (λ i. omega (arith, c.type_inv.bytes i)) c.in_ok-element.ensures.answers in
    (omega arith, (r.fits, r.front))

pub returns-clause-only : goal.returns-clause-only
returns-clause-only c = λ e n le is.
    let same = reads_same c.args.bytes.now c.in_ok-element.element e c.in_ok-element.rest.now n c.in_ok-element.ensures.answers le is in
    cc (same.0, same.1)

pub returns-clause-exact : goal.returns-clause-exact
returns-clause-exact c =
    let r = reads_record c.args.bytes.now c.in_ok-element.element c.in_ok-element.rest.now (λ i. omega (arith, c.type_inv.bytes i)) c.in_ok-element.ensures.answers in
    cc (r.back, c.in_ok-element.ensures.answers)
