use Rattle.std.proofs.Common.{◌≡◌, ◌↔◌, ℕ, List, Result, Err, sym, ap, ◌∙◌, arith}
use Rattle.std.proofs.lemmas.Result.{err_from_is_err_and}
use Rattle.dp_base.specs.declared.seven_bit.SevenBit.{SevenBit}
use Rattle.dp_base.specs.declared.seven_bit.SevenBit.TheVariants.{Cut}
use Rattle.dp_base.proofs.Sevens.{seven_again, seven_cut, reads_number, reads_same}
use Rattle.dp_base.proofs.seven_bit.take_7bit.Goals as goal

abbrev refused : SevenBit → Result (ℕ × List ℕ) SevenBit
refused why = Err why

abbrev answer : SevenBit → Result (ℕ × ℕ) SevenBit
answer why = Err why

err_cut : (why : SevenBit) (r : Result (ℕ × List ℕ) SevenBit) (P : Type 0) → refused why ≡ r → (r ≡ refused Cut) ↔ P → (answer why ≡ answer Cut) ↔ P
err_cut why r P is both = (λ e. both.0 (sym is ∙ ap refused (cc e)), λ p. ap answer (cc (is ∙ both.1 p)))

pub returns-in_err-number-clause-only : goal.returns-in_err-number-clause-only
returns-in_err-number-clause-only c = λ n rest lt parts.
    let again = seven_again n rest lt in
    absurd (cc (parts, again, c.in_err-number.ensures))

pub returns-in_err-number-clause-cut : goal.returns-in_err-number-clause-cut
returns-in_err-number-clause-cut c =
    let p = err_from_is_err_and c.from_residual.result c.from_residual.ensures.1 in
    let both = seven_cut c.args.bytes.now in
    rw (p.1, p.2) (err_cut _ _ _ c.in_err-number.ensures both)

pub overflow_sub-result : goal.overflow_sub-result
overflow_sub-result c =
    (reads_number c.args.bytes.now c.in_ok-number.number c.in_ok-number.rest.now (λ i. omega (arith, c.type_inv.bytes i)) (sym c.in_ok-number.ensures)).short

pub returns-clause-found : goal.returns-clause-found
returns-clause-found c =
    let r = reads_number c.args.bytes.now c.in_ok-number.number c.in_ok-number.rest.now (λ i. omega (arith, c.type_inv.bytes i)) (sym c.in_ok-number.ensures) in
    (omega arith, r.front)

pub returns-clause-only : goal.returns-clause-only
returns-clause-only c = λ n rest lt parts.
    let same = reads_same c.args.bytes.now c.in_ok-number.number n c.in_ok-number.rest.now rest (sym c.in_ok-number.ensures) lt parts in
    cc (same.0, same.1)

pub returns-clause-cut : goal.returns-clause-cut
returns-clause-cut c =
    (λ e. absurd (cc e), λ is. absurd (cc ((seven_cut c.args.bytes.now).1 is, c.in_ok-number.ensures)))

pub returns-clause-exact : goal.returns-clause-exact
returns-clause-exact c =
    let r = reads_number c.args.bytes.now c.in_ok-number.number c.in_ok-number.rest.now (λ i. omega (arith, c.type_inv.bytes i)) (sym c.in_ok-number.ensures) in
    cc (r.back, c.in_ok-number.ensures)
