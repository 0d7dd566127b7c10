use Rattle.std.proofs.Common.{◌∙◌, sym, ap, inl, List, ℕ}
use Rattle.std.proofs.lemmas.Result.{err_from_is_err_and}
use Rattle.timed_payload.specs.Timed.{split}
use Rattle.dp_protector.specs.Opening.{opening}
use Rattle.dp_protector.proofs.Forms.{timed-refused, timed-expiry, timed-ok}
use Rattle.dp_protector.proofs.timed.unprotect_timed.Goals as goal

pub returns-in_err-opened : goal.returns-in_err-opened
returns-in_err-opened c =
    let p = err_from_is_err_and c.from_residual-in_err-opened.result c.from_residual-in_err-opened.ensures.1 in
    rw (p.1, p.2) (timed-refused c.args.ring.now c.args.chain.now c.in_ok-child.child c.args.payload.now c.args.allow_revoked c.args.now c.in_ok-child.ensures c.in_err-opened.field-0.0 c.in_err-opened.ensures)

pub returns-in_err-expiry : goal.returns-in_err-expiry
returns-in_err-expiry c =
    let p = err_from_is_err_and c.from_residual-in_err-expiry.result c.from_residual-in_err-expiry.ensures.1 in
    rw (p.1, p.2) (inl (
    timed-expiry c.args.ring.now c.args.chain.now c.in_ok-child.child c.args.payload.now c.args.allow_revoked c.args.now c.in_ok-child.ensures
    (opening c.in_ok-opened.opened) c.in_ok-opened.ensures c.in_err-expiry.field-0.0
    (c.in_err-expiry.ensures.value ∙ ap (λ (b : List ℕ). split b c.args.now) c.deref.ensures.value)
    ))

pub returns : goal.returns
returns c =
    timed-ok c.args.ring.now c.args.chain.now c.in_ok-child.child c.args.payload.now c.args.allow_revoked c.args.now c.in_ok-child.ensures
    (opening c.in_ok-opened.opened) c.in_ok-opened.ensures (c.in_ok-expiry.expiry, c.in_ok-expiry.plain.now) c.in_ok-from_slice.field-0.items
    (c.in_ok-expiry.ensures.value ∙ ap (λ (b : List ℕ). split b c.args.now) c.deref.ensures.value) (sym c.in_ok-from_slice.ensures.items)
