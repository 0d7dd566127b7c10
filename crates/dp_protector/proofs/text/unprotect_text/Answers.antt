use Rattle.std.proofs.Common.{◌∙◌, sym, ap, Some}
use Rattle.std.proofs.lemmas.Result.{err_from_is_err_and}
use Rattle.dp_protector.proofs.Forms.{text-none, text-payload}
use Rattle.dp_protector.proofs.text.unprotect_text.Goals as goal

pub returns-in_err-payload : goal.returns-in_err-payload
returns-in_err-payload c =
    let p = err_from_is_err_and c.from_residual.result c.from_residual.ensures.1 in
    rw (p.1, p.2) (text-none c.args.ring.now c.args.chain.now c.args.allow_revoked c.args.text.now c.in_err-payload.field-0.0 c.in_err-payload.ensures.none)

pub returns : goal.returns
returns c =
    rw (text-payload c.args.ring.now c.args.chain.now c.args.allow_revoked c.deref.result.now c.args.text.now (c.in_ok-payload.ensures.found ∙ ap Some (sym c.deref.ensures.value))) c.open_text.ensures
