use Rattle.std.proofs.Common.{refl}
use Rattle.std.proofs.lemmas.Result.{err_from_is_err_and}
use Rattle.dp_protector.proofs.Forms.{payload-found, payload-refused, payload-short}
use Rattle.dp_protector.proofs.text.payload_of.Goals as goal

pub returns-in_err-decode-clause-none : goal.returns-in_err-decode-clause-none
returns-in_err-decode-clause-none c =
    let p = err_from_is_err_and c.from_residual.result c.from_residual.ensures.1 in
    rw (p.1, p.2) (payload-refused c.in_err-decode.field-0.0 c.args.text.now c.in_err-decode.ensures.err)

pub returns-clause-found : goal.returns-clause-found
returns-clause-found c = payload-found c.args.text.now _ c.in_ok-decode.ensures.ok

pub returns-clause-short : goal.returns-clause-short
returns-clause-short c = payload-short c.args.text.now _ (c.in_ok-decode.ensures.exact (refl, refl))
