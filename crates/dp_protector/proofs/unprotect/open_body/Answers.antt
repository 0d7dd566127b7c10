use Rattle.std.proofs.Common.{refl, ◌∙◌, inr}
use Rattle.std.proofs.lemmas.Result.{err_from_is_err_and}
use Rattle.dp_base.proofs.Parts.{AreBytes-from_fits}
use Rattle.dp_protector.proofs.Bodies.{open_body-short, open_body-is, open_body-none, body-refused, not_memory, some_not_none}
use Rattle.dp_protector.proofs.unprotect.open_body.Goals as goal

pub returns-in_default : goal.returns-in_default
returns-in_default c =
    inr (refl, open_body-short c.args.alg c.args.key.now c.args.chain.now c.args.body.now (c.in_default.ensures.none.0 refl))

pub returns-in_err-open_body : goal.returns-in_err-open_body
returns-in_err-open_body c =
    let p = err_from_is_err_and c.from_residual-in_err-open_body.result c.from_residual-in_err-open_body.ensures.1 in
    rw (p.1, p.2) (
    body-refused c.in_err-open_body.field-0.0 _
    (λ tampered.
    open_body-none c.args.alg c.args.key.now c.args.chain.now c.args.body.now c.new-encryptor.result c.deref.result.now c.in-Some.body
    c.new-encryptor.ensures (c.deref.ensures.value ∙ c.in_ok-aad.ensures) c.in-Some.ensures.parts c.in-Some.ensures.made (AreBytes-from_fits c.args.body.now c.type_inv.body)
    (λ short. some_not_none c.in-Some.body (c.in-Some.ensures.none.1 short))
    (λ text bytes opens. not_memory c.in_err-open_body.field-0.0 tampered (c.in_err-open_body.ensures.only text bytes opens)))
    )

pub returns : goal.returns
returns c =
    open_body-is c.args.alg c.args.key.now c.args.chain.now c.args.body.now c.new-encryptor.result c.deref.result.now c.in-Some.body
    c.new-encryptor.ensures (c.deref.ensures.value ∙ c.in_ok-aad.ensures) c.in-Some.ensures.parts c.in-Some.ensures.made (AreBytes-from_fits c.args.body.now c.type_inv.body)
    (λ short. some_not_none c.in-Some.body (c.in-Some.ensures.none.1 short))
    c.in_ok-open_body.field-0.items c.in_ok-open_body.ensures.found c.in_ok-open_body.ensures.bytes
