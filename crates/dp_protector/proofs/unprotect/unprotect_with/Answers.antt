use Rattle.std.proofs.Common.{drop, Ok, Err, ap, subst, inl, ◌∙◌}
use Rattle.std.proofs.lemmas.Result.{err_from_is_err_and}
use Rattle.key_ring.specs.State.{key_state}
use Rattle.dp_protector.specs.Opening.{IsDueAnswer, opening}
use Rattle.dp_protector.proofs.Heads.{head-told, head-missing, head-held, id-is}
use Rattle.dp_protector.proofs.unprotect.unprotect_with.Goals as goal

pub returns-in_err-view : goal.returns-in_err-view
returns-in_err-view c =
    let p = err_from_is_err_and c.from_residual.result c.from_residual.ensures.1 in
    rw (p.1, p.2) (inl (head-told c.args.ring.now c.args.chain.now c.args.payload.now c.args.allow_revoked (Err c.in_err-view.field-0.0) c.in_err-view.ensures.bad_header c.in_err-view.ensures.bad_version))

pub returns-in-Some : goal.returns-in-Some
returns-in-Some c =
    subst (IsDueAnswer opening c.open_under.result)
    (head-held c.args.ring.now c.args.chain.now c.args.payload.now c.args.allow_revoked c.key_id-id.result (key_state c.in-Some.state) c.rest.result.now
    (head-told c.args.ring.now c.args.chain.now c.args.payload.now c.args.allow_revoked (Ok c.in_ok-view.view) c.in_ok-view.ensures.bad_header c.in_ok-view.ensures.bad_version)
    (id-is c.key_id-id.result c.in_ok-view.view c.args.payload.now c.key_id-id.ensures.value c.in_ok-view.ensures.ok)
    c.in-Some.ensures (c.rest.ensures ∙ ap (drop 20) c.in_ok-view.ensures.ok))
    c.open_under.ensures

pub returns-in-None : goal.returns-in-None
returns-in-None c = inl (
    head-missing c.args.ring.now c.args.chain.now c.args.payload.now c.args.allow_revoked c.key_id-id.result
    (head-told c.args.ring.now c.args.chain.now c.args.payload.now c.args.allow_revoked (Ok c.in_ok-view.view) c.in_ok-view.ensures.bad_header c.in_ok-view.ensures.bad_version)
    (id-is c.key_id-id.result c.in_ok-view.view c.args.payload.now c.key_id-id.ensures.value c.in_ok-view.ensures.ok)
    c.in-None.ensures
    )
