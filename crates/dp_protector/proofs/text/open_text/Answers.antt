use Rattle.std.proofs.Common.{◌∙◌, sym, ap, inl}
use Rattle.std.specs.Str.{is_utf8}
use Rattle.std.specs.Prelude.{string_bytes}
use Rattle.std.proofs.lemmas.Result.{err_from_is_err_and}
use Rattle.std.proofs.lemmas.Str.{is_utf8-from_IsUtf8, IsUtf8-from_is_utf8, IsUtf8-had}
use Rattle.dp_protector.specs.Opening.{opening}
use Rattle.dp_protector.proofs.Forms.{text-refused, text-ok, text-not, not_true, false_not_true}
use Rattle.dp_protector.proofs.text.open_text.Goals as goal

pub returns-in_err-opened : goal.returns-in_err-opened
returns-in_err-opened c =
    let p = err_from_is_err_and c.from_residual.result c.from_residual.ensures.1 in
    rw (p.1, p.2) (text-refused c.args.ring.now c.args.chain.now c.args.allow_revoked c.args.payload.now c.in_err-opened.field-0.0 c.in_err-opened.ensures)

pub returns-in-Ok : goal.returns-in-Ok
returns-in-Ok c =
    let same = ap (λ v. v.items) (sym c.in-Ok.ensures.ok) in
    text-ok c.args.ring.now c.args.chain.now c.args.allow_revoked c.args.payload.now
    (opening c.in_ok-opened.opened) (string_bytes c.in-Ok.text) c.in_ok-opened.ensures (ap is_utf8 same ∙ is_utf8-from_IsUtf8 _ (IsUtf8-had _ c.in-Ok.text.ok)) same

pub returns : goal.returns
returns c = inl (
    text-not c.args.ring.now c.args.chain.now c.args.allow_revoked c.args.payload.now
    (opening c.in_ok-opened.opened) c.in_ok-opened.ensures
    (not_true _ (λ utf8. false_not_true (c.in-Err.ensures.succeeds (IsUtf8-from_is_utf8 _ utf8))))
    )
