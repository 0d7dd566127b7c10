use Rattle.std.proofs.Common.{◌∙◌, ℕ, List, length, refl, sym, ap, arith, ⊎_elim}
use Rattle.dp_protector.specs.Opening.{opened, opening}
use Rattle.dp_wire.specs.Chains.{chain_of}
use Rattle.dp_wire.specs.Request.{Unprotect}
use Rattle.dp_answer.specs.Replies.{opened_reply}
use Rattle.dp_answer.proofs.Responses.{dry_answer, dry_unopened, wanting, by_plain}
use Rattle.dp_base.proofs.Parts.{AreBytes-from_fits}
use Rattle.dp_protector.proofs.Lengths.{length-opened}
use Rattle.dp_answer.proofs.opening.opened.Goals as goal

pub to_chain-requires : goal.to_chain-requires
to_chain-requires c = c.as_str.ensures.short

pub returns-in-Ok : goal.returns-in-Ok
returns-in-Ok c = λ now need draws.
    let ring = c.args.ring.now in
    let p = Unprotect need c.args.allow_revoked (chain_of c.args.chain.now.bytes.now) c.args.payload.now in
    let same = rw c.as_str.ensures.value at c.in_ok-chain.ensures.value in
    let o = opening c.in-Ok.opened in
    let due = ap (λ (ch : List (List ℕ)). opened_reply (length ring.list) (opened ring ch c.args.payload.now c.args.allow_revoked)) (sym same) ∙ ap (opened_reply (length ring.list)) c.in-Ok.ensures in
    dry_answer c.args.setting.app.now now p ring refl c.by_ring.result draws _ due
    (by_plain ring c.by_ring.result c.len.result c.as_slice.result o.plain (c.len.ensures.value ∙ ap length c.list.ensures) c.as_slice.ensures.value o.revoked o.default_changed c.by_ring.ensures)

pub returns : goal.returns
returns c = λ now need draws.
    let ring = c.args.ring.now in
    let p = Unprotect need c.args.allow_revoked (chain_of c.args.chain.now.bytes.now) c.args.payload.now in
    let same = rw c.as_str.ensures.value at c.in_ok-chain.ensures.value in
    let due = ap (λ (ch : List (List ℕ)). opened_reply (length ring.list) (opened ring ch c.args.payload.now c.args.allow_revoked)) (sym same) in
    ⊎_elim (λ told. dry_unopened c.args.setting.app.now now p ring refl c.unopened.result draws c.in-Err.why (due ∙ ap (opened_reply (length ring.list)) told) c.unopened.ensures)
    (λ lost. wanting c.args.setting.app.now now p ring refl c.unopened.result draws c.in-Err.why lost.0 c.unopened.ensures) c.in-Err.ensures

pub by_ring-requires : goal.by_ring-requires
by_ring-requires c =
    omega (arith, c.requires, ap length c.as_slice.ensures.value, length-opened c.args.ring.now c.in_ok-chain.chain c.args.payload.now c.args.allow_revoked (opening c.in-Ok.opened) (AreBytes-from_fits c.args.payload.now c.type_inv.payload) c.in-Ok.ensures)
