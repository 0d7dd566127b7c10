use Rattle.std.proofs.Common.{◌∙◌, ℕ, length, Ok, Err, refl, sym, ap, arith, ⊎_elim}
use Rattle.dp_protector.specs.declared.refused.TextRefused.TheVariants as texts
use Rattle.dp_protector.specs.Text.{opening_text}
use Rattle.dp_wire.specs.declared.reply.Reply.TheVariants as replies
use Rattle.dp_wire.specs.Replies.{reply_body}
use Rattle.dp_wire.specs.Chains.{chain_of}
use Rattle.dp_wire.specs.Request.{UnprotectText}
use Rattle.dp_answer.proofs.Responses.{dry_answer, dry_unopened, by_text, text_due, not_wanted}
use Rattle.dp_base.proofs.Parts.{AreBytes-from_fits}
use Rattle.dp_protector.proofs.Lengths.{length-as_text}
use Rattle.dp_answer.proofs.opening.opened_as_text.Goals as goal

pub to_chain-requires : goal.to_chain-requires
to_chain-requires c = c.as_str.ensures.short

pub returns-in-Ok : goal.returns-in-Ok
returns-in-Ok c = λ now need text draws found.
    let ring = c.args.ring.now in
    let p = UnprotectText need c.args.allow_revoked (chain_of c.args.chain.now.bytes.now) text in
    let same = rw c.as_str.ensures.value at c.in_ok-chain.ensures.value in
    let o = opening_text c.in-Ok.opened in
    dry_answer c.args.setting.app.now now p ring refl c.by_ring.result draws _ (text_due c.args.setting.app.now ring (chain_of c.args.chain.now.bytes.now) c.in_ok-chain.chain c.args.payload.now text c.args.allow_revoked same found (Ok o) c.in-Ok.ensures)
    (by_text ring c.by_ring.result c.len-front.result c.as_str-in-Ok.result o.plain (c.len-front.ensures.value ∙ ap length c.list.ensures) c.as_str-in-Ok.ensures.value o.revoked o.default_changed c.by_ring.ensures)

pub returns-in-Err-Body : goal.returns-in-Err-Body
returns-in-Err-Body c = λ now need text draws found.
    let ring = c.args.ring.now in
    let p = UnprotectText need c.args.allow_revoked (chain_of c.args.chain.now.bytes.now) text in
    let same = rw c.as_str.ensures.value at c.in_ok-chain.ensures.value in
    let told = rw c.in-Err-Body.field-0-is at c.in-Err-Body.ensures in
    ⊎_elim (λ is. dry_unopened c.args.setting.app.now now p ring refl c.unopened.result draws c.in-Err-Body.why (text_due c.args.setting.app.now ring (chain_of c.args.chain.now.bytes.now) c.in_ok-chain.chain c.args.payload.now text c.args.allow_revoked same found (Err (texts.Body c.in-Err-Body.why)) is) c.unopened.ensures)
    (λ is. absurd (not_wanted c.in-Err-Body.why is)) told

pub returns-in-Err-NotText : goal.returns-in-Err-NotText
returns-in-Err-NotText c = λ now need text draws found.
    let ring = c.args.ring.now in
    let p = UnprotectText need c.args.allow_revoked (chain_of c.args.chain.now.bytes.now) text in
    let same = rw c.as_str.ensures.value at c.in_ok-chain.ensures.value in
    let count = c.len-front.ensures.value ∙ ap length c.list.ensures in
    let told = rw c.in-Err-NotText.field-0-is at c.in-Err-NotText.ensures in
    ⊎_elim (λ is. dry_answer c.args.setting.app.now now p ring refl c.by_ring-in-Err-NotText.result draws _ (text_due c.args.setting.app.now ring (chain_of c.args.chain.now.bytes.now) c.in_ok-chain.chain c.args.payload.now text c.args.allow_revoked same found (Err texts.NotText) is ∙ ap (λ (n : ℕ). reply_body (replies.NotText n)) (sym count)) c.by_ring-in-Err-NotText.ensures)
    (λ is. absurd cc) told

pub by_ring-requires : goal.by_ring-requires
by_ring-requires c =
    omega (arith, c.requires, ap length c.as_str-in-Ok.ensures.value, length-as_text c.args.ring.now c.in_ok-chain.chain c.args.payload.now c.args.allow_revoked (opening_text c.in-Ok.opened) (AreBytes-from_fits c.args.payload.now c.type_inv.payload) c.in-Ok.ensures)
