use Rattle.std.proofs.Common.{◌∙◌, ℕ, length, Ok, Err, refl, sym, ap, arith, ⊎_elim}
use Rattle.dp_protector.specs.declared.refused.TimedOpenRefused.TheVariants as timed
use Rattle.dp_protector.specs.Timed.{opening_timed}
use Rattle.dp_wire.specs.declared.reply.Reply.TheVariants as replies
use Rattle.dp_wire.specs.Replies.{reply_body}
use Rattle.dp_wire.specs.Chains.{chain_of}
use Rattle.dp_wire.specs.Request.{UnprotectTimed}
use Rattle.dp_answer.proofs.Responses.{dry_answer, dry_unopened, by_timed, timed_due, not_wanted_timed}
use Rattle.dp_base.proofs.Parts.{AreBytes-from_fits}
use Rattle.dp_protector.proofs.Lengths.{length-opened_timed}
use Rattle.dp_answer.proofs.opening.opened_timed.Goals as goal

pub to_chain-requires : goal.to_chain-requires
to_chain-requires c = c.as_str.ensures.short

pub returns-in-Ok : goal.returns-in-Ok
returns-in-Ok c = λ need draws.
    let ring = c.args.ring.now in
    let wire = chain_of c.args.chain.now.bytes.now in
    let p = UnprotectTimed need c.args.allow_revoked wire c.args.payload.now in
    let same = rw c.as_str.ensures.value at c.in_ok-chain.ensures.value in
    let o = opening_timed c.in-Ok.opened in
    dry_answer c.args.setting.app.now c.args.now p ring refl c.by_ring.result draws _ (timed_due c.args.setting.app.now c.args.now ring wire c.in_ok-chain.chain c.args.payload.now c.args.allow_revoked same (Ok o) c.in-Ok.ensures)
    (by_timed ring c.by_ring.result c.len-front.result c.as_slice.result o.plain (c.len-front.ensures.value ∙ ap length c.list.ensures) c.as_slice.ensures.value o.revoked o.default_changed o.expiry c.by_ring.ensures)

pub returns-in-Err-Body : goal.returns-in-Err-Body
returns-in-Err-Body c = λ need draws.
    let ring = c.args.ring.now in
    let wire = chain_of c.args.chain.now.bytes.now in
    let p = UnprotectTimed need c.args.allow_revoked wire c.args.payload.now in
    let same = rw c.as_str.ensures.value at c.in_ok-chain.ensures.value in
    let told = rw c.in-Err-Body.field-0-is at c.in-Err-Body.ensures in
    ⊎_elim (λ is. dry_unopened c.args.setting.app.now c.args.now p ring refl c.unopened.result draws c.in-Err-Body.why (timed_due c.args.setting.app.now c.args.now ring wire c.in_ok-chain.chain c.args.payload.now c.args.allow_revoked same (Err (timed.Body c.in-Err-Body.why)) is) c.unopened.ensures)
    (λ is. absurd (not_wanted_timed c.in-Err-Body.why is)) told

pub returns-in-Err-Invalid : goal.returns-in-Err-Invalid
returns-in-Err-Invalid c = λ need draws.
    let ring = c.args.ring.now in
    let wire = chain_of c.args.chain.now.bytes.now in
    let p = UnprotectTimed need c.args.allow_revoked wire c.args.payload.now in
    let same = rw c.as_str.ensures.value at c.in_ok-chain.ensures.value in
    let count = c.len-front.ensures.value ∙ ap length c.list.ensures in
    let told = rw c.in-Err-Invalid.field-0-is at c.in-Err-Invalid.ensures in
    ⊎_elim (λ is. dry_answer c.args.setting.app.now c.args.now p ring refl c.by_ring-in-Err-Invalid.result draws _ (timed_due c.args.setting.app.now c.args.now ring wire c.in_ok-chain.chain c.args.payload.now c.args.allow_revoked same (Err timed.Invalid) is ∙ ap (λ (n : ℕ). reply_body (replies.Invalid n)) (sym count)) c.by_ring-in-Err-Invalid.ensures)
    (λ is. absurd cc) told

pub returns-in-Err-Expired : goal.returns-in-Err-Expired
returns-in-Err-Expired c = λ need draws.
    let ring = c.args.ring.now in
    let wire = chain_of c.args.chain.now.bytes.now in
    let p = UnprotectTimed need c.args.allow_revoked wire c.args.payload.now in
    let same = rw c.as_str.ensures.value at c.in_ok-chain.ensures.value in
    let count = c.len-front.ensures.value ∙ ap length c.list.ensures in
    let told = rw c.in-Err-Expired.field-0-is at c.in-Err-Expired.ensures in
    ⊎_elim (λ is. dry_answer c.args.setting.app.now c.args.now p ring refl c.by_ring-in-Err-Expired.result draws _ (timed_due c.args.setting.app.now c.args.now ring wire c.in_ok-chain.chain c.args.payload.now c.args.allow_revoked same (Err (timed.Expired c.in-Err-Expired.at)) is ∙ ap (λ (n : ℕ). reply_body (replies.Expired n c.in-Err-Expired.at)) (sym count)) c.by_ring-in-Err-Expired.ensures)
    (λ is. absurd cc) told

pub by_ring-requires : goal.by_ring-requires
by_ring-requires c =
    omega (arith, c.requires, ap length c.as_slice.ensures.value, length-opened_timed c.args.ring.now c.in_ok-chain.chain c.args.payload.now c.args.allow_revoked c.args.now (opening_timed c.in-Ok.opened) (AreBytes-from_fits c.args.payload.now c.type_inv.payload) c.in-Ok.ensures)
