use Rattle.std.proofs.Common.{◌∙◌, ℕ, List, Option, Some, length, refl, sym, ap}
use Rattle.dp_wire.specs.declared.reply.Reply.TheVariants as replies
use Rattle.dp_wire.specs.Replies.{reply_body}
use Rattle.dp_wire.specs.Chains.{chain_of}
use Rattle.dp_wire.specs.Request.{UnprotectText}
use Rattle.dp_answer.specs.Sought.{kept}
use Rattle.dp_answer.proofs.Responses.{dry_answer, no_text}
use Rattle.dp_answer.proofs.opening.opened_text.Goals as goal

abbrev some_of : List ℕ → Option (List ℕ)
some_of v = Some v

pub returns-in-Some : goal.returns-in-Some
returns-in-Some c = λ now need text draws found.
    c.opened_as_text.ensures now need text draws (found ∙ ap kept c.in-Some.is ∙ ap (λ (v : List ℕ). some_of v) (sym c.as_slice.ensures.value))

pub returns-in-None : goal.returns-in-None
returns-in-None c = λ now need text draws found.
    let ring = c.args.ring.now in
    let wire = chain_of c.args.chain.now.bytes.now in
    let count = c.len-front.ensures.value ∙ ap length c.list.ensures in
    dry_answer c.args.setting.app.now now (UnprotectText need c.args.allow_revoked wire text) ring refl c.by_ring.result draws _ (no_text c.args.setting.app.now ring wire text c.args.allow_revoked (found ∙ ap kept c.in-None.is) ∙ ap (λ (n : ℕ). reply_body (replies.BadText n)) (sym count)) c.by_ring.ensures
