use Rattle.std.proofs.Common.{◌∙◌, length, refl, ap, arith}
use Rattle.dp_wire.specs.Request.{Ring}
use Rattle.dp_answer.proofs.Responses.{dry_answer, by_listing}
use Rattle.dp_answer.proofs.request.listed.Goals as goal

pub returns : goal.returns
returns c = λ app now need draws.
    let ring = c.args.ring.now in
    let count = c.len-front.ensures.value ∙ ap length c.list.ensures in
    dry_answer app now (Ring need) ring refl c.by_ring.result draws _ refl (by_listing ring c.by_ring.result c.len-front.result c.as_str-listing.result _ count (c.as_str-listing.ensures.value ∙ c.in_ok-text.ensures.value) c.by_ring.ensures)

pub by_ring-requires : goal.by_ring-requires
by_ring-requires c = omega (arith, ap length c.as_str-listing.ensures.value, c.in_ok-text.ensures.short)
