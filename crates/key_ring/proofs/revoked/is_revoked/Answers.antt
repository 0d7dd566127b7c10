use Rattle.std.proofs.Common.{sym, ◌∙◌, arith}
use Rattle.key_ring.proofs.Stays.{revoked_here, none_more}
use Rattle.key_ring.proofs.revoked.is_revoked.Goals as goal

pub returns-then-revokes : goal.returns-then-revokes
returns-then-revokes c =
    sym (revoked_here c.args.key.now c.args.list.now c.loop-place.place c.element_at.result.now (omega arith) (c.element_at.ensures c.element_at.result.now) (sym c.revokes.ensures ∙ c.if-revokes.true))

pub loop-place-preserved : goal.loop-place-preserved
loop-place-preserved c =
    none_more c.args.key.now c.args.list.now c.loop-place.place c.element_at.result.now (omega arith) (c.element_at.ensures c.element_at.result.now) c.loop-place.invariant (sym c.revokes.ensures ∙ c.if-revokes.false)
