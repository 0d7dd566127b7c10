use Rattle.std.proofs.Common.{refl, sym, ◌∙◌, arith}
use Rattle.key_elements.proofs.Shared.{agree_more}
use Rattle.key_elements.proofs.list.ElementList.first_difference.Goals as goal

pub loop-place-preserved : goal.loop-place-preserved
loop-place-preserved c =
    agree_more c.items-left.result.now c.items-right.result.now c.args.self.now c.args.other.now c.loop-place.place _ _ c.items-left.ensures.value c.items-right.ensures.value
    (omega arith) (omega arith) c.index-left-place.is c.index-right-place.is (sym c.deref.ensures ∙ c.if-not-is_same.ensures.0 refl ∙ c.deref-in-loop-place.ensures) c.loop-place.invariant
