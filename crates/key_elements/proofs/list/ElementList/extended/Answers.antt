use Rattle.std.proofs.Common.{◌∙◌, sym}
use Rattle.std.proofs.lemmas.List.{append-nil}
use Rattle.key_elements.proofs.Shared.{elements-copied}
use Rattle.key_elements.proofs.list.ElementList.extended.Goals as goal

pub loop-element-init : goal.loop-element-init
loop-element-init c = elements-copied c.items.result.now c.in_ok-items.items.items c.in_ok-items.ensures.items ∙ c.items.ensures.value ∙ sym (append-nil c.args.self.now)
