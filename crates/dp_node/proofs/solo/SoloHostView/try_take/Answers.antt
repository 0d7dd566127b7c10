use Rattle.std.proofs.Common.{refl}
use Rattle.node_calls.proofs.Books.{IsFrontOf-refl}
use Rattle.dp_node.proofs.solo.SoloHostView.try_take.Goals as goal

pub returns : goal.returns
returns c = (c.self.inside.ring.list, rw (← c.self.view_is) (IsFrontOf-refl c.self.inside.ring.list), rw (← c.self.view_is, c.push.ensures) refl)
