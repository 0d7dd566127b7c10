use Rattle.std.specs.Arc.{arc_value}
use Rattle.std.proofs.Common.{◌∙◌}
use Rattle.key_ring.proofs.Lookup.{default-is}
use Rattle.key_ring.proofs.ring.Ring.default_key.Goals as goal

pub returns : goal.returns
returns c =
    let keys = rw (← c.self.view_is) at c.keys.ensures in
    rw (← c.self.view_is)
    (c.default_of.ensures ∙ default-is (arc_value c.self.inside.body).list c.self.inside.made_at c.keys.result.now c.self.inside.policy
    (record { keys_are = keys; policy_is = c.self.invariant.policy_is }))
