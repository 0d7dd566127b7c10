use Rattle.std.proofs.Common.{◌≡◌, subst}
use Rattle.key_ring.specs.Ring.{preferred_key}
use Rattle.ring_world.specs.Flight.{activation_of}
use Rattle.node_calls.proofs.Renewal.{activation-found, activation-lost}
use Rattle.node_calls.proofs.gather.activation_of.Goals as goal

pub returns-in-Some-lookup : goal.returns-in-Some-lookup
returns-in-Some-lookup c =
    subst (λ n. c.in-Some-lookup.state.key.now.expiration ≡ activation_of n (preferred_key c.args.ring.now.list n)) c.requires (activation-found c.args.ring.now.list c.args.ring.now.made_at c.in-Some.id _ c.in-Some.ensures c.in-Some-lookup.ensures)

pub returns-in-None-lookup : goal.returns-in-None-lookup
returns-in-None-lookup c = absurd (activation-lost c.args.ring.now.list c.args.ring.now.made_at c.in-Some.id c.in-Some.ensures c.in-None-lookup.ensures)
