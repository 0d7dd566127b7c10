-- the keys so far, each with whether it is revoked
use Rattle.std.proofs.Common.{◌≡◌, map, take}
use Rattle.key_ring.specs.Keys.{ring_key}
use Rattle.key_ring.proofs.keys.ring_keys.Given as goal

abbrev pub invariant-loop-key : goal.invariant-loop-key
invariant-loop-key l = l.keys.items ≡ map (ring_key l.list) (take l.key-index l.records)
