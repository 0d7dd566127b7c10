-- no element so far revokes the key
use Rattle.std.proofs.Common.{◌≡◌, false, take}
use Rattle.std.specs.List.{list_any}
use Rattle.key_ring.specs.Keys.{revokes}
use Rattle.key_ring.proofs.revoked.is_revoked.Given as goal

abbrev pub invariant-loop-place : goal.invariant-loop-place
invariant-loop-place l = list_any (revokes l.key) (take l.place l.list) ≡ false
