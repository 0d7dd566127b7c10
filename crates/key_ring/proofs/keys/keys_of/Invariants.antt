-- the keys of the elements so far
use Rattle.std.proofs.Common.{◌≡◌, take}
use Rattle.key_ring.specs.Keys.{keys_of}
use Rattle.key_ring.proofs.keys.keys_of.Given as goal

abbrev pub invariant-loop-place : goal.invariant-loop-place
invariant-loop-place l = l.keys.items ≡ keys_of (take l.place l.list)
