-- the records so far are of other keys
use Rattle.std.proofs.Common.{◌≡◌, ◌<◌, ℕ, false, get_or}
use Rattle.key_ring.specs.Keys.{same_key}
use Rattle.key_ring.proofs.keys.put_record.Given as goal

abbrev pub invariant-loop-place : goal.invariant-loop-place
invariant-loop-place l = record {
  same : l.keys.items ≡ l.fn.keys.items;
  others : (k : ℕ) → k < l.place → same_key (get_or l.fn.keys.items k l.latest) l.latest ≡ false;
}
