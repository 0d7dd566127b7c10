-- the facts of the keys so far
use Rattle.std.proofs.Common.{◌≡◌, map, take}
use Rattle.key_ring.specs.Keys.{fact_of}
use Rattle.key_ring.proofs.keys.facts_of.Given as goal

abbrev pub invariant-loop-entry : goal.invariant-loop-entry
invariant-loop-entry l = l.facts.items ≡ map fact_of (take l.entry-index l.keys)
