-- The opening of a node of one thread.
use Rattle.std.specs.Prelude.{◌≡◌, ℕ, Some, None}
use Rattle.default_key.specs.declared.options.Options.{Options}
use Rattle.key_ring.specs.Ring.{RingOf}
use Rattle.node_calls.specs.declared.host.NodeFacts.{NodeFacts}
use Rattle.node_calls.specs.HostState.{HostState, opened_over}

-- the first pass of the first node
abbrev pub first_facts : ℕ → Options → NodeFacts
first_facts now options = record { node = 0; pass = 0; opened_at = now; options = options }

-- the pass that is alone at a node over the ring tells what it shows
abbrev pub solo_of : NodeFacts → RingOf → HostState
solo_of facts r = record (opened_over facts None r) { single = Some (record { want = 0; ring = r }) }

abbrev pub IsSolo : NodeFacts → RingOf → HostState → Type 0
IsSolo facts ring solo = solo ≡ solo_of facts ring
