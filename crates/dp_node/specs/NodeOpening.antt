-- The opening of a node of many passes.
use Rattle.std.specs.Prelude.{◌≡◌, ℕ, ◌+◌, ◌<◌, List, [], ◌∷◌, length, slice_index_or}
use Rattle.std.specs.declared.vec.Vec.{Vec}
use Rattle.std.specs.declared.alloc.Global.{Global}
use Rattle.default_key.specs.declared.options.Options.{Options}
use Rattle.key_ring.specs.Ring.{RingOf}
use Rattle.swap_cell.specs.declared.handles.Setter.{Setter}
use Rattle.swap_cell.specs.declared.handles.Viewer.{Viewer}
use Rattle.swap_cell.specs.Cells.{setter_cell, viewer_cell, known}
use Rattle.flight_turn.specs.declared.turn.Turn.{Turn}
use Rattle.flight_turn.specs.Seats.{turn_mark}
use Rattle.node_calls.specs.declared.host.NodeFacts.{NodeFacts}
use Rattle.dp_node.specs.declared.pass.Pass.{Pass}
use Rattle.node_calls.specs.HostState.{opened_over}
use Rattle.dp_node.specs.Passes.{state_of}

-- the first pass of the node
abbrev pub facts_of : ℕ → ℕ → Options → NodeFacts
facts_of node now options = record { node = node; pass = 0; opened_at = now; options = options }

-- an end of the cell whose setter is the turn's flight, which has the ring alone
abbrev pub IsEndOf : Turn (Setter RingOf) → RingOf → Viewer RingOf → Type 0
IsEndOf turn r v = (turn_mark setter_cell turn ≡ viewer_cell v) × (known v ≡ r ∷ [])

-- the pass, which stands at the place i, of a node of n passes that was opened over the ring
abbrev pub IsOpened : NodeFacts → RingOf → ℕ → ℕ → Pass → Type 0
IsOpened facts r n i p =
    (p.notes.facts.pass + i + 1 ≡ n) × (state_of p ≡ opened_over (record facts { pass = p.notes.facts.pass }) (state_of p).turn r)

-- the passes of a node after its opening, or some of them, the last one first
abbrev pub AreOpened : NodeFacts → RingOf → ℕ → List Pass → Type 0
AreOpened facts r n passes = (i : ℕ) (d : Pass) → i < length passes → IsOpened facts r n i (slice_index_or passes i d)

abbrev pub ArePasses : NodeFacts → RingOf → ℕ → List Pass → Type 0
ArePasses facts r n passes = (length passes ≡ n) × AreOpened facts r n passes

abbrev pub IsNode : NodeFacts → ℕ → RingOf → Vec Pass Global → Type 0
IsNode facts n r passes = ArePasses facts r n passes.items
