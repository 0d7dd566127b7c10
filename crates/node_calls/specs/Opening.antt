-- The opening of a node.
use Rattle.std.specs.Prelude.{◌≡◌, ℕ, true, List, [], Result, Ok, Err}
use Rattle.dp_base.specs.Draws.{DrawState}
use Rattle.default_key.specs.declared.options.Options.{Options}
use Rattle.key_ring.specs.Ring.{RingOf}
use Rattle.repo_keeper.specs.Store.{Store}
use Rattle.ring_world.specs.declared.step.Step.{Step}
use Rattle.ring_world.specs.Flight.{Gathers, Refusal, StoreFault, DrawFault}
use Rattle.node_calls.specs.declared.error.NodeError.{NodeError}
use Rattle.node_calls.specs.declared.error.NodeError.TheVariants as errors
use Rattle.node_calls.specs.declared.open.OpenRefused.{OpenRefused}
use Rattle.node_calls.specs.declared.open.OpenRefused.TheVariants as refused
use Rattle.node_calls.specs.HostState.{HostState}
use Rattle.node_calls.specs.Books.{books, Does}
use Rattle.node_calls.specs.Calls.{terms}

abbrev pub refused_as : NodeError → OpenRefused
refused_as errors.StoreFault = refused.StoreFault
refused_as errors.DrawFault = refused.DrawFault
refused_as _ = refused.Memory

-- what is answered where the ring was made, and so is what stands over it, or where it wasn't for this
-- reason; want of memory may come at any time
abbrev pub OpeningGives : {A : Type 0} → (RingOf → A → Type 0) → Result A OpenRefused → Result RingOf Refusal → Type 0
OpeningGives IsOver (Ok x) r = (ring : RingOf) × (r ≡ Ok ring) × IsOver ring x
OpeningGives IsOver (Err refused.StoreFault) r = r ≡ Err StoreFault
OpeningGives IsOver (Err refused.DrawFault) r = r ≡ Err DrawFault
OpeningGives IsOver (Err refused.Memory) r = Unit {0}

-- an opening at the moment: repository and draws moved as by a way to a first ring, and that is what it
-- came to
abbrev pub Opens : {A : Type 0} → ℕ → Options → (RingOf → A → Type 0) → Result A OpenRefused → Store → Store → DrawState → DrawState → Type 0
Opens now options IsOver result from to old new =
    (r : Result RingOf Refusal) × (steps : List Step) × OpeningGives IsOver result r
    × ((host : HostState) → Does (Gathers (terms now options true from.list to.list) [] r) (books [] host from old) (books steps host to new))

-- the ring itself
abbrev pub IsRing : RingOf → RingOf → Type 0
IsRing ring made = made ≡ ring
