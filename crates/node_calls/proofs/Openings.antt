-- Openings, and what those that were refused tell.
use Rattle.std.proofs.Common.{◌≡◌, ℕ, List, [], refl, true, Result, Err}
use Rattle.default_key.specs.declared.options.Options.{Options}
use Rattle.dp_base.specs.Draws.{DrawState}
use Rattle.key_ring.specs.Ring.{RingOf}
use Rattle.repo_keeper.specs.Store.{Store}
use Rattle.ring_world.specs.declared.step.Step.{Step}
use Rattle.ring_world.specs.Flight.{Gathers, Refusal}
use Rattle.node_calls.specs.declared.error.NodeError.{NodeError}
use Rattle.node_calls.specs.declared.error.NodeError.TheVariants as errors
use Rattle.node_calls.specs.declared.open.OpenRefused.{OpenRefused}
use Rattle.node_calls.specs.declared.open.OpenRefused.TheVariants as refused
use Rattle.node_calls.specs.HostState.{HostState}
use Rattle.node_calls.specs.Books.{books, Does}
use Rattle.node_calls.specs.Calls.{terms}
use Rattle.node_calls.specs.Gather.{refusal}
use Rattle.node_calls.specs.Opening.{OpeningGives, refused_as}

pub opens_refused : {A : Type 0} (IsOver : RingOf → A → Type 0) (why : NodeError) → OpeningGives IsOver (Err (refused_as why)) (Err (refusal why))
opens_refused IsOver errors.StoreFault = refl
opens_refused IsOver errors.DrawFault = refl
opens_refused IsOver _ = tt

-- a refusal says the same, whatever would stand over the ring
pub same_refused : {A B : Type 0} (P : RingOf → A → Type 0) (Q : RingOf → B → Type 0) (why : OpenRefused) (r : Result RingOf Refusal) → OpeningGives P (Err why) r → OpeningGives Q (Err why) r
same_refused P Q refused.StoreFault r h = h
same_refused P Q refused.DrawFault r h = h
same_refused P Q refused.Memory r h = tt

-- what an opening did, told of the repository and the draw that it hands back
pub handed_back : (now : ℕ) (options : Options) (r : Result RingOf Refusal) (host : HostState) (steps : List Step) (from : Store) (drew : DrawState) {s s' : Store} {t t' : DrawState} → s' ≡ s → t' ≡ t
    → Does (Gathers (terms now options true from.list s.list) [] r) (books [] host from drew) (books steps host s t)
    → Does (Gathers (terms now options true from.list s'.list) [] r) (books [] host from drew) (books steps host s' t')
handed_back now options r host steps from drew p q d = rw (p, q) d
