-- The passes of a node after its opening.
use Rattle.std.proofs.Common.{◌≡◌, ℕ, ◌+◌, sym, ap, ◌∙◌, Option}
use Rattle.key_ring.specs.Ring.{RingOf}
use Rattle.node_calls.specs.declared.host.NodeFacts.{NodeFacts}
use Rattle.dp_node.specs.declared.pass.Pass.{Pass}
use Rattle.node_calls.specs.HostState.{HostState, AtTurn, opened_over}
use Rattle.dp_node.specs.Passes.{state_of}
use Rattle.dp_node.specs.NodeOpening.{IsOpened}

-- the pass with the number k at the place i
pub opened_at : (facts : NodeFacts) (r : RingOf) (n i k : ℕ) (turn : Option AtTurn) (p : Pass) → state_of p ≡ opened_over (record facts { pass = k }) turn r → k + i + 1 ≡ n → IsOpened facts r n i p
opened_at facts r n i k turn p st e =
    let is : p.notes.facts.pass ≡ k = ap (λ (h : HostState). h.facts.pass) st in (
      ap (λ (m : ℕ). m + i + 1) is ∙ e,
      st ∙ ap (λ (m : ℕ). opened_over (record facts { pass = m }) turn r) (sym is)
          ∙ ap (λ (t : Option AtTurn). opened_over (record facts { pass = p.notes.facts.pass }) t r) (sym (ap (λ (h : HostState). h.turn) st)),
    )
