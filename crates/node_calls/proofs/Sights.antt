-- What a pass saw.
use Rattle.std.proofs.Common.{◌≡◌, ℕ, List, ◌++◌, [], ◌∷◌, ap, ◌∙◌, Option, Some, None, subst, IfSome, append_assoc}
use Rattle.key_ring.specs.Ring.{RingOf}
use Rattle.ring_world.specs.declared.step.Step.{Step}
use Rattle.ring_world.specs.declared.step.Step.TheVariants.{Want}
use Rattle.ring_world.specs.Flight.{Sight, sight_steps, look_step}
use Rattle.node_calls.specs.HostState.{HostState, acted, looked_at, MayShow, MayWant}
use Rattle.node_calls.specs.Sight.{sighted, SeenBy}

one_sight : (n : ℕ) (r : RingOf) (o : Option Sight) → IfSome o (λ one. n ≡ one.want) → IfSome o (λ one. r ≡ one.ring) → IfSome o (λ (one : Sight). record { want = n; ring = r } ≡ one)
one_sight n r None p q = tt
one_sight n r (Some one) p q =
    ap (λ (m : ℕ). record { want = m; ring = r }) p ∙ ap (λ (x : RingOf). record { want = one.want; ring = x }) q

-- the want number and the ring that were seen
pub seen_by : (n : ℕ) (r : RingOf) (h h1 : HostState) → h1 ≡ acted (Want n) h → MayWant n h → MayShow r h1 → SeenBy (record { want = n; ring = r }) h
seen_by n r h h1 e p q =
    let q' : MayShow r (acted (Want n) h) = subst (MayShow r) e q in
    (q'.0, q'.1, one_sight n r h.single p q'.2)

pub sighted-is : (n : ℕ) (r : RingOf) (h h1 h2 : HostState) → h1 ≡ acted (Want n) h → h2 ≡ looked_at r h1 → h2 ≡ sighted (record { want = n; ring = r }) h
sighted-is n r h h1 h2 e f = f ∙ ap (looked_at r) e

pub sight_steps-is : (n : ℕ) (r : RingOf) (s : List Step) (t u : List Step) → t ≡ s ++ Want n ∷ [] → u ≡ t ++ look_step r ∷ [] → u ≡ s ++ sight_steps (record { want = n; ring = r })
sight_steps-is n r s t u e f = f ∙ ap (λ z. z ++ look_step r ∷ []) e ∙ append_assoc s (Want n ∷ []) (look_step r ∷ [])
