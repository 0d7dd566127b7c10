-- What a pass sees of its node at one asking.
use Rattle.std.specs.Prelude.{◌≡◌, ℕ, List, [], ◌∷◌, ◌++◌, IfSome, ◌⊎◌}
use Rattle.key_elements.specs.Lists.{Extends, IsFirstDifference}
use Rattle.ring_world.specs.declared.step.Step.{Step}
use Rattle.ring_world.specs.declared.step.Step.TheVariants.{Want}
use Rattle.ring_world.specs.Flight.{Sight, sight_steps}
use Rattle.node_calls.specs.declared.error.NodeError.{NodeError}
use Rattle.node_calls.specs.declared.error.NodeError.TheVariants.{Forked, Memory}
use Rattle.node_calls.specs.declared.sight.Sight.{Sight as SeenSight}
use Rattle.node_calls.specs.HostState.{HostState, MayWant, acted, looked_at}

-- what the code keeps of a sight
abbrev pub sight_of : SeenSight → Sight
sight_of s = record { want = s.want; ring = s.ring }

-- the host after the want number was asked and a look was made
abbrev pub sighted : Sight → HostState → HostState
sighted s h = looked_at s.ring (acted (Want s.want) h)

-- the host may show this
abbrev pub SeenBy : Sight → HostState → Type 0
SeenBy s h = Extends s.ring.list h.floor × Extends s.ring.list h.looked.list × IfSome h.single (λ one. s ≡ one)

-- a look that gave nothing: no memory was found for it, or the list that it showed differs
abbrev pub LookRefused : NodeError → HostState → HostState → List Step → List Step → Type 0
LookRefused Memory old new steps steps' =
    ((n : ℕ) × MayWant n old × (new ≡ acted (Want n) old) × (steps' ≡ steps ++ Want n ∷ []))
    ⊎ ((s : Sight) × (at : ℕ) × (new ≡ sighted s old) × (steps' ≡ steps ++ sight_steps s) × SeenBy s old
    × IsFirstDifference old.own s.ring.list at)
LookRefused (Forked f) old new steps steps' =
    (s : Sight) × (new ≡ sighted s old) × (steps' ≡ steps ++ sight_steps s) × SeenBy s old
    × IsFirstDifference old.own s.ring.list f.at × (f.left ≡ old.own) × (f.right ≡ s.ring.list)
LookRefused _ old new steps steps' = ⊥
