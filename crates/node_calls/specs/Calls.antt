-- What a call is asked, in the terms of the paths.
use Rattle.std.specs.Prelude.{ℕ, Bool, false, true, ◌||◌, List, [], ◌∷◌, Option}
use Rattle.dp_base.specs.declared.key_id.KeyId.{KeyId}
use Rattle.default_key.specs.declared.options.Options.{Options}
use Rattle.key_elements.specs.declared.element.Element.{Element}
use Rattle.ring_world.specs.declared.step.Step.{Step}
use Rattle.ring_world.specs.declared.step.Step.TheVariants.{PrivateRead}
use Rattle.ring_world.specs.Flight.{Terms}
use Rattle.ring_world.specs.Path.{Call}
use Rattle.node_calls.specs.declared.call.At.{At}
use Rattle.node_calls.specs.HostState.{HostState}

abbrev pub terms : ℕ → Options → Bool → Option (List Element) → Option (List Element) → Terms
terms now options opening before told =
    record { now = now; options = options; opening = opening; before = before; told = told }

-- the call of a pass, which may name a key that its ring should hold; the repository's list before it
-- and at its end
abbrev pub call : At → Option KeyId → HostState → Option (List Element) → Option (List Element) → Call
call at missing s before told = record {
  terms = terms at.now s.facts.options false before told;
  need = at.need;
  missing = missing;
  opened_at = s.facts.opened_at;
  own = s.own;
  single = s.single;
}

-- whether the ring was read privately
abbrev pub private_step : Step → Bool
private_step (PrivateRead f) = true
private_step _ = false

abbrev pub is_private : List Step → Bool
is_private [] = false
is_private (x ∷ xs) = private_step x || is_private xs
