-- How many calls of a repository have no step.
use Rattle.std.proofs.Common.{◌≡◌, ℕ, ◌≤◌, List, [], ◌∷◌, Result, Err, Bool, true, false, if◌then◌else◌, refl, ap, arith}
use Rattle.key_elements.specs.declared.element.Element.{Element}
use Rattle.key_ring.specs.Ring.{RingOf}
use Rattle.ring_world.specs.declared.step.Step.TheVariants.{Give}
use Rattle.ring_world.specs.Course.{Course, closed, holds}
use Rattle.ring_world.specs.Flight as flight
use Rattle.ring_world.specs.Flight.{Refusal}
use Rattle.ring_world.specs.Path.{Call}
use Rattle.ring_world.specs.Way as way
use Rattle.ring_world.specs.Way.{CallPath}
use Rattle.ring_world.specs.Placing as placing
use Rattle.ring_world.specs.Placing.{Asked, Placing, Placed, Undrawn, Unplaced, Overfull, Receded, PlacePath, place_course}
use Rattle.node_calls.proofs.Ways.{way_noted}

back_noted : (d : Course) (b : Bool) → (if b then closed d (Give ∷ []) else d).unnoted ≡ d.unnoted
back_noted d true = refl
back_noted d false = refl

-- one call of the repository at the most has no step, and only where no memory was found
pub call_noted : (c : Call) (r : Result RingOf Refusal) (own : List Element) (d : Course) → CallPath c r own d → d.unnoted ≤ 1
call_noted c r own d (way.complete w is line e o s) = omega (arith, ap (λ (x : Course). x.unnoted) s, way_noted c w)
call_noted c r own d (way.cut_off w is line e o k) = omega (arith, ap (λ (x : Course). x.unnoted) k.given, back_noted k.front (holds false k.front.steps), k.is.unnoted)

pub call_all_noted : (c : Call) (r : Result RingOf Refusal) (own : List Element) (d : Course) → CallPath c r own d → (r ≡ Err flight.Memory → ⊥) → d.unnoted ≡ 0
call_all_noted c r own d (way.complete w is line e o s) known = omega (arith, ap (λ (x : Course). x.unnoted) s, way_noted c w)
call_all_noted c r own d (way.cut_off w is line e o k) known = absurd (known e)

placing_noted : (a : Asked) (p : Placing) → (place_course a p).unnoted ≡ 0
placing_noted a (Placed b fs) = refl
placing_noted a Undrawn = refl
placing_noted a (Unplaced b) = refl
placing_noted a (Overfull b) = refl
placing_noted a (Receded b got) = refl

pub place_noted : (a : Asked) (r : Result ℕ Refusal) (own : List Element) (d : Course) → PlacePath a r own d → d.unnoted ≤ 1
place_noted a r own d (placing.complete p is e o s) = omega (arith, ap (λ (x : Course). x.unnoted) s, placing_noted a p)
place_noted a r own d (placing.cut_off p is e o k) = k.unnoted

pub place_all_noted : (a : Asked) (r : Result ℕ Refusal) (own : List Element) (d : Course) → PlacePath a r own d → (r ≡ Err flight.Memory → ⊥) → d.unnoted ≡ 0
place_all_noted a r own d (placing.complete p is e o s) known = omega (arith, ap (λ (x : Course). x.unnoted) s, placing_noted a p)
place_all_noted a r own d (placing.cut_off p is e o k) known = absurd (known e)
