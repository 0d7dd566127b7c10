-- Input that was refused as a list is wrong at the place that is told.
use Rattle.std.proofs.Common.{◌≡◌, ℕ, ◌+◌, List, take, Option, Some, None, sym, ap, subst, ◌∙◌}
use Rattle.std.specs.Prelude.{IfSome}
use Rattle.dp_base.specs.Transfer.{TakesFront}
use Rattle.key_elements.specs.declared.refused.ListRefused.{ListRefused}
use Rattle.key_elements.specs.declared.refused.ListRefused.TheVariants as refused
use Rattle.key_elements.specs.Reading.{IsRefusedAt, IsTooMany}
use Rattle.key_elements.specs.Refusals.{Explains}
use Rattle.dp_session.specs.declared.status.Status.TheVariants.{BadInput, NoMemory}
use Rattle.dp_server.specs.declared.outcome.ShowEnd.{ShowEnd}
use Rattle.dp_server.specs.declared.transfer.TheConstants.{MAX_INPUT}
use Rattle.dp_server.specs.Outcomes.{refusal_outcome, IsBadPlace}

-- bad input isn't told for want of memory
pub not_memory : (end : ShowEnd) (r : ListRefused) → end ≡ refusal_outcome r → end.status ≡ BadInput → r ≡ refused.Memory → ⊥
not_memory end r is bad memory =
    let other : end.status ≡ NoMemory = ap (λ (o : ShowEnd). o.status) (is ∙ ap refusal_outcome memory) in
    absurd (cc (other, bad))

at_front : (P : List ℕ → Type 0) (left after : Option (List ℕ)) (bytes : List ℕ) → TakesFront (MAX_INPUT + 1) left after bytes → P bytes
    → IfSome left (λ all. P (take (MAX_INPUT + 1) all))
at_front P None after bytes front here = tt
at_front P (Some left) after bytes front here = subst P front.0 here

place_of : (left after : Option (List ℕ)) (bytes : List ℕ) (r : ListRefused) → TakesFront (MAX_INPUT + 1) left after bytes → Explains bytes r
    → IfSome (refusal_outcome r).bad (IsBadPlace left)
place_of left after bytes (refused.At place why) front cause = at_front (λ t. IsRefusedAt t place why) left after bytes front cause
place_of left after bytes (refused.TooMany place) front cause = at_front (λ t. IsTooMany t place) left after bytes front cause
place_of left after bytes refused.Memory front cause = tt

pub bad_place : (left after : Option (List ℕ)) (bytes : List ℕ) (end : ShowEnd) (r : ListRefused) → TakesFront (MAX_INPUT + 1) left after bytes → Explains bytes r
    → end ≡ refusal_outcome r → IfSome end.bad (IsBadPlace left)
bad_place left after bytes end r front cause is =
    subst (λ (o : ShowEnd). IfSome o.bad (IsBadPlace left)) (sym is) (place_of left after bytes r front cause)
