-- Fronts of a history.
use Rattle.std.proofs.Common.{◌≡◌, ℕ, zero, suc, ◌+◌, ◌<◌, List, [], ◌∷◌, length, take, get_or, All, refl, sym, ap, subst}
use Rattle.std.proofs.lemmas.List.{take_more}
use Rattle.std.proofs.lemmas.List.Elements.{All-push}
use Rattle.key_elements.specs.declared.element.Element.{Element}
use Rattle.key_elements.specs.Lists.{Extends}
use Rattle.key_elements.specs.Growth.{Extends-transitive}
use Rattle.dp_answer.specs.declared.trace.Trace.{Trace}
use Rattle.dp_cluster.specs.Audit.{AreFronts, HasFronts}

Extends-take : (n : ℕ) (list : List Element) → Extends list (take n list)
Extends-take zero list = refl
Extends-take (suc n) [] = refl
Extends-take (suc n) (e ∷ list) = ap (λ (l : List Element). e ∷ l) (Extends-take n list)

-- one list more is a front
pub AreFronts-more : (history : List Element) (traces : List Trace) (i : ℕ) (t : Trace) → i < length traces → t ≡ get_or traces i t
    → AreFronts history (take i traces) → Extends history t.list → AreFronts history (take (i + 1) traces)
AreFronts-more history traces i t lt is so_far front =
    let P : Trace → Type 0 = λ t. Extends history t.list in
    subst (All P) (sym (take_more traces i t lt))
    (All-push P (take i traces) (get_or traces i t) so_far (subst P is front))

-- fronts of a front are fronts
pub fronts_of_entries : (history : List Element) (traces : List Trace) → AreFronts history traces → All (HasFronts history) traces
fronts_of_entries history traces fronts i t within k e inside =
    Extends-transitive history _ _ (fronts i t within) (Extends-take _ _)
