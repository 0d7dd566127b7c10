-- Parts of a list, one element after the other.
use Rattle.std.proofs.Common.{◌≡◌, ℕ, zero, suc, ◌<◌, ◌≤◌, List, [], ◌∷◌, ◌++◌, length, take, drop, Some, None, refl, ap, ◌∙◌, arith}
use Rattle.std.specs.List.{slice_get, AllByRecursion}
use Rattle.std.proofs.Math.Seq.{take-suc}
use Rattle.std.proofs.lemmas.List.{drop-append-le, length-drop, length-take-le}
use Rattle.std.proofs.lemmas.Option.{slice_get_within, get_or_from_slice_get}
use Rattle.key_elements.specs.declared.element.Element.{Element}
use Rattle.key_elements.specs.Record.{IsElement, AreListed}
use Rattle.repo_keeper.specs.Store.{IsTail}

-- the part up to the next place has one element more
pub part-next : {X : Type 0} (from n k : ℕ) (xs : List X) (x : X) → from ≤ n → k ≡ suc n → slice_get xs n ≡ Some x → drop from (take k xs) ≡ drop from (take n xs) ++ x ∷ []
part-next from n k xs x le next is =
    let within = slice_get_within xs n x is in
    ap (λ (i : ℕ). drop from (take i xs)) next ∙ ap (drop from) (take-suc xs n x within) ∙ ap (λ (y : _). drop from (take n xs ++ y ∷ [])) (get_or_from_slice_get xs n x x is)
    ∙ drop-append-le from (take n xs) (x ∷ []) (omega (arith, length-take-le n xs (omega arith)))

-- a place within a list has an element
pub slice_get-some : {X : Type 0} (xs : List X) (n : ℕ) → n < length xs → None ≡ slice_get xs n → ⊥
slice_get-some [] n lt none = absurd (omega arith)
slice_get-some (x ∷ xs) zero lt none = absurd cc
slice_get-some (x ∷ xs) (suc n) lt none = slice_get-some xs n (omega arith) none

AllByRecursion-drop : {X : Type 0} (P : X → Type 0) (n : ℕ) (xs : List X) → AllByRecursion P xs → AllByRecursion P (drop n xs)
AllByRecursion-drop P zero xs all = all
AllByRecursion-drop P (suc n) [] all = tt
AllByRecursion-drop P (suc n) (x ∷ xs) all = AllByRecursion-drop P n xs all.1

AllByRecursion-take : {X : Type 0} (P : X → Type 0) (n : ℕ) (xs : List X) → AllByRecursion P xs → AllByRecursion P (take n xs)
AllByRecursion-take P zero xs all = tt
AllByRecursion-take P (suc n) [] all = tt
AllByRecursion-take P (suc n) (x ∷ xs) all = (all.0, AllByRecursion-take P n xs all.1)

-- a part of what is kept is a tail of the part up to its end
pub IsTail-part : (from len : ℕ) (es : List Element) → AreListed es → from ≤ len → len ≤ length es → IsTail from (drop from (take len es)) (Some (take len es))
IsTail-part from len es listed le within = (
  omega (arith, length-drop from (take len es), length-take-le len es within, listed.few),
  AllByRecursion-drop IsElement from (take len es) (AllByRecursion-take IsElement len es listed.elements),
  (omega (arith, length-take-le len es within), refl),
)
