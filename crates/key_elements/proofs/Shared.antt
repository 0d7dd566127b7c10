-- Elements behind shared pointers, and lists of them that are compared or extended.
use Rattle.std.proofs.Common.{◌≡◌, ℕ, ◌+◌, ◌<◌, ◌≤◌, List, [], ◌∷◌, ◌++◌, length, map, take, get_or, refl, sym, ap, ◌∙◌, arith}
use Rattle.std.specs.Arc.{arc_value}
use Rattle.std.specs.List.{AllByRecursion, AllZip}
use Rattle.std.specs.declared.sync.Arc.{Arc}
use Rattle.std.specs.declared.alloc.Global.{Global}
use Rattle.std.proofs.lemmas.List.{length-append, length-map, take_more, get_or-map}
use Rattle.key_elements.specs.declared.element.Element.{Element}
use Rattle.key_elements.specs.declared.list.TheConstants.{MAX_ELEMENTS}
use Rattle.key_elements.specs.Record.{IsElement, AreListed}

abbrev pub Shared : Type 0
Shared = Arc Element Global

-- pointers that were copied point to the same elements
pub elements-copied : (xs ys : List Shared) → AllZip (λ c d. arc_value d ≡ arc_value c) xs ys → map arc_value ys ≡ map arc_value xs
elements-copied [] [] all = refl
elements-copied [] (y ∷ ys) all = absurd all
elements-copied (x ∷ xs) [] all = absurd all
elements-copied (x ∷ xs) (y ∷ ys) all =
    ap (λ (e : Element). e ∷ map arc_value ys) all.0 ∙ ap (λ (t : List Element). arc_value x ∷ t) (elements-copied xs ys all.1)

AreElements-append : (es fs : List Element) → AllByRecursion IsElement es → AllByRecursion IsElement fs → AllByRecursion IsElement (es ++ fs)
AreElements-append [] fs all alls = alls
AreElements-append (e ∷ es) fs all alls = (all.0, AreElements-append es fs all.1 alls)

-- a list with a tail for which there is room
pub AreListed-append : (es fs : List Element) → AreListed es → AllByRecursion IsElement fs → length es + length fs ≤ MAX_ELEMENTS → AreListed (es ++ fs)
AreListed-append es fs is alls le = record {
  few = omega (arith, length-append es fs);
  elements = AreElements-append es fs is.elements alls;
}

-- the elements of pointers at a place
read_at : (items : List Shared) (es : List Element) (i : ℕ) (p : Shared) → map arc_value items ≡ es → i < length items → p ≡ get_or items i p
    → (i < length es) × (arc_value p ≡ get_or es i (arc_value p))
read_at items es i p is lt here = (
  omega (arith, ap length is, length-map items arc_value),
  ap arc_value here ∙ sym (get_or-map arc_value items i p (arc_value p) lt) ∙ ap (λ (t : List Element). get_or t i (arc_value p)) is,
)

-- one more element is the same
pub agree_more : (xs ys : List Shared) (es fs : List Element) (i : ℕ) (p q : Shared) → map arc_value xs ≡ es → map arc_value ys ≡ fs
    → i < length xs → i < length ys → p ≡ get_or xs i p → q ≡ get_or ys i q → arc_value p ≡ arc_value q → take i es ≡ take i fs → take (i + 1) es ≡ take (i + 1) fs
agree_more xs ys es fs i p q ax by lx ly px qy same so_far =
    let a = read_at xs es i p ax lx px in
    let b = read_at ys fs i q by ly qy in
    let d : Element = arc_value p in
    let here : get_or es i d ≡ get_or fs i d =
    sym a.1 ∙ same ∙ b.1 ∙ ap (get_or fs i) (sym same) in
    take_more es i d a.0 ∙ ap (λ (t : List Element). t ++ get_or es i d ∷ []) so_far
    ∙ ap (λ (e : Element). take i fs ++ e ∷ []) here ∙ sym (take_more fs i d b.0)
