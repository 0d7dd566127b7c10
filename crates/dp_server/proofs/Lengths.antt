-- The bytes of a list of elements are at most as many as are read.
use Rattle.std.proofs.Common.{◌≡◌, ℕ, ◌+◌, ◌*◌, ◌≤◌, List, [], ◌∷◌, length, take, Option, Some, None, sym, ap, subst, ◌∙◌, arith}
use Rattle.std.specs.List.{flat_map, AllByRecursion}
use Rattle.std.proofs.lemmas.List.{length-append, length-take, take_all, drop_all}
use Rattle.key_elements.specs.declared.element.Element.{Element}
use Rattle.key_elements.specs.declared.element.TheConstants.{MAX_RECORD}
use Rattle.key_elements.specs.Record.{record_of, IsElement, IsList}
use Rattle.key_elements.proofs.Longest.{length-record-le}
use Rattle.dp_server.specs.declared.transfer.TheConstants.{MAX_INPUT}
use Rattle.dp_base.specs.Transfer.{TakesFront}
use Rattle.dp_server.specs.Show.{IsRefused, IsWhole}

length-records-le : (es : List Element) → AllByRecursion IsElement es → length (flat_map record_of es) ≤ MAX_RECORD * length es
length-records-le [] all = omega arith
length-records-le (e ∷ es) all =
    omega (arith, length-append (record_of e) (flat_map record_of es), length-record-le e all.0, length-records-le es all.1)

-- a list of elements has at most so many bytes
length-list-le : (bytes : List ℕ) (es : List Element) → IsList bytes es → length bytes ≤ MAX_INPUT
length-list-le bytes es list = omega (arith, list.0, ap length list.1.1, length-records-le es list.1.0)

-- a front that is shorter than what was asked for is the whole
whole : (left bytes : List ℕ) → bytes ≡ take (MAX_INPUT + 1) left → length bytes ≤ MAX_INPUT → (length left ≤ MAX_INPUT + 1) × (bytes ≡ left)
whole left bytes front few =
    let short : length left ≤ MAX_INPUT + 1 = omega (arith, ap length front, length-take (MAX_INPUT + 1) left) in
    (short, front ∙ take_all (MAX_INPUT + 1) left short)

-- where the front is a list, the whole input is
pub IsWhole-front : (left after : Option (List ℕ)) (bytes : List ℕ) (es : List Element) → TakesFront (MAX_INPUT + 1) left after bytes → IsList bytes es → IsWhole left after es
IsWhole-front None after bytes es front list = tt
IsWhole-front (Some left) after bytes es front list =
    let all = whole left bytes front.0 (length-list-le bytes es list) in
    (subst (λ (t : List ℕ). IsList t es) all.1 list, front.1 ∙ ap Some (drop_all (MAX_INPUT + 1) left all.0))

-- where the front is no list, the whole input is none, and all was read
pub IsRefused-front : (left after : Option (List ℕ)) (bytes : List ℕ) → TakesFront (MAX_INPUT + 1) left after bytes → ((es : List Element) → IsList bytes es → ⊥)
    → IsRefused left after
IsRefused-front None after bytes front none = tt
IsRefused-front (Some left) after bytes front none = (
  λ listed.
      let few = length-list-le left listed.0 listed.1 in
      none listed.0 (subst (λ (t : List ℕ). IsList t listed.0) (sym (front.0 ∙ take_all (MAX_INPUT + 1) left (omega arith))) listed.1),
  front.1,
)
