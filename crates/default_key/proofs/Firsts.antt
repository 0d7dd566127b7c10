-- The first place of a test that tells a fact.
use Rattle.std.proofs.Common.{◌≡◌, ℕ, ◌<◌, Bool, true, false, List, None, Some, IsSomeAnd, All, Any, take, length, get_or, position, slice_get, ◌∙◌, inl, inr, arith, length-take}
use Rattle.std.specs.Bool.{Decides}
use Rattle.std.proofs.lemmas.Bool.{cases_Bool}
use Rattle.std.proofs.lemmas.List.{get_or-take, get_or_default}
use Rattle.std.proofs.lemmas.List.Quantifiers.{position-Some}
use Rattle.std.proofs.lemmas.Option.{slice_get_cases}
use Rattle.default_key.proofs.Places.{position-None, position-first, position-none, position-within}
use Rattle.std.proofs.lemmas.List.Folds.{Any-from_list_any, list_any-from_Any}
use Rattle.std.specs.List.{list_any}

-- a test that fails denies its fact
pub denied : {P : Type 0} (b : Bool) → Decides b P → b ≡ false → P → ⊥
denied b tells fails fact = let holds = tells.1 fact in cc

-- the first place has the fact, and none before it does
pub position-has : {X : Type 0} (p : X → Bool) (P : X → Type 0) → ((x : X) → Decides (p x) (P x)) → (xs : List X) (i : ℕ) → position p xs ≡ Some i → IsSomeAnd (slice_get xs i) P × All (λ x. P x → ⊥) (take i xs)
position-has p P tells xs i found = elim (slice_get_cases xs i).1 [
  | inl (x, within, there, same) ↦
      let at_i = position-Some p xs i x found in
      let passes : p x ≡ true = rw same at at_i.1 in (
        rw there ((tells x).0 passes),
        λ k d k_in.
            let k_before : k < i = omega (arith, length-take i xs) in
            let read : get_or (take i xs) k d ≡ get_or xs k x = get_or-take i xs k d k_before ∙ get_or_default xs k d x (omega arith) in
            rw read (denied (p (get_or xs k x)) (tells (get_or xs k x)) (at_i.2 k k_before)),
      )
  | inr (past, none) ↦ let within : i < length xs = rw found at (position-within p xs) in absurd (omega arith)
]

-- a place that has the fact, and before which none does, is the first
pub position-of : {X : Type 0} (p : X → Bool) (P : X → Type 0) → ((x : X) → Decides (p x) (P x)) → (xs : List X) (i : ℕ) → IsSomeAnd (slice_get xs i) P → All (λ x. P x → ⊥) (take i xs) → position p xs ≡ Some i
position-of p P tells xs i fact before = elim (slice_get_cases xs i).1 [
  | inl (x, within, there, same) ↦
      let passes : p x ≡ true = (tells x).1 (rw there at fact) in
      position-first p xs i x within (rw same passes)
      (λ k h. elim (cases_Bool (p (get_or xs k x))) [
        | inl holds ↦
            let read : get_or (take i xs) k x ≡ get_or xs k x = get_or-take i xs k x h in
            absurd (before k x (omega (arith, length-take i xs)) (rw read ((tells (get_or xs k x)).0 holds)))
        | inr fails ↦ fails
      ])
  | inr (past, none) ↦ absurd (rw none at fact)
]

-- there is no place where no element has the fact, and the other way round
pub position-none_has : {X : Type 0} (p : X → Bool) (P : X → Type 0) → ((x : X) → Decides (p x) (P x)) → (xs : List X) → position p xs ≡ None → Any P xs → ⊥
position-none_has p P tells xs none (k, x, within, there, fact) =
    denied (p x) (tells x) (rw there at (position-None p xs none k x within)) fact

pub position-no_fact : {X : Type 0} (p : X → Bool) (P : X → Type 0) → ((x : X) → Decides (p x) (P x)) → (xs : List X) → (Any P xs → ⊥) → position p xs ≡ None
position-no_fact p P tells xs no_fact = position-none p xs
    (λ k d h. elim (cases_Bool (p (get_or xs k d))) [
      | inl holds ↦ absurd (no_fact (k, get_or xs k d, h, get_or_default xs k (get_or xs k d) d h, (tells (get_or xs k d)).0 holds))
      | inr fails ↦ fails
    ])

-- a test of some element
pub list_any-tells : {X : Type 0} (p : X → Bool) (P : X → Type 0) → ((x : X) → Decides (p x) (P x)) → (xs : List X) → Decides (list_any p xs) (Any P xs)
list_any-tells p P tells xs = (
  λ holds. let (k, x, within, there, passes) = Any-from_list_any p xs holds in (k, x, within, there, (tells x).0 passes),
  λ (k, x, within, there, fact). list_any-from_Any p xs (k, x, within, there, (tells x).1 fact),
)
