-- The first place whose element passes a test.
use Rattle.std.proofs.Common.{◌≡◌, ℕ, ◌<◌, Bool, true, false, cond, ◌&&◌, List, [], ◌∷◌, None, Some, IfSome, length, get_or, position, refl, sym, ◌∙◌, ap, arith, inl, inr, nat_lt}
use Rattle.std.proofs.lemmas.Bool.{cases_Bool, le-ltb, lt-ltb, ltb-false, ltb-true}
use Rattle.std.proofs.lemmas.List.{get_or_default}
use Rattle.std.proofs.lemmas.List.Quantifiers.{position-Some}
use Rattle.std.proofs.lemmas.List.Sums.{fails_before_first, position_or_len_is}
use Rattle.std.proofs.lemmas.List.Folds.{list_any_at, list_any_none}
use Rattle.std.specs.List.{list_any, position_or_len}

pub and_false : (b : Bool) → (b && false) ≡ false
and_false true = refl
and_false false = refl

pub and_left : (a b : Bool) → (a && b) ≡ true → a ≡ true
and_left true b h = refl
and_left false b h = h

-- it is the one that passes and before which none does
pub position-first : {X : Type 0} (p : X → Bool) (xs : List X) (i : ℕ) (d : X) → i < length xs → p (get_or xs i d) ≡ true → ((k : ℕ) → k < i → p (get_or xs k d) ≡ false) → position p xs ≡ Some i
position-first p xs i d within passes before =
    let at_i : position_or_len p xs ≡ i = position_or_len_is p xs i d (omega arith) before (λ _. passes) in
    rw (at_i, lt-ltb i (length xs) within)

-- there is none where no element passes
pub position-none : {X : Type 0} (p : X → Bool) (xs : List X) → ((k : ℕ) (d : X) → k < length xs → p (get_or xs k d) ≡ false) → position p xs ≡ None
position-none p [] none = refl
position-none p (x ∷ xs) none =
    let all = x ∷ xs in
    let past : position_or_len p all ≡ length all = position_or_len_is p all (length all) x (omega arith) (λ k h. none k x h) (λ h. absurd (omega arith)) in
    rw (past, le-ltb (length all) (length all) (omega arith))

within : (i n : ℕ) → IfSome (cond (nat_lt i n) (Some i) None) (λ place. place < n)
within i n = elim (cases_Bool (nat_lt i n)) [
  | inl holds ↦ rw holds (ltb-true i n holds)
  | inr fails ↦ rw fails tt
]

-- it is a place of the list
pub position-within : {X : Type 0} (p : X → Bool) (xs : List X) → IfSome (position p xs) (λ i. i < length xs)
position-within p xs = within (position_or_len p xs) (length xs)

-- where there is none, no element passes
pub position-None : {X : Type 0} (p : X → Bool) (xs : List X) → position p xs ≡ None → (k : ℕ) (d : X) → k < length xs → p (get_or xs k d) ≡ false
position-None p xs none k d h = elim (cases_Bool (nat_lt (position_or_len p xs) (length xs))) [
  | inl holds ↦ absurd (let some : position p xs ≡ Some (position_or_len p xs) = rw holds refl in cc)
  | inr fails ↦ let past = ltb-false (position_or_len p xs) (length xs) fails in fails_before_first p xs k d (omega arith)
]

-- of a test that at most one place passes
pub record IsAlone {X : Type 0} (p : X → Bool) (xs : List X) : Type 0 where
  pub same : (i j : ℕ) (d e : X) → i < length xs → j < length xs → p (get_or xs i d) ≡ true → p (get_or xs j e) ≡ true → i ≡ j

pub IsAlone-and : {X : Type 0} (p q : X → Bool) (xs : List X) → IsAlone p xs → IsAlone (λ x. p x && q x) xs
IsAlone-and p q xs alone = record {
  same = λ i j d e i_in j_in both_i both_j.
      alone.same i j d e i_in j_in (and_left (p (get_or xs i d)) (q (get_or xs i d)) both_i) (and_left (p (get_or xs j e)) (q (get_or xs j e)) both_j);
}

-- the place that passes is the first
pub position-alone : {X : Type 0} (p : X → Bool) (xs : List X) → IsAlone p xs → (i : ℕ) (d : X) → i < length xs → p (get_or xs i d) ≡ true → position p xs ≡ Some i
position-alone p xs alone i d within passes = position-first p xs i d within passes
    (λ k h. elim (cases_Bool (p (get_or xs k d))) [
      | inl holds ↦ let same = alone.same k i d d (omega arith) within holds passes in absurd (omega arith)
      | inr fails ↦ fails
    ])

-- a second test of the first place
pub position-kept : {X : Type 0} (p q : X → Bool) (xs : List X) (i : ℕ) (d : X) → position p xs ≡ Some i → q (get_or xs i d) ≡ true → position (λ x. p x && q x) xs ≡ Some i
position-kept p q xs i d found passes =
    let at_i = position-Some p xs i d found in
    position-first (λ x. p x && q x) xs i d at_i.0 (rw (at_i.1, passes) refl) (λ k h. rw (at_i.2 k h) refl)

pub position-dropped : {X : Type 0} (p q : X → Bool) (xs : List X) → IsAlone p xs → (i : ℕ) (d : X) → position p xs ≡ Some i → q (get_or xs i d) ≡ false → position (λ x. p x && q x) xs ≡ None
position-dropped p q xs alone i d found fails_at =
    let at_i = position-Some p xs i d found in
    position-none (λ x. p x && q x) xs (λ k e h. elim (cases_Bool (p (get_or xs k e))) [
      | inl holds ↦
          let same : k ≡ i = alone.same k i e d h at_i.0 holds at_i.1 in
          let here : get_or xs k e ≡ get_or xs i d = get_or_default xs k e d h ∙ ap (λ n. get_or xs n d) same in
          rw (here, at_i.1, fails_at) refl
      | inr fails ↦ rw fails refl
    ])

pub position-no_first : {X : Type 0} (p q : X → Bool) (xs : List X) → position p xs ≡ None → position (λ x. p x && q x) xs ≡ None
position-no_first p q xs none = position-none (λ x. p x && q x) xs (λ k d h. rw (position-None p xs none k d h) refl)

-- a test of some element that passes
pub list_any-alone : {X : Type 0} (p q : X → Bool) (xs : List X) → IsAlone p xs → (i : ℕ) (d : X) → position p xs ≡ Some i → list_any (λ x. p x && q x) xs ≡ q (get_or xs i d)
list_any-alone p q xs alone i d found =
    let at_i = position-Some p xs i d found in
    elim (cases_Bool (q (get_or xs i d))) [
      | inl holds ↦ list_any_at (λ x. p x && q x) xs i d at_i.0 (rw (at_i.1, holds) refl) ∙ sym holds
      | inr fails_at ↦
          list_any_none (λ x. p x && q x) xs (position-None (λ x. p x && q x) xs (position-dropped p q xs alone i d found fails_at)) ∙ sym fails_at
    ]

pub list_any-no_first : {X : Type 0} (p q : X → Bool) (xs : List X) → position p xs ≡ None → list_any (λ x. p x && q x) xs ≡ false
list_any-no_first p q xs none =
    list_any_none (λ x. p x && q x) xs (position-None (λ x. p x && q x) xs (position-no_first p q xs none))
