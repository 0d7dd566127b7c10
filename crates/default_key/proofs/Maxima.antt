-- A loop that keeps the first maximum of the keys that pass.
use Rattle.std.proofs.Common.{◌≡◌, ℕ, ◌<◌, Bool, true, false, not, ◌&&◌, ◌||◌, List, [], ◌∷◌, Option, None, Some, filter, option_map, length, get_or, position, refl, ◌∙◌, ap, subst, inl, inr}
use Rattle.std.specs.List.{list_all}
use Rattle.std.proofs.lemmas.Bool.{cases_Bool}
use Rattle.std.proofs.lemmas.List.Folds.{list_all_at}
use Rattle.std.proofs.lemmas.List.Sums.{list_all-from_AllPass}
use Rattle.default_key.specs.declared.key_facts.KeyFacts.{KeyFacts}
use Rattle.default_key.specs.PolicyValues.{is_maximum}
use Rattle.default_key.proofs.Places.{and_false, and_left, position-first, position-none}

-- of the first n keys, the one at place passes and goes before each earlier one that passes, and no
-- one that passes goes before it
pub record IsHeld (passes : KeyFacts → Bool) (before : KeyFacts → KeyFacts → Bool) (keys : List KeyFacts) (n place : ℕ) (key : KeyFacts) : Type 0 where
  pub within : place < n
  pub is_there : get_or keys place key ≡ key
  pub is_passed : passes key ≡ true
  pub unbeaten : (k : ℕ) (d : KeyFacts) → k < n → passes (get_or keys k d) ≡ true → before (get_or keys k d) key ≡ false
  pub first : (k : ℕ) (d : KeyFacts) → k < place → passes (get_or keys k d) ≡ true → before key (get_or keys k d) ≡ true

-- what is found among the first n keys
abbrev pub Found : (KeyFacts → Bool) → (KeyFacts → KeyFacts → Bool) → List KeyFacts → ℕ → Option (ℕ × KeyFacts) → Type 0
Found passes before keys n None = (k : ℕ) (d : KeyFacts) → k < n → passes (get_or keys k d) ≡ false
Found passes before keys n (Some held) = IsHeld passes before keys n held.0 held.1

-- a test of each element of a filter
list_all-filter : {X : Type 0} (q p : X → Bool) (xs : List X) → list_all q (filter p xs) ≡ list_all (λ x. not (p x) || q x) xs
list_all-filter q p [] = refl
list_all-filter q p (x ∷ xs) = elim (cases_Bool (p x)) [
  | inl holds ↦ rw holds (ap (λ b. q x && b) (list_all-filter q p xs))
  | inr fails ↦ rw fails (list_all-filter q p xs)
]

-- the maximum's test at each element
is_maximum-each : (passes : KeyFacts → Bool) (before : KeyFacts → KeyFacts → Bool) (keys : List KeyFacts) (key : KeyFacts) → is_maximum passes before keys key ≡ (passes key && list_all (λ other. not (passes other) || not (before other key)) keys)
is_maximum-each passes before keys key = ap (λ b. passes key && b) (list_all-filter (λ other. not (before other key)) passes keys)

-- a key that passes, and that none goes before, is a maximum
pub is_maximum-true : (passes : KeyFacts → Bool) (before : KeyFacts → KeyFacts → Bool) (keys : List KeyFacts) (key : KeyFacts) → passes key ≡ true → ((k : ℕ) (d : KeyFacts) → k < length keys → passes (get_or keys k d) ≡ true → before (get_or keys k d) key ≡ false) → is_maximum passes before keys key ≡ true
is_maximum-true passes before keys key passed unbeaten =
    let each : (k : ℕ) (d : KeyFacts) → k < length keys → (not (passes (get_or keys k d)) || not (before (get_or keys k d) key)) ≡ true
    = λ k d h. elim (cases_Bool (passes (get_or keys k d))) [
      | inl holds ↦ rw (holds, unbeaten k d h holds) refl
      | inr fails ↦ rw fails refl
    ] in
    let all : list_all (λ other. not (passes other) || not (before other key)) keys ≡ true = list_all-from_AllPass (λ other. not (passes other) || not (before other key)) keys each in
    is_maximum-each passes before keys key ∙ (rw (passed, all) refl)

-- a key that one goes before is none
pub is_maximum-false : (passes : KeyFacts → Bool) (before : KeyFacts → KeyFacts → Bool) (keys : List KeyFacts) (key : KeyFacts) (k : ℕ) (d : KeyFacts) → k < length keys → passes (get_or keys k d) ≡ true → before (get_or keys k d) key ≡ true → is_maximum passes before keys key ≡ false
is_maximum-false passes before keys key k d within passed beaten =
    let here : (not (passes (get_or keys k d)) || not (before (get_or keys k d) key)) ≡ false = rw (passed, beaten) refl in
    let all : list_all (λ other. not (passes other) || not (before other key)) keys ≡ false = list_all_at (λ other. not (passes other) || not (before other key)) keys k d within here in
    is_maximum-each passes before keys key ∙ (rw all (and_false (passes key)))

-- a maximum passes
pub is_maximum-passes : (passes : KeyFacts → Bool) (before : KeyFacts → KeyFacts → Bool) (keys : List KeyFacts) (key : KeyFacts) → is_maximum passes before keys key ≡ true → passes key ≡ true
is_maximum-passes passes before keys key h = and_left (passes key) (list_all (λ other. not (before other key)) (filter passes keys)) h

-- and none that passes goes before it
pub is_maximum-unbeaten : (passes : KeyFacts → Bool) (before : KeyFacts → KeyFacts → Bool) (keys : List KeyFacts) (key : KeyFacts) → is_maximum passes before keys key ≡ true → (k : ℕ) (d : KeyFacts) → k < length keys → passes (get_or keys k d) ≡ true → before (get_or keys k d) key ≡ false
is_maximum-unbeaten passes before keys key h k d within passed =
    elim (cases_Bool (before (get_or keys k d) key)) [
      | inl holds ↦ let beaten = is_maximum-false passes before keys key k d within passed holds in cc
      | inr fails ↦ fails
    ]

-- what is found among all keys is the first maximum
none_found : (passes : KeyFacts → Bool) (before : KeyFacts → KeyFacts → Bool) (keys : List KeyFacts) → Found passes before keys (length keys) None → position (is_maximum passes before keys) keys ≡ None
none_found passes before keys none =
    position-none (is_maximum passes before keys) keys (λ k d h. rw (none k d h) refl)

held_found : (passes : KeyFacts → Bool) (before : KeyFacts → KeyFacts → Bool) (keys : List KeyFacts) (place : ℕ) (key : KeyFacts) → IsHeld passes before keys (length keys) place key → position (is_maximum passes before keys) keys ≡ Some place
held_found passes before keys place key held =
    position-first (is_maximum passes before keys) keys place key held.within
    (rw held.is_there (is_maximum-true passes before keys key held.is_passed held.unbeaten))
    (λ k h. elim (cases_Bool (passes (get_or keys k key))) [
      | inl holds ↦ is_maximum-false passes before keys (get_or keys k key) place key held.within (rw held.is_there held.is_passed) (rw held.is_there (held.first k key h holds))
      | inr fails ↦ rw fails refl
    ])

pub position-found : (passes : KeyFacts → Bool) (before : KeyFacts → KeyFacts → Bool) (keys : List KeyFacts) (n : ℕ) (found : Option (ℕ × KeyFacts)) → n ≡ length keys → Found passes before keys n found → position (is_maximum passes before keys) keys ≡ option_map (λ held. held.0) found
position-found passes before keys n None all found =
    none_found passes before keys (subst (λ (m : ℕ). Found passes before keys m None) all found)
position-found passes before keys n (Some held) all found =
    held_found passes before keys held.0 held.1 (subst (λ (m : ℕ). IsHeld passes before keys m held.0 held.1) all found)
