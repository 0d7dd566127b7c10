-- What the tests of choices tell, each by the fact of its name.
use Rattle.std.proofs.Common.{ℕ, ◌<◌, ◌≤◌, Bool, List, get_or, All, inl, inr, arith}
use Rattle.std.specs.Bool.{Decides}
use Rattle.std.proofs.lemmas.Bool.{cases_Bool}
use Rattle.std.proofs.lemmas.Bool.Decides.{Decides-and, Decides-like, Decides-ltb, nat_tests}
use Rattle.default_key.specs.declared.key_facts.KeyFacts.{KeyFacts}
use Rattle.default_key.specs.PolicyValues.{is_active, is_ahead, is_best, is_maximum, is_newer, is_older, is_preferred, is_settled, is_sound, is_valid, takes_over}
use Rattle.default_key.specs.Policy.{IsActive, IsAhead, IsBest, IsNewest, IsOldest, IsPreferred, IsSettled, IsSound, IsValid, TakesOver}
use Rattle.default_key.proofs.Maxima.{is_maximum-passes, is_maximum-true, is_maximum-unbeaten}

is_active-tells : (now : ℕ) (key : KeyFacts) → Decides (is_active now key) (IsActive now key)
is_active-tells now key = grind (arith, nat_tests)

is_ahead-tells : (a b : KeyFacts) → Decides (is_ahead a b) (IsAhead a b)
is_ahead-tells a b = grind (arith, nat_tests)

is_newer-tells : (a b : KeyFacts) → Decides (is_newer a b) (b.creation < a.creation)
is_newer-tells a b = Decides-ltb b.creation a.creation

is_older-tells : (a b : KeyFacts) → Decides (is_older a b) (a.creation < b.creation)
is_older-tells a b = Decides-ltb a.creation b.creation

not_below : {a b : ℕ} → (a < b → ⊥) → b ≤ a
not_below h = omega (arith, h)

is_sound-tells : (key : KeyFacts) → Decides (is_sound key) (IsSound key)
is_sound-tells key = grind arith

pub is_settled-tells : (now : ℕ) (key : KeyFacts) → Decides (is_settled now key) (IsSettled now key)
is_settled-tells now key = grind (arith, nat_tests)

is_valid-tells : (now : ℕ) (key : KeyFacts) → Decides (is_valid now key) (IsValid now key)
is_valid-tells now key = grind (arith, nat_tests)

pub takes_over-tells : (now : ℕ) (key next : KeyFacts) → Decides (takes_over now key next) (TakesOver now key next)
takes_over-tells now key next = grind (arith, nat_tests)

-- a maximum by tests that tell P and B
is_maximum-tells : (passes : KeyFacts → Bool) (before : KeyFacts → KeyFacts → Bool) (P : KeyFacts → Type 0) (B : KeyFacts → KeyFacts → Type 0) → ((key : KeyFacts) → Decides (passes key) (P key)) → ((a b : KeyFacts) → Decides (before a b) (B a b)) → (keys : List KeyFacts) (key : KeyFacts) → Decides (is_maximum passes before keys key) (P key × All (λ other. P other → B other key → ⊥) keys)
is_maximum-tells passes before P B passes_tells before_tells keys key = (
  λ maximum. (
    (passes_tells key).0 (is_maximum-passes passes before keys key maximum),
    λ k d within passed beaten.
        let unbeaten = is_maximum-unbeaten passes before keys key maximum k d within ((passes_tells (get_or keys k d)).1 passed) in
        let beats = (before_tells (get_or keys k d) key).1 beaten in
        cc,
  ),
  λ fact. is_maximum-true passes before keys key ((passes_tells key).1 fact.0)
      (λ k d within passed. elim (cases_Bool (before (get_or keys k d) key)) [
        | inl holds ↦ absurd (fact.1 k d within ((passes_tells (get_or keys k d)).0 passed) ((before_tells (get_or keys k d) key).0 holds))
        | inr fails ↦ fails
      ]),
)

is_best-tells : (keys : List KeyFacts) (now : ℕ) (key : KeyFacts) → Decides (is_best keys now key) (IsBest keys now key)
is_best-tells keys now key = is_maximum-tells (is_active now) is_ahead (IsActive now) IsAhead (is_active-tells now) is_ahead-tells keys key

pub is_preferred-tells : (keys : List KeyFacts) (now : ℕ) (key : KeyFacts) → Decides (is_preferred keys now key) (IsPreferred keys now key)
is_preferred-tells keys now key = Decides-and (is_best keys now key) (is_valid now key) (is_best-tells keys now key) (is_valid-tells now key)

-- of the settled keys, none of a greater creation
pub is_newest-tells : (keys : List KeyFacts) (now : ℕ) (key : KeyFacts) → Decides (is_maximum (is_settled now) is_newer keys key) (IsNewest keys now key)
is_newest-tells keys now key = Decides-like (is_maximum (is_settled now) is_newer keys key)
    (λ fact. (fact.0, λ k d within settled. not_below (fact.1 k d within settled)))
    (λ fact. (fact.0, λ k d within settled newer. let older = fact.1 k d within settled in omega arith))
    (is_maximum-tells (is_settled now) is_newer (IsSettled now) (λ a b. b.creation < a.creation) (is_settled-tells now) is_newer-tells keys key)

pub is_oldest-tells : (keys : List KeyFacts) (key : KeyFacts) → Decides (is_maximum is_sound is_older keys key) (IsOldest keys key)
is_oldest-tells keys key = Decides-like (is_maximum is_sound is_older keys key)
    (λ fact. (fact.0, λ k d within sound. not_below (fact.1 k d within sound)))
    (λ fact. (fact.0, λ k d within sound older. let newer = fact.1 k d within sound in omega arith))
    (is_maximum-tells is_sound is_older IsSound (λ a b. a.creation < b.creation) is_sound-tells is_older-tells keys key)
