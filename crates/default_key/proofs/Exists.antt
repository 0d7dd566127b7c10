-- Where some key passes, there is a maximum of those that do.
use Rattle.std.proofs.Common.{◌≡◌, ℕ, ◌+◌, ◌<◌, ◌≤◌, zero, suc, add-one, option_map, Bool, true, false, List, Option, None, Some, length, get_or, position, refl, sym, ◌∙◌, inl, inr, arith}
use Rattle.std.specs.Cmp.{IsStrictWeakOrder}
use Rattle.std.proofs.lemmas.Bool.{cases_Bool}
use Rattle.std.proofs.lemmas.Grind.{common_steps}
use Rattle.default_key.specs.declared.key_facts.KeyFacts.{KeyFacts}
use Rattle.default_key.specs.PolicyValues.{is_maximum}
use Rattle.default_key.proofs.Maxima.{Found, IsHeld, position-found}

-- one more key, which doesn't pass
skipped : (passes : KeyFacts → Bool) (before : KeyFacts → KeyFacts → Bool) (keys : List KeyFacts) (n : ℕ) (d : KeyFacts) (found : Option (ℕ × KeyFacts)) → n < length keys → passes (get_or keys n d) ≡ false → Found passes before keys n found → Found passes before keys (n + 1) found
skipped passes before keys n d None within fails found = grind (arith, common_steps)
skipped passes before keys n d (Some held) within fails found = grind (arith, common_steps)

-- one that passes and goes before what was found
taken : (passes : KeyFacts → Bool) (before : KeyFacts → KeyFacts → Bool) (order : IsStrictWeakOrder before) (keys : List KeyFacts) (n place : ℕ) (d key : KeyFacts) → n < length keys → passes (get_or keys n d) ≡ true → before (get_or keys n d) key ≡ true → IsHeld passes before keys n place key → IsHeld passes before keys (n + 1) n (get_or keys n d)
taken passes before order keys n place d key within passed goes_first held = grind (arith, common_steps)

-- one that doesn't go before it
left : (passes : KeyFacts → Bool) (before : KeyFacts → KeyFacts → Bool) (keys : List KeyFacts) (n place : ℕ) (d key : KeyFacts) → n < length keys → before (get_or keys n d) key ≡ false → IsHeld passes before keys n place key → IsHeld passes before keys (n + 1) place key
left passes before keys n place d key within stays held = grind (arith, common_steps)

-- the first that passes
begun : (passes : KeyFacts → Bool) (before : KeyFacts → KeyFacts → Bool) (order : IsStrictWeakOrder before) (keys : List KeyFacts) (n : ℕ) (d : KeyFacts) → n < length keys → passes (get_or keys n d) ≡ true → Found passes before keys n None → IsHeld passes before keys (n + 1) n (get_or keys n d)
begun passes before order keys n d within passed none = grind (arith, common_steps)

-- one more key
found_more : (passes : KeyFacts → Bool) (before : KeyFacts → KeyFacts → Bool) (order : IsStrictWeakOrder before) (keys : List KeyFacts) (d : KeyFacts) (n : ℕ) (found : Option (ℕ × KeyFacts)) → n < length keys → Found passes before keys n found → (more : Option (ℕ × KeyFacts)) × Found passes before keys (n + 1) more
found_more passes before order keys d n None within found = elim (cases_Bool (passes (get_or keys n d))) [
  | inl holds ↦ (Some (n, get_or keys n d), begun passes before order keys n d within holds found)
  | inr fails ↦ (None, skipped passes before keys n d None within fails found)
]
found_more passes before order keys d n (Some held) within found = elim (cases_Bool (passes (get_or keys n d))) [
  | inl holds ↦ elim (cases_Bool (before (get_or keys n d) held.1)) [
    | inl goes_first ↦ (Some (n, get_or keys n d), taken passes before order keys n held.0 d held.1 within holds goes_first found)
    | inr stays ↦ (Some held, left passes before keys n held.0 d held.1 within stays found)
  ]
  | inr fails ↦ (Some held, skipped passes before keys n d (Some held) within fails found)
]

-- what is found among the first n keys
found_among : (passes : KeyFacts → Bool) (before : KeyFacts → KeyFacts → Bool) (order : IsStrictWeakOrder before) (keys : List KeyFacts) (d : KeyFacts) (n : ℕ) → n ≤ length keys → (found : Option (ℕ × KeyFacts)) × Found passes before keys n found
found_among passes before order keys d zero within = (None, λ k e h. absurd (omega arith))
found_among passes before order keys d (suc n) within =
    let earlier = found_among passes before order keys d n (omega arith) in
    let more = found_more passes before order keys d n earlier.0 (omega arith) earlier.1 in
    (more.0, rw (← add-one n) more.1)

none_found : (passes : KeyFacts → Bool) (before : KeyFacts → KeyFacts → Bool) (keys : List KeyFacts) (found : Option (ℕ × KeyFacts)) → Found passes before keys (length keys) found → option_map (λ (held : ℕ × KeyFacts). held.0) found ≡ None → (k : ℕ) (d : KeyFacts) → k < length keys → passes (get_or keys k d) ≡ false
none_found passes before keys None all none = all
none_found passes before keys (Some held) all none = cc

-- where there is no maximum, no key passes
pub position-no_maximum : (passes : KeyFacts → Bool) (before : KeyFacts → KeyFacts → Bool) → IsStrictWeakOrder before → (keys : List KeyFacts) → position (is_maximum passes before keys) keys ≡ None → (k : ℕ) (d : KeyFacts) → k < length keys → passes (get_or keys k d) ≡ false
position-no_maximum passes before order keys none k d within =
    let all = found_among passes before order keys d (length keys) (omega arith) in
    none_found passes before keys all.0 all.1 (sym (position-found passes before keys (length keys) all.0 refl all.1) ∙ none) k d within
