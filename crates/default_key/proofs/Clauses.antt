-- The values of the policy, by its facts.
use Rattle.std.proofs.Common.{◌≡◌, ℕ, ◌<◌, ◌⊎◌, ◌↔◌, Bool, true, false, not, ◌&&◌, cond, List, Option, None, Some, is_some, IfSome, IsSomeAnd, Any, length, slice_get, refl, inl, inr}
use Rattle.std.specs.Bool.{Decides}
use Rattle.std.specs.List.{list_any}
use Rattle.std.specs.Option.{option_or}
use Rattle.std.proofs.lemmas.Bool.Decides.{Decides-and}
use Rattle.std.proofs.lemmas.Option.{slice_get_cases}
use Rattle.default_key.specs.declared.key_facts.KeyFacts.{KeyFacts}
use Rattle.default_key.specs.PolicyValues.{fallback_of, is_maximum, is_newer, is_older, is_preferred, is_settled, is_sound, newest_of, oldest_of, preferred_of, renew_of, takes_over}
use Rattle.default_key.specs.OrderLaws.{IsStrictWeakOrder-is_newer}
use Rattle.default_key.specs.Policy.{HaveDistinctIds, IsFallback, IsFollowed, IsNewest, IsOldest, IsPreferred, IsSettled, TakesOver}
use Rattle.default_key.proofs.Exists.{position-no_maximum}
use Rattle.default_key.proofs.Firsts.{denied, list_any-tells, position-has, position-no_fact, position-none_has, position-of}
use Rattle.default_key.proofs.Places.{position-alone, position-within}
use Rattle.default_key.proofs.Preference.{IsAlone-preferred}
use Rattle.default_key.proofs.Tells.{is_newest-tells, is_oldest-tells, is_preferred-tells, is_settled-tells, takes_over-tells}

pub preferred_of-tells : (keys : List KeyFacts) (now : ℕ) → HaveDistinctIds keys → (place : ℕ) → (preferred_of keys now ≡ Some place) ↔ IsSomeAnd (slice_get keys place) (IsPreferred keys now)
preferred_of-tells keys now ids place = (
  λ found. (position-has (is_preferred keys now) (IsPreferred keys now) (is_preferred-tells keys now) keys place found).0,
  λ fact. elim (slice_get_cases keys place).1 [
    | inl (key, within, there, same) ↦
        position-alone (is_preferred keys now) keys (IsAlone-preferred keys now ids) place key within
        (rw same ((is_preferred-tells keys now key).1 (rw there at fact)))
    | inr (past, none) ↦ absurd (rw none at fact)
  ],
)

is_followed-tells : (keys : List KeyFacts) (now : ℕ) → Decides (list_any (λ key. is_preferred keys now key && list_any (takes_over now key) keys) keys) (IsFollowed keys now)
is_followed-tells keys now =
    list_any-tells (λ key. is_preferred keys now key && list_any (takes_over now key) keys) (λ key. IsPreferred keys now key × Any (TakesOver now key) keys)
    (λ key. Decides-and (is_preferred keys now key) (list_any (takes_over now key) keys) (is_preferred-tells keys now key) (list_any-tells (takes_over now key) (TakesOver now key) (takes_over-tells now key) keys))
    keys

not_false : (b : Bool) → not b ≡ false → b ≡ true
not_false true h = refl
not_false false h = cc

pub renew_of-tells : (keys : List KeyFacts) (now : ℕ) → (renew_of keys now ≡ false) ↔ IsFollowed keys now
renew_of-tells keys now =
    let followed : Bool = list_any (λ key. is_preferred keys now key && list_any (takes_over now key) keys) keys in (
      λ kept. (is_followed-tells keys now).0 (not_false followed kept),
      λ fact. let holds = (is_followed-tells keys now).1 fact in rw holds refl,
    )

-- the fallback by the places that it is chosen from
chosen : (preferred newest oldest : Option ℕ) (place : ℕ) → cond (is_some preferred) None (option_or newest oldest) ≡ Some place → (preferred ≡ None) × ((newest ≡ Some place) ⊎ ((newest ≡ None) × (oldest ≡ Some place)))
chosen (Some p) newest oldest place found = cc
chosen None (Some n) oldest place found = (refl, inl found)
chosen None None oldest place found = (refl, inr (refl, found))

-- no newest key is there exactly where none is settled
newest_of-none : (keys : List KeyFacts) (now : ℕ) → newest_of keys now ≡ None → Any (IsSettled now) keys → ⊥
newest_of-none keys now none (k, key, within, there, settled) =
    let fails = position-no_maximum (is_settled now) is_newer IsStrictWeakOrder-is_newer keys none k key within in
    denied (is_settled now key) (is_settled-tells now key) (rw there at fails) settled

newest_of-unsettled : (keys : List KeyFacts) (now : ℕ) → (Any (IsSettled now) keys → ⊥) → newest_of keys now ≡ None
newest_of-unsettled keys now unsettled =
    position-no_fact (is_maximum (is_settled now) is_newer keys) (IsNewest keys now) (is_newest-tells keys now) keys
    (λ (k, key, within, there, newest). unsettled (k, key, within, there, newest.0))

pub fallback_of-tells : (keys : List KeyFacts) (now place : ℕ) → (fallback_of keys now ≡ Some place) ↔ IsFallback keys now place
fallback_of-tells keys now place = (
  λ found.
      let choice = chosen (preferred_of keys now) (newest_of keys now) (oldest_of keys) place found in (
        position-none_has (is_preferred keys now) (IsPreferred keys now) (is_preferred-tells keys now) keys choice.0,
        elim choice.1 [
          | inl newest ↦ inl (position-has (is_maximum (is_settled now) is_newer keys) (IsNewest keys now) (is_newest-tells keys now) keys place newest)
          | inr (none, oldest) ↦ inr (
            newest_of-none keys now none,
            position-has (is_maximum is_sound is_older keys) (IsOldest keys) (is_oldest-tells keys) keys place oldest,
          )
        ],
      ),
  λ fact.
      let none : preferred_of keys now ≡ None = position-no_fact (is_preferred keys now) (IsPreferred keys now) (is_preferred-tells keys now) keys fact.0 in
      elim fact.1 [
        | inl newest ↦
            let at_newest : newest_of keys now ≡ Some place = position-of (is_maximum (is_settled now) is_newer keys) (IsNewest keys now) (is_newest-tells keys now) keys place newest.0 newest.1 in
            rw (none, at_newest) refl
        | inr (unsettled, oldest) ↦
            let no_newest : newest_of keys now ≡ None = newest_of-unsettled keys now unsettled in
            let at_oldest : oldest_of keys ≡ Some place = position-of (is_maximum is_sound is_older keys) (IsOldest keys) (is_oldest-tells keys) keys place oldest.0 oldest.1 in
            rw (none, no_newest, at_oldest) refl
      ],
)

among : (preferred newest oldest : Option ℕ) (n : ℕ) → IfSome newest (λ place. place < n) → IfSome oldest (λ place. place < n) → IfSome (cond (is_some preferred) None (option_or newest oldest)) (λ place. place < n)
among (Some p) newest oldest n newest_in oldest_in = tt
among None (Some place) oldest n newest_in oldest_in = newest_in
among None None oldest n newest_in oldest_in = oldest_in

-- both are places of the list
pub preferred_of-within : (keys : List KeyFacts) (now : ℕ) → IfSome (preferred_of keys now) (λ place. place < length keys)
preferred_of-within keys now = position-within (is_preferred keys now) keys

pub fallback_of-within : (keys : List KeyFacts) (now : ℕ) → IfSome (fallback_of keys now) (λ place. place < length keys)
fallback_of-within keys now = among (preferred_of keys now) (newest_of keys now) (oldest_of keys) (length keys)
    (position-within (is_maximum (is_settled now) is_newer keys) keys)
    (position-within (is_maximum is_sound is_older keys) keys)
