-- At most one key is the best, since ids differ.
use Rattle.std.proofs.Common.{◌≡◌, ℕ, ◌+◌, ◌<◌, true, false, ◌&&◌, not, nat_le, List, Option, None, Some, length, get_or, position, sym, ◌∙◌, ap, subst, arith}
use Rattle.std.specs.List.{list_any}
use Rattle.std.proofs.lemmas.Bool.Decides.{nat_tests}
use Rattle.std.proofs.lemmas.List.{get_or_default}
use Rattle.default_key.specs.declared.key_facts.KeyFacts.{KeyFacts}
use Rattle.default_key.specs.declared.options.TheConstants.{PROPAGATION, SKEW}
use Rattle.default_key.specs.PolicyValues.{is_newer, is_sound, newest_of, is_active, is_ahead, is_best, is_maximum, is_preferred, is_valid, preferred_of, renew_of, takes_over}
use Rattle.default_key.specs.Policy.{HaveDistinctIds}
use Rattle.default_key.proofs.Maxima.{is_maximum-passes, is_maximum-unbeaten}
use Rattle.default_key.proofs.Places.{IsAlone, list_any-alone, list_any-no_first, position-dropped, position-kept, position-no_first, IsAlone-and}

-- of two keys of which neither is ahead the ids are the same
level : (a b : KeyFacts) → is_ahead a b ≡ false → is_ahead b a ≡ false → a.id.0 ≡ b.id.0
level a b not_a not_b = grind (arith, nat_tests)

apart : (keys : List KeyFacts) → HaveDistinctIds keys → (i j : ℕ) (d : KeyFacts) → i < length keys → j < length keys → (get_or keys i d).id.0 ≡ (get_or keys j d).id.0 → i ≡ j
apart keys ids i j d i_in j_in same = grind (arith, ids)

pub IsAlone-best : (keys : List KeyFacts) (now : ℕ) → HaveDistinctIds keys → IsAlone (is_best keys now) keys
IsAlone-best keys now ids = record {
  same = λ i j d e i_in j_in best_i best_j.
      let a = get_or keys i d in
      let b = get_or keys j e in
      let same_id : a.id.0 ≡ b.id.0 = level a b
      (is_maximum-unbeaten (is_active now) is_ahead keys b best_j i d i_in (is_maximum-passes (is_active now) is_ahead keys a best_i))
      (is_maximum-unbeaten (is_active now) is_ahead keys a best_i j e j_in (is_maximum-passes (is_active now) is_ahead keys b best_j)) in
      apart keys ids i j d i_in j_in (same_id ∙ ap (λ (key : KeyFacts). key.id.0) (get_or_default keys j e d j_in));
}

-- so at most one is preferred
pub IsAlone-preferred : (keys : List KeyFacts) (now : ℕ) → HaveDistinctIds keys → IsAlone (is_preferred keys now) keys
IsAlone-preferred keys now ids =
    IsAlone-and (is_best keys now) (is_valid now) keys (IsAlone-best keys now ids)

-- the best key, by the last moment of an activation
pub best_until : (keys : List KeyFacts) (now until : ℕ) (best : Option ℕ) → until ≡ now + SKEW → best ≡ position (is_maximum (λ key. nat_le key.activation until) is_ahead keys) keys → position (is_best keys now) keys ≡ best
best_until keys now until best same found =
    sym (subst (λ (last : ℕ). best ≡ position (is_maximum (λ key. nat_le key.activation last) is_ahead keys) keys) same found)

-- the best key is kept, or dropped with no other in its place
pub preferred_of-kept : (keys : List KeyFacts) (now place : ℕ) (d : KeyFacts) → position (is_best keys now) keys ≡ Some place → is_valid now (get_or keys place d) ≡ true → preferred_of keys now ≡ Some place
preferred_of-kept keys now place d best valid = position-kept (is_best keys now) (is_valid now) keys place d best valid

pub preferred_of-dropped : (keys : List KeyFacts) (now place : ℕ) (d : KeyFacts) → HaveDistinctIds keys → position (is_best keys now) keys ≡ Some place → is_valid now (get_or keys place d) ≡ false → preferred_of keys now ≡ None
preferred_of-dropped keys now place d ids best invalid =
    position-dropped (is_best keys now) (is_valid now) keys (IsAlone-best keys now ids) place d best invalid

pub preferred_of-no_best : (keys : List KeyFacts) (now : ℕ) → position (is_best keys now) keys ≡ None → preferred_of keys now ≡ None
preferred_of-no_best keys now none =
    position-no_first (is_best keys now) (is_valid now) keys none

-- whether a new key is due, by the preferred key
pub renew_of-preferred : (keys : List KeyFacts) (now place : ℕ) (d : KeyFacts) → HaveDistinctIds keys → preferred_of keys now ≡ Some place → not (list_any (takes_over now (get_or keys place d)) keys) ≡ renew_of keys now
renew_of-preferred keys now place d ids preferred =
    ap not (sym (list_any-alone (is_preferred keys now) (λ key. list_any (takes_over now key) keys) keys (IsAlone-preferred keys now ids) place d preferred))

pub renew_of-none : (keys : List KeyFacts) (now : ℕ) → preferred_of keys now ≡ None → true ≡ renew_of keys now
renew_of-none keys now none =
    ap not (sym (list_any-no_first (is_preferred keys now) (λ key. list_any (takes_over now key) keys) keys none))

-- the newest settled key, by the time that a key takes to reach every node
pub newest_after : (keys : List KeyFacts) (now propagation : ℕ) (newest : Option ℕ) → propagation ≡ PROPAGATION → newest ≡ position (is_maximum (λ key. is_sound key && nat_le (key.creation + propagation) now) is_newer keys) keys → newest_of keys now ≡ newest
newest_after keys now propagation newest same found =
    sym (subst (λ (span : ℕ). newest ≡ position (is_maximum (λ key. is_sound key && nat_le (key.creation + span) now) is_newer keys) keys) same found)
