-- The default key of a ring: it is a key of the ring, usable and unrevoked; and where there is none, no
-- key is usable and unrevoked.
use Rattle.std.proofs.Common.{◌≡◌, ◌⊎◌, ℕ, zero, suc, ◌<◌, Bool, true, false, not, ◌==◌, ◌&&◌, List, [], ◌∷◌, length, map, get_or, Option, Some, None, refl, sym, ap, ◌∙◌, arith, inl, inr}
use Rattle.std.specs.Prelude.{find, position, is_some, slice_get, if◌then◌else◌}
use Rattle.std.specs.Option.{option_or, option_map}
use Rattle.std.proofs.lemmas.List.{length-map}
use Rattle.std.proofs.lemmas.Option.{slice_get-map}
use Rattle.std.proofs.lemmas.Bool.Decides.{nat_tests}
use Rattle.dp_base.specs.declared.key_id.KeyId.{KeyId}
use Rattle.default_key.specs.declared.key_facts.KeyFacts.{KeyFacts}
use Rattle.default_key.specs.PolicyValues.{is_maximum, is_newer, is_older, is_preferred, is_settled, is_sound, preferred_of, newest_of, oldest_of, fallback_of}
use Rattle.default_key.specs.OrderLaws.{IsStrictWeakOrder-is_older}
use Rattle.default_key.proofs.Exists.{position-no_maximum}
use Rattle.default_key.proofs.Firsts.{position-has}
use Rattle.default_key.proofs.Maxima.{is_maximum-passes}
use Rattle.default_key.proofs.Places.{and_left, position-within}
use Rattle.key_elements.specs.declared.element.Element.{Element}
use Rattle.key_elements.specs.declared.element.KeyRecord.{KeyRecord}
use Rattle.key_ring.specs.Keys.{keys_of, ring_key, ring_keys, fact_of, facts, is_revoked, is_usable}
use Rattle.key_ring.specs.Ring.{chosen, default_key, fallback_key, policy_at, preferred_key}
use Rattle.key_ring.specs.declared.ring.KeyState.{KeyState}
use Rattle.key_ring.specs.State.{State, lookup_of, key_state, state}
use Rattle.key_ring.proofs.KeysOf.{HaveIds, keys_of-ids}
use Rattle.dp_protector.specs.Algorithms.{alg_of}
use Rattle.dp_protector.proofs.Codes.{alg_of-code}

-- ---- a key is found by its id

later_ids : (k : KeyRecord) (ks : List KeyRecord) → HaveIds (k ∷ ks) → HaveIds ks
later_ids k ks differ = λ i j d lt within same. differ (suc i) (suc j) d (omega arith) (omega arith) same

slice_get-is : (ks : List KeyRecord) (i : ℕ) (k d : KeyRecord) → slice_get ks i ≡ Some k → (i < length ks) × (get_or ks i d ≡ k)
slice_get-is [] i k d e = absurd cc
slice_get-is (x ∷ ks) zero k d e = (omega arith, cc)
slice_get-is (x ∷ ks) (suc i) k d e = let rest = slice_get-is ks i k d e in (omega arith, rest.1)

find-at : (ks : List KeyRecord) (i : ℕ) (k : KeyRecord) → HaveIds ks → slice_get ks i ≡ Some k → find (λ j. j.id.0 == k.id.0) ks ≡ Some k
find-at [] i k differ e = absurd cc
find-at (x ∷ ks) zero k differ e =
    let same : x ≡ k = cc in
    let here : (x.id.0 == k.id.0) ≡ true = rw same (eqb_same k.id.0) in
    rw here e
  where
    eqb_same : (n : ℕ) → (n == n) ≡ true
    eqb_same n = grind (arith, nat_tests)
find-at (x ∷ ks) (suc i) k differ e =
    let at_i = slice_get-is ks i k k e in
    let apart : x.id.0 ≡ k.id.0 → ⊥ = λ same. differ 0 (suc i) k (omega arith) (omega arith) (same ∙ ap (λ (j : KeyRecord). j.id.0) (sym at_i.1)) in
    let passed : (x.id.0 == k.id.0) ≡ false = grind (arith, nat_tests) in
    rw passed (find-at ks i k (later_ids x ks differ) e)

-- ---- the facts of the keys

abbrev facts_of : List Element → KeyRecord → KeyFacts
facts_of es k = fact_of (ring_key es k)

facts_of-map : (es : List Element) (ks : List KeyRecord) → map fact_of (map (ring_key es) ks) ≡ map (facts_of es) ks
facts_of-map es [] = refl
facts_of-map es (k ∷ ks) = ap (λ (t : List KeyFacts). facts_of es k ∷ t) (facts_of-map es ks)

facts-are : (es : List Element) → facts es ≡ map (facts_of es) (keys_of es)
unfolding facts ring_keys
facts-are es = facts_of-map es (keys_of es)

facts-at : (es : List Element) (i : ℕ) (k : KeyRecord) → slice_get (keys_of es) i ≡ Some k → slice_get (facts es) i ≡ Some (facts_of es k)
facts-at es i k e = rw (facts-are es) (slice_get-map (facts_of es) (keys_of es) i ∙ ap (option_map (facts_of es)) e)

-- the key at the first place that passes
passes-at : (es : List Element) (p : KeyFacts → Bool) (i : ℕ) (k : KeyRecord) → position p (facts es) ≡ Some i → slice_get (keys_of es) i ≡ Some k → p (facts_of es k) ≡ true
passes-at es p i k found e =
    let has = position-has p (λ (f : KeyFacts). p f ≡ true) (λ x. (λ h. h, λ h. h)) (facts es) i found in
    rw (facts-at es i k e) at has.0

-- ---- the default key

pub record IsSoundKey (es : List Element) (k : KeyRecord) : Type 0 where
  pub held : find (λ j. j.id.0 == k.id.0) (keys_of es) ≡ Some k
  pub usable : is_usable k ≡ true
  pub unrevoked : is_revoked es k ≡ false

not_true : (b : Bool) → not b ≡ true → b ≡ false
not_true true e = absurd cc
not_true false e = refl

and_right : (a b : Bool) → (a && b) ≡ true → b ≡ true
and_right true b e = e
and_right false b e = absurd cc

sound_key : (es : List Element) (i : ℕ) (k : KeyRecord) → slice_get (keys_of es) i ≡ Some k → is_sound (facts_of es k) ≡ true → IsSoundKey es k
sound_key es i k e sound = record {
  held = find-at (keys_of es) i k (keys_of-ids es) e;
  usable = and_left (is_usable k) (not (is_revoked es k)) sound;
  unrevoked = not_true (is_revoked es k) (and_right (is_usable k) (not (is_revoked es k)) sound);
}

-- a key that is chosen by a test that asks for a sound one
chosen-sound : (es : List Element) (p : KeyFacts → Bool) (place : Option ℕ) (k : KeyRecord) → ((f : KeyFacts) → p f ≡ true → is_sound f ≡ true)
    → place ≡ position p (facts es) → chosen (keys_of es) place ≡ Some k → IsSoundKey es k
chosen-sound es p None k asks is e = absurd cc
chosen-sound es p (Some i) k asks is e = sound_key es i k e (asks (facts_of es k) (passes-at es p i k (sym is) e))

preferred_asks : (keys : List KeyFacts) (t : ℕ) (f : KeyFacts) → is_preferred keys t f ≡ true → is_sound f ≡ true
preferred_asks keys t f e = and_left (is_sound f) _ (and_right _ _ e)

settled_asks : (keys : List KeyFacts) (t : ℕ) (f : KeyFacts) → is_maximum (is_settled t) is_newer keys f ≡ true → is_sound f ≡ true
settled_asks keys t f e = and_left (is_sound f) _ (is_maximum-passes (is_settled t) is_newer keys f e)

oldest_asks : (keys : List KeyFacts) (f : KeyFacts) → is_maximum is_sound is_older keys f ≡ true → is_sound f ≡ true
oldest_asks keys f e = is_maximum-passes is_sound is_older keys f e

-- a key of the places that a fallback has
fallback-cases : (keys : List KeyRecord) (preferred newest oldest : Option ℕ) (k : KeyRecord) →
    chosen keys (if is_some preferred then None else option_or newest oldest) ≡ Some k → (chosen keys newest ≡ Some k) ⊎ (chosen keys oldest ≡ Some k)
fallback-cases keys (Some i) newest oldest k e = absurd cc
fallback-cases keys None (Some i) oldest k e = inl e
fallback-cases keys None None oldest k e = inr e

default-cases : (preferred fallback : Option KeyRecord) (k : KeyRecord) → option_or preferred fallback ≡ Some k → (preferred ≡ Some k) ⊎ (fallback ≡ Some k)
default-cases (Some j) fallback k e = inl e
default-cases None fallback k e = inr e

pub default_key-sound : (es : List Element) (t : ℕ) (k : KeyRecord) → default_key es t ≡ Some k → IsSoundKey es k
unfolding preferred_key fallback_key policy_at
default_key-sound es t k e = elim (default-cases (preferred_key es t) (fallback_key es t) k e) [
  | inl preferred ↦ chosen-sound es (is_preferred (facts es) t) (preferred_of (facts es) t) k (preferred_asks (facts es) t) refl preferred
  | inr fallback ↦ elim (fallback-cases (keys_of es) (preferred_of (facts es) t) (newest_of (facts es) t) (oldest_of (facts es)) k fallback) [
    | inl newest ↦ chosen-sound es (is_maximum (is_settled t) is_newer (facts es)) (newest_of (facts es) t) k (settled_asks (facts es) t) refl newest
    | inr oldest ↦ chosen-sound es (is_maximum is_sound is_older (facts es)) (oldest_of (facts es)) k (oldest_asks (facts es)) refl oldest
  ]
]

-- ---- where there is none

two_none : {X : Type 0} (a b : Option X) → option_or a b ≡ None → (a ≡ None) × (b ≡ None)
two_none (Some x) b e = absurd cc
two_none None b e = (refl, e)

slice_get-there : (ks : List KeyRecord) (i : ℕ) → i < length ks → slice_get ks i ≡ None → ⊥
slice_get-there [] i lt e = absurd (omega arith)
slice_get-there (x ∷ ks) zero lt e = absurd cc
slice_get-there (x ∷ ks) (suc i) lt e = slice_get-there ks i (omega arith) e

length-facts : (es : List Element) → length (facts es) ≡ length (keys_of es)
length-facts es = rw (facts-are es) (simp length-map)

no_place : (es : List Element) (p : KeyFacts → Bool) (place : Option ℕ) → place ≡ position p (facts es) → chosen (keys_of es) place ≡ None → place ≡ None
no_place es p None is e = refl
no_place es p (Some i) is e =
    let within : i < length (facts es) = rw (sym is) at (position-within p (facts es)) in
    absurd (slice_get-there (keys_of es) i (omega (arith, length-facts es)) e)

no_fallback : (preferred newest oldest : Option ℕ) → preferred ≡ None → (if is_some preferred then None else option_or newest oldest) ≡ None → oldest ≡ None
no_fallback None None oldest p e = e
no_fallback None (Some i) oldest p e = absurd cc
no_fallback (Some i) newest oldest p e = absurd cc

-- the place of a fallback is one of a key
fallback_parts : (es : List Element) (t : ℕ) (preferred newest oldest : Option ℕ) → preferred ≡ None
    → newest ≡ position (is_maximum (is_settled t) is_newer (facts es)) (facts es) → oldest ≡ position (is_maximum is_sound is_older (facts es)) (facts es)
    → chosen (keys_of es) (if is_some preferred then None else option_or newest oldest) ≡ None → (if is_some preferred then None else option_or newest oldest) ≡ None
fallback_parts es t (Some i) newest oldest p n o e = refl
fallback_parts es t None (Some i) oldest p n o e = no_place es (is_maximum (is_settled t) is_newer (facts es)) (Some i) n e
fallback_parts es t None None oldest p n o e = no_place es (is_maximum is_sound is_older (facts es)) oldest o e

fallback_within : (es : List Element) (t : ℕ) → chosen (keys_of es) (fallback_of (facts es) t) ≡ None → preferred_of (facts es) t ≡ None → fallback_of (facts es) t ≡ None
fallback_within es t e none = fallback_parts es t (preferred_of (facts es) t) (newest_of (facts es) t) (oldest_of (facts es)) none refl refl e

facts_place : (fs : List KeyFacts) (i : ℕ) (f : KeyFacts) → slice_get fs i ≡ Some f → (i < length fs) × (get_or fs i f ≡ f)
facts_place [] i f e = absurd cc
facts_place (x ∷ fs) zero f e = (omega arith, cc)
facts_place (x ∷ fs) (suc i) f e = let rest = facts_place fs i f e in (omega arith, cc (rest.1))

pub default_key-none : (es : List Element) (t : ℕ) → default_key es t ≡ None → (i : ℕ) (k : KeyRecord) → slice_get (keys_of es) i ≡ Some k → is_sound (facts_of es k) ≡ false
unfolding preferred_key fallback_key policy_at
default_key-none es t e i k there =
    let both = two_none (preferred_key es t) (fallback_key es t) e in
    let preferred = no_place es (is_preferred (facts es) t) (preferred_of (facts es) t) refl both.0 in
    let fallback = fallback_within es t both.1 preferred in
    let oldest = no_fallback (preferred_of (facts es) t) (newest_of (facts es) t) (oldest_of (facts es)) preferred fallback in
    let at_k = facts-at es i k there in
    let place = facts_place (facts es) i (facts_of es k) at_k in
    rw place.1 at (position-no_maximum is_sound is_older IsStrictWeakOrder-is_older (facts es) oldest i (facts_of es k) place.0)

-- ---- the look-up of the default key

pub record IsFound (es : List Element) (t : ℕ) (found : Option State) : Type 0 where
  pub key : KeyRecord
  pub is : default_key es t ≡ Some key
  pub state_is : found ≡ Some (state es t key)

pub default_key-found : (es : List Element) (t : ℕ) (id : KeyId) (found : Option State) → Some id ≡ option_map (λ k. k.id) (default_key es t)
    → found ≡ lookup_of es t id.0 → IsFound es t found
default_key-found es t id found is looked = at (default_key es t) refl is
  where
    at : (o : Option KeyRecord) → default_key es t ≡ o → Some id ≡ option_map (λ k. k.id) o → IsFound es t found
    at None e same = absurd cc
    at (Some k) e same =
        let id_is : id ≡ k.id = cc in
        let held = (default_key-sound es t k e).held in
        record {
          key = k;
          is = e;
          state_is = looked ∙ ap (λ (j : KeyId). lookup_of es t j.0) id_is ∙ ap (option_map (state es t)) held;
        }

-- the default key is looked up
pub default_key-none_found : (es : List Element) (t : ℕ) (id : KeyId) → Some id ≡ option_map (λ k. k.id) (default_key es t) → None ≡ lookup_of es t id.0 → ⊥
default_key-none_found es t id is none =
    let found = default_key-found es t id None is none in
    not_some found.state_is
  where
    not_some : {X : Type 0} {x : X} → None ≡ Some x → ⊥
    not_some e = absurd cc

pub default_key-some_found : (es : List Element) (t : ℕ) (id : KeyId) (s : KeyState) → Some id ≡ option_map (λ k. k.id) (default_key es t)
    → Some (key_state s) ≡ lookup_of es t id.0 → Some s.key.now ≡ default_key es t
default_key-some_found es t id s is looked =
    let found = default_key-found es t id (Some (key_state s)) is looked in
    ap (option_map (λ (state : State). state.key)) found.state_is ∙ sym found.is

pub default_key-alg : (es : List Element) (t : ℕ) (k : KeyRecord) → default_key es t ≡ Some k → alg_of k.alg ≡ None → ⊥
default_key-alg es t k e none =
    let usable = (default_key-sound es t k e).usable in
    alg_of-code k.alg (grind (arith, nat_tests), grind (arith, nat_tests)) none
