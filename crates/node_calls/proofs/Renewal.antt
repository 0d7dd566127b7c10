-- A key that is due is activated before it expires: a preferred key that is to be followed soon
-- expires within the span of propagation.
use Rattle.std.proofs.Common.{◌≡◌, ℕ, ◌+◌, ◌<◌, ◌≤◌, Bool, true, false, not, ◌&&◌, ◌==◌, nat_le, nat_lt, List, [], ◌∷◌, map, refl, sym, ap, ◌∙◌, Option, Some, None, subst, zero, suc, inl, inr, ◌*◌, arith, eq-eqb}
use Rattle.std.specs.Prelude.{find, option_map, slice_get, IsSomeAnd}
use Rattle.std.specs.List.{list_any}
use Rattle.std.proofs.lemmas.Bool.Decides.{nat_tests}
use Rattle.std.proofs.lemmas.Option.{get_or_from_slice_get, slice_get_within}
use Rattle.std.proofs.lemmas.Map.Keys.{any_passes_from_place}
use Rattle.dp_base.specs.declared.key_id.KeyId.{KeyId}
use Rattle.default_key.specs.declared.key_facts.KeyFacts.{KeyFacts}
use Rattle.default_key.specs.declared.options.TheConstants.{PROPAGATION, SKEW}
use Rattle.default_key.specs.PolicyValues.{preferred_of, is_preferred, is_best, is_active, is_valid, is_sound, takes_over, renew_of}
use Rattle.default_key.proofs.Firsts.{position-has}
use Rattle.dp_base.specs.declared.ticks.TheConstants.{LAST, TICKS_PER_DAY}
use Rattle.repo_keeper.specs.Made.{AreBadDates}
use Rattle.key_elements.specs.declared.element.Element.{Element}
use Rattle.key_elements.specs.declared.element.KeyRecord.{KeyRecord}
use Rattle.key_ring.specs.declared.keys.RingKey.{RingKey}
use Rattle.key_ring.specs.Keys.{keys_of, ring_key, ring_keys, fact_of, facts}
use Rattle.key_ring.specs.Ring.{policy_at, preferred_key, chosen}
use Rattle.key_ring.specs.State.{State, state, lookup_of}
use Rattle.key_ring.proofs.KeysOf.{HaveIds, keys_of-ids}
use Rattle.ring_world.specs.Flight.{Terms, activation_of, makes_key}

slice_get-map : {X Y : Type 0} (f : X → Y) (xs : List X) (i : ℕ) (x : X) → slice_get xs i ≡ Some x → slice_get (map f xs) i ≡ Some (f x)
slice_get-map f [] i x e = cc
slice_get-map f (y ∷ xs) zero x e = ap (option_map f) e
slice_get-map f (y ∷ xs) (suc i) x e = slice_get-map f xs i x e

some_and : {X : Type 0} (P : X → Type 0) (o : Option X) (x : X) → IsSomeAnd o P → o ≡ Some x → P x
some_and P None x h e = cc
some_and P (Some y) x h e = subst P (cc e) h

and_left : (a b : Bool) → (a && b) ≡ true → a ≡ true
and_left true b h = refl
and_left false b h = cc

and_right : (a b : Bool) → (a && b) ≡ true → b ≡ true
and_right true b h = h
and_right false b h = cc

and_both : (a b : Bool) → a ≡ true → b ≡ true → (a && b) ≡ true
and_both a b p q = cc

le_of : (m n : ℕ) → nat_le m n ≡ true → m ≤ n
le_of m n h = grind (arith, nat_tests)

gt_of : (m n : ℕ) → nat_le m n ≡ false → n < m
gt_of m n h = grind (arith, nat_tests)

lt_of : (m n : ℕ) → nat_lt m n ≡ true → m < n
lt_of m n h = grind (arith, nat_tests)

is_le : (m n : ℕ) → m ≤ n → nat_le m n ≡ true
is_le m n h = grind (arith, nat_tests)

is_lt : (m n : ℕ) → m < n → nat_lt m n ≡ true
is_lt m n h = grind (arith, nat_tests)

-- a preferred key that would live on takes over from itself
takes_over-itself : (keys : List KeyFacts) (t : ℕ) (f : KeyFacts) → is_preferred keys t f ≡ true → t + PROPAGATION < f.expiration → takes_over t f f ≡ true
takes_over-itself keys t f p l =
    let best = and_left (is_best keys t f) (is_valid t f) p in
    let valid = and_right (is_best keys t f) (is_valid t f) p in
    let active : f.activation ≤ t + SKEW = le_of f.activation (t + SKEW) (and_left (is_active t f) _ best) in
    let sound = and_left (is_sound f) (nat_lt t f.expiration) valid in
    let unrevoked = and_right f.usable (not f.revoked) sound in
    and_both (not f.revoked && nat_le f.activation (f.expiration + SKEW)) _ (and_both (not f.revoked) _ unrevoked (is_le f.activation (f.expiration + SKEW) (omega (arith, active, l)))) (is_lt (t + PROPAGATION) f.expiration l)

expires_by : (keys : List KeyFacts) (t i : ℕ) (f : KeyFacts) (soon : Bool) → nat_le f.expiration (t + PROPAGATION) ≡ soon → slice_get keys i ≡ Some f → is_preferred keys t f ≡ true → renew_of keys t ≡ true → f.expiration ≤ t + PROPAGATION
expires_by keys t i f true e at p r = le_of f.expiration (t + PROPAGATION) e
expires_by keys t i f false e at p r =
    let own = takes_over-itself keys t f p (gt_of f.expiration (t + PROPAGATION) e) in
    let inner = any_passes_from_place (takes_over t f) keys i f at own in
    let outer = any_passes_from_place (λ (key : KeyFacts). is_preferred keys t key && list_any (takes_over t key) keys) keys i f at (and_both (is_preferred keys t f) _ p inner) in
    absurd (cc (ap not outer, r))

preferred_at : (es : List Element) (t : ℕ) (k : KeyRecord) (o : Option ℕ) → preferred_of (facts es) t ≡ o → chosen (keys_of es) o ≡ Some k → renew_of (facts es) t ≡ true → k.expiration ≤ t + PROPAGATION
unfolding facts ring_keys
preferred_at es t k None e at r = absurd (cc at)
preferred_at es t k (Some i) e at r =
    let held = map (ring_key es) (keys_of es) in
    let keys = map fact_of held in
    let own : RingKey = ring_key es k in
    let there : slice_get keys i ≡ Some (fact_of own) = slice_get-map fact_of held i own (slice_get-map (ring_key es) (keys_of es) i k at) in
    let first = position-has (is_preferred keys t) (λ (x : KeyFacts). is_preferred keys t x ≡ true) (λ x. (λ h. h, λ h. h)) keys i e in
    let preferred = some_and (λ (x : KeyFacts). is_preferred keys t x ≡ true) (slice_get keys i) (fact_of own) first.0 there in
    expires_by keys t i (fact_of own) (nat_le k.expiration (t + PROPAGATION)) refl there preferred r

activation_by : (es : List Element) (t : ℕ) (o : Option KeyRecord) → preferred_key es t ≡ o → (policy_at es t).renew ≡ true → activation_of t o ≤ t + PROPAGATION
unfolding preferred_key policy_at
activation_by es t None e r = omega arith
activation_by es t (Some k) e r = preferred_at es t k (preferred_of (facts es) t) refl e r

-- a new key is activated within the span of propagation
activation-soon : (es : List Element) (t : ℕ) → (policy_at es t).renew ≡ true → activation_of t (preferred_key es t) ≤ t + PROPAGATION
activation-soon es t r = activation_by es t (preferred_key es t) refl r

same_of : (a b : ℕ) → (a == b) ≡ true → a ≡ b
same_of a b h = grind (arith, nat_tests)

other : (a b : ℕ) (same : Bool) → (a == b) ≡ same → (a ≡ b → ⊥) → (a == b) ≡ false
other a b true e h = absurd (h (same_of a b e))
other a b false e h = e

find_own : (ks : List KeyRecord) → HaveIds ks → (i : ℕ) (k : KeyRecord) → slice_get ks i ≡ Some k → find (λ j. j.id.0 == k.id.0) ks ≡ Some k
find_own [] ids i k e = cc
find_own (x ∷ ks) ids zero k e =
    let same : x ≡ k = cc e in
    rw (eq-eqb x.id.0 k.id.0 (ap (λ (j : KeyRecord). j.id.0) same)) e
find_own (x ∷ ks) ids (suc i) k e =
    let within = slice_get_within ks i k e in
    let apart : x.id.0 ≡ k.id.0 → ⊥ = λ s. ids 0 (suc i) k (omega arith) (omega (arith, within)) (s ∙ ap (λ (j : KeyRecord). j.id.0) (sym (get_or_from_slice_get ks i k k e))) in
    rw (other x.id.0 k.id.0 _ refl apart) (find_own ks (λ a b d lt w. ids (suc a) (suc b) d (omega (arith, lt)) (omega (arith, w))) i k e)

find_chosen : (es : List Element) (k : KeyRecord) (o : Option ℕ) → chosen (keys_of es) o ≡ Some k → find (λ j. j.id.0 == k.id.0) (keys_of es) ≡ Some k
find_chosen es k None e = absurd (cc e)
find_chosen es k (Some i) e = find_own (keys_of es) (keys_of-ids es) i k e

lookup_chosen : (es : List Element) (t : ℕ) (k : KeyRecord) → preferred_key es t ≡ Some k → lookup_of es t k.id.0 ≡ Some (state es t k)
unfolding preferred_key
lookup_chosen es t k e = ap (option_map (state es t)) (find_chosen es k (policy_at es t).preferred e)

abbrev id_of : KeyRecord → KeyId
id_of k = k.id

looked_up : (es : List Element) (t : ℕ) (o : Option KeyRecord) (id : KeyId) (found : Option State) → preferred_key es t ≡ o → Some id ≡ option_map id_of o → found ≡ lookup_of es t id.0 → (k : KeyRecord) × (o ≡ Some k) × (found ≡ Some (state es t k))
looked_up es t None id found e i f = absurd (cc i)
looked_up es t (Some k) id found e i f =
    let same : id ≡ k.id = cc i in
    (k, refl, f ∙ ap (λ (j : KeyId). lookup_of es t j.0) same ∙ lookup_chosen es t k e)

-- the preferred key is found by its id
pub activation-found : (es : List Element) (t : ℕ) (id : KeyId) (s : State) → Some id ≡ option_map id_of (preferred_key es t) → Some s ≡ lookup_of es t id.0 → s.key.expiration ≡ activation_of t (preferred_key es t)
activation-found es t id s i f =
    let k = looked_up es t (preferred_key es t) id (Some s) refl i f in
    let same : s ≡ state es t k.0 = cc (k.2) in
    ap (λ (x : State). x.key.expiration) same ∙ ap (activation_of t) (sym k.1)

pub activation-lost : (es : List Element) (t : ℕ) (id : KeyId) → Some id ≡ option_map id_of (preferred_key es t) → None ≡ lookup_of es t id.0 → ⊥
activation-lost es t id i f =
    let k = looked_up es t (preferred_key es t) id None refl i f in
    cc (k.2)

-- a key that is made is due
renews : (auto renew room : Bool) → (auto && renew && room) ≡ true → renew ≡ true
renews true true room h = refl
renews true false room h = cc
renews false renew room h = cc

dates_good : (now activation lifetime : ℕ) → activation ≤ now + PROPAGATION → 7 * TICKS_PER_DAY ≤ lifetime → lifetime ≤ 3650 * TICKS_PER_DAY → now ≤ LAST → AreBadDates now activation (now + lifetime) → ⊥
dates_good now activation lifetime a l m n (inl b) = absurd (omega arith)
dates_good now activation lifetime a l m n (inr (inl b)) = absurd (omega arith)
dates_good now activation lifetime a l m n (inr (inr b)) = absurd (omega arith)

-- the dates of a key that a flight makes aren't bad: a lifetime has a week, and a clock stops ten years
-- before the greatest date
pub made-good : (t : Terms) (es : List Element) (activation : ℕ) → makes_key t es ≡ true → activation ≡ activation_of t.now (preferred_key es t.now) → t.now ≤ LAST → AreBadDates t.now activation (t.now + t.options.lifetime) → ⊥
made-good t es activation makes is late =
    let o = t.options in
    dates_good t.now activation o.lifetime (subst (λ n. n ≤ t.now + PROPAGATION) (sym is) (activation-soon es t.now (renews o.auto _ _ makes))) o.at_least_a_week o.at_most_ten_years late
