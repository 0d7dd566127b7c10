-- What a ring answers by its keys and its policy is what its list and its moment give.
use Rattle.std.proofs.Common.{◌≡◌, ℕ, Bool, true, false, cond, eqb, ◌==◌, List, [], ◌∷◌, map, Option, Some, None, refl, ap, ◌∙◌}
use Rattle.std.specs.Prelude.{find}
use Rattle.std.specs.Option.{option_or, option_map}
use Rattle.default_key.specs.declared.policy.Policy.{Policy}
use Rattle.key_elements.specs.declared.element.Element.{Element}
use Rattle.key_elements.specs.declared.element.KeyRecord.{KeyRecord}
use Rattle.key_ring.specs.declared.keys.RingKey.{RingKey}
use Rattle.key_ring.specs.Keys.{keys_of, ring_key, ring_keys, records, is_usable}
use Rattle.key_ring.specs.Ring.{IsRing, chosen, preferred_key, fallback_key, default_key}
use Rattle.key_ring.specs.State.{State, has_id, state, lookup_of}

records-map : (es : List Element) (ks : List KeyRecord) → records (map (ring_key es) ks) ≡ ks
records-map es [] = refl
records-map es (k ∷ ks) = ap (λ (t : List KeyRecord). k ∷ t) (records-map es ks)

-- the records of a ring's keys
pub records-are : (es : List Element) (keys : List RingKey) → keys ≡ ring_keys es → records keys ≡ keys_of es
unfolding ring_keys
records-are es keys are = ap records are ∙ records-map es (keys_of es)

pub preferred-is : (es : List Element) (t : ℕ) (keys : List RingKey) (policy : Policy) → IsRing es t keys policy → chosen (records keys) policy.preferred ≡ preferred_key es t
unfolding preferred_key
preferred-is es t keys policy ring =
    ap (λ (k : List KeyRecord). chosen k policy.preferred) (records-are es keys ring.keys_are) ∙ ap (λ (p : Policy). chosen (keys_of es) p.preferred) ring.policy_is

pub fallback-is : (es : List Element) (t : ℕ) (keys : List RingKey) (policy : Policy) → IsRing es t keys policy → chosen (records keys) policy.fallback ≡ fallback_key es t
unfolding fallback_key
fallback-is es t keys policy ring =
    ap (λ (k : List KeyRecord). chosen k policy.fallback) (records-are es keys ring.keys_are) ∙ ap (λ (p : Policy). chosen (keys_of es) p.fallback) ring.policy_is

pub default-is : (es : List Element) (t : ℕ) (keys : List RingKey) (policy : Policy) → IsRing es t keys policy
    → option_or (chosen (records keys) policy.preferred) (chosen (records keys) policy.fallback) ≡ default_key es t
default-is es t keys policy ring = rw (preferred-is es t keys policy ring, fallback-is es t keys policy ring) refl

-- the key of an id among a ring's keys
find-map : (es : List Element) (id : ℕ) (ks : List KeyRecord)
    → find (λ (k : RingKey). k.key.id.0 == id) (map (ring_key es) ks) ≡ option_map (ring_key es) (find (λ (k : KeyRecord). k.id.0 == id) ks)
find-map es id [] = refl
find-map es id (k ∷ ks) =
    elim (eqb k.id.0 id) as (λ b. cond b (some_key (ring_key es k)) (find (λ (k : RingKey). k.key.id.0 == id) (map (ring_key es) ks))
    ≡ option_map (ring_key es) (cond b (some_record k) (find (λ (k : KeyRecord). k.id.0 == id) ks))) [
      | true ↦ refl
      | false ↦ find-map es id ks
    ]
  where
    some_key : RingKey → Option RingKey
    some_key k = Some k

    some_record : KeyRecord → Option KeyRecord
    some_record k = Some k

pub find-is : (es : List Element) (id : ℕ) (keys : List RingKey) → keys ≡ ring_keys es
    → find (λ (k : RingKey). k.key.id.0 == id) keys ≡ option_map (ring_key es) (find (λ (k : KeyRecord). k.id.0 == id) (keys_of es))
unfolding ring_keys
find-is es id keys are = ap (find (λ (k : RingKey). k.key.id.0 == id)) are ∙ find-map es id (keys_of es)

abbrev pub some : State → Option State
some s = Some s

abbrev pub none : Option State
none = None

-- no key of the id
pub missed-is : (es : List Element) (t id : ℕ) (keys : List RingKey) → keys ≡ ring_keys es → None ≡ find (λ (k : RingKey). k.key.id.0 == id) keys
    → none ≡ lookup_of es t id
missed-is es t id keys are missed = at (find (λ (k : KeyRecord). k.id.0 == id) (keys_of es)) (missed ∙ find-is es id keys are)
  where
    at : (o : Option KeyRecord) → None ≡ option_map (ring_key es) o → none ≡ option_map (state es t) o
    at None e = refl
    at (Some k) e = absurd cc

-- the state of a key that was found
pub found-is : (es : List Element) (t id : ℕ) (keys : List RingKey) (entry : RingKey) (usable is_default : Bool) (standard : Option KeyRecord)
    → keys ≡ ring_keys es → Some entry ≡ find (λ (k : RingKey). k.key.id.0 == id) keys → usable ≡ is_usable entry.key
    → standard ≡ default_key es t → is_default ≡ has_id entry.key.id.0 standard
    → some (record { key = entry.key; revoked = entry.revoked; usable = usable; is_default = is_default }) ≡ lookup_of es t id
found-is es t id keys entry usable is_default standard are found u s d =
    at (find (λ (k : KeyRecord). k.id.0 == id) (keys_of es)) (found ∙ find-is es id keys are)
  where
    told : (k : KeyRecord) → entry ≡ ring_key es k → some (record { key = entry.key; revoked = entry.revoked; usable = usable; is_default = is_default }) ≡ some (state es t k)
    told k is =
        let flag : is_default ≡ has_id k.id.0 (default_key es t) =
        d ∙ ap (has_id entry.key.id.0) s ∙ ap (λ (e : RingKey). has_id e.key.id.0 (default_key es t)) is in
        rw (u ∙ ap (λ (e : RingKey). is_usable e.key) is, flag, is) refl

    at : (o : Option KeyRecord) → Some entry ≡ option_map (ring_key es) o
        → some (record { key = entry.key; revoked = entry.revoked; usable = usable; is_default = is_default }) ≡ option_map (state es t) o
    at None e = absurd cc
    at (Some k) e = told k (cc e)
