-- The keys of a list of elements, and what the policy knows of them.
use Rattle.std.specs.Prelude.{ℕ, Bool, false, not, ◌&&◌, ◌==◌, nat_le, nat_lt, List, [], ◌∷◌, map, filter, Option, Some, None}
use Rattle.std.specs.List.{filter_map, list_any}
use Rattle.default_key.specs.declared.key_facts.KeyFacts.{KeyFacts}
use Rattle.key_elements.specs.declared.element.Element.{Element}
use Rattle.key_elements.specs.declared.element.Element.TheVariants.{Key, RevokeKey, RevokeBefore}
use Rattle.key_elements.specs.declared.element.KeyRecord.{KeyRecord}
use Rattle.key_ring.specs.declared.keys.RingKey.{RingKey}

-- the key of an element that is one
abbrev pub key_in : Element → Option KeyRecord
key_in (Key k) = Some k
key_in (RevokeKey id d reason) = None
key_in (RevokeBefore d reason) = None

-- the key records among the elements, in order
abbrev pub records_of : List Element → List KeyRecord
records_of es = filter_map key_in es

-- whether two records are of one key
abbrev pub same_key : KeyRecord → KeyRecord → Bool
same_key a b = a.id.0 == b.id.0

-- the first record of each key, in order
abbrev pub first_records : List KeyRecord → List KeyRecord
first_records [] = []
first_records (k ∷ ks) = k ∷ filter (λ j. not (same_key k j)) (first_records ks)

-- the last of the records, or this one where there is none
abbrev pub last_or : KeyRecord → List KeyRecord → KeyRecord
last_or k [] = k
last_or k (j ∷ js) = last_or j js

-- the last record of a key
abbrev pub last_record : List KeyRecord → KeyRecord → KeyRecord
last_record ks k = last_or k (filter (same_key k) ks)

-- the keys: for each id in order of first appearance, its last record
unfoldable pub keys_of : List Element → List KeyRecord
keys_of es = map (last_record (records_of es)) (first_records (records_of es))

-- whether the element revokes the id
abbrev pub names : ℕ → Element → Bool
names id (Key k) = false
names id (RevokeKey j d reason) = j.0 == id
names id (RevokeBefore d reason) = false

-- whether some element of the list revokes the id
abbrev pub is_named : List Element → ℕ → Bool
is_named es id = list_any (names id) es

-- whether the element revokes the key: by its id, or by a date strictly above its creation
abbrev pub revokes : KeyRecord → Element → Bool
revokes k (Key j) = false
revokes k (RevokeKey id d reason) = id.0 == k.id.0
revokes k (RevokeBefore d reason) = nat_lt k.creation d

-- whether some element of the list revokes the key
abbrev pub is_revoked : List Element → KeyRecord → Bool
is_revoked es k = list_any (revokes k) es

-- a key of a list, and whether it is revoked there
abbrev pub ring_key : List Element → KeyRecord → RingKey
ring_key es k = record { key = k; revoked = is_revoked es k }

-- the keys of a list, each with whether it is revoked
unfoldable pub ring_keys : List Element → List RingKey
ring_keys es = map (ring_key es) (keys_of es)

-- the records of keys
abbrev pub records : List RingKey → List KeyRecord
records keys = map (λ k. k.key) keys

-- whether the key's algorithm is known: its code is 1 to 9
abbrev pub is_usable : KeyRecord → Bool
is_usable k = nat_le 1 k.alg && nat_le k.alg 9

-- what the policy knows of a key
abbrev pub fact_of : RingKey → KeyFacts
fact_of k = record {
  id = k.key.id;
  creation = k.key.creation;
  activation = k.key.activation;
  expiration = k.key.expiration;
  usable = is_usable k.key;
  revoked = k.revoked;
}

-- what the policy knows of the keys of a list
unfoldable pub facts : List Element → List KeyFacts
facts es = map fact_of (ring_keys es)
