-- No listing has as many bytes as its limit.
use Rattle.std.proofs.Common.{Some, None, ◌≡◌, ℕ, ◌+◌, ◌*◌, ◌^◌, ◌<◌, ◌≤◌, Bool, true, false, not, cond, leb, ltb, fold, codes, List, [], ◌∷◌, ◌++◌, map, filter, length, subst, sym, arith}
use Rattle.std.specs.Prelude.{Option, IfSome}
use Rattle.std.specs.List.{AllByRecursion, concat, flat_map}
use Rattle.std.specs.Fmt.{decimal}
use Rattle.std.proofs.lemmas.Fmt.{length-decimal-le}
use Rattle.std.proofs.lemmas.List.{length-append}
use Rattle.uuid.proofs.TextLemmas.{by_index_length}
use Rattle.dp_base.specs.declared.ticks.TheConstants.{MAX_TICKS}
use Rattle.dp_base.specs.Guid.{key_text}
use Rattle.default_key.specs.declared.policy.Policy.{Policy}
use Rattle.key_elements.specs.declared.element.Element.{Element}
use Rattle.key_elements.specs.declared.element.Element.TheVariants.{Key, RevokeKey, RevokeBefore}
use Rattle.key_elements.specs.declared.element.KeyRecord.{KeyRecord}
use Rattle.key_elements.specs.Record.{AreListed, IsElement, IsKey}
use Rattle.key_ring.specs.declared.keys.RingKey.{RingKey}
use Rattle.key_ring.specs.declared.listing.TheConstants.{LISTING_LIMIT}
use Rattle.key_ring.specs.Keys.{records_of, records, same_key, keys_of, ring_key, ring_keys, is_usable}
use Rattle.key_ring.specs.Listing.{head_line, later, with_mass_date, mass_date, mass_line, state_of, dates_text, key_line, chosen_line, default_line, renew_line, lines}
use Rattle.key_ring.specs.Ring.{chosen}
use Rattle.key_ring.proofs.Snoc.{keys_on}
use Rattle.key_ring.proofs.KeysOf.{keys_of-on, keys_of-each}

length-key_text : (id : ℕ) → length (key_text id) ≡ 36
unfolding key_text
length-key_text id = by_index_length 36 _

-- a date has at most 19 digits
length-date-le : (n : ℕ) → n ≤ MAX_TICKS → length (decimal n) ≤ 19
length-date-le n le = length-decimal-le 19 n (omega arith) (omega arith) (omega arith)

length-state_of-le : (t : ℕ) (revoked : Bool) (k : KeyRecord) → length (state_of t revoked k) ≤ 8
unfolding state_of
length-state_of-le t true k = omega arith
length-state_of-le t false k =
    elim (not (is_usable k)) as (λ b. length (cond b (codes "unusable") (cond (leb k.expiration t) (codes "expired") (cond (ltb t k.activation) (codes "pending") (codes "active")))) ≤ 8) [
      | true ↦ omega arith
      | false ↦ elim (leb k.expiration t) as (λ b. length (cond b (codes "expired") (cond (ltb t k.activation) (codes "pending") (codes "active"))) ≤ 8) [
        | true ↦ omega arith
        | false ↦ elim (ltb t k.activation) as (λ b. length (cond b (codes "pending") (codes "active")) ≤ 8) [
          | true ↦ omega arith
          | false ↦ omega arith
        ]
      ]
    ]

length-dates_text-le : (k : KeyRecord) → IsKey k → length (dates_text k) ≤ 93
unfolding dates_text
length-dates_text-le k is =
    let c = decimal k.creation in
    let a = decimal k.activation in
    let e = decimal k.expiration in
    let alg = decimal k.alg in
    omega (
      arith,
      length-append c (concat (codes " activates " ∷ a ∷ codes " expires " ∷ e ∷ codes " alg " ∷ alg ∷ [])),
      length-append a (concat (codes " expires " ∷ e ∷ codes " alg " ∷ alg ∷ [])),
      length-append e (concat (codes " alg " ∷ alg ∷ [])),
      length-append alg [],
      length-date-le k.creation is.creation,
      length-date-le k.activation is.activation,
      length-date-le k.expiration is.expiration,
      length-decimal-le 3 k.alg (omega arith) (omega (arith, is.alg)) (omega (arith, is.alg)),
    )

length-key_line-le : (t : ℕ) (revoked : Bool) (k : KeyRecord) → IsKey k → length (key_line t revoked k) ≤ 144
unfolding key_line
length-key_line-le t revoked k is =
    let id = key_text k.id.0 in
    let dates = dates_text k in
    let state = state_of t revoked k in
    omega (
      arith,
      length-append id (concat (codes " " ∷ dates ∷ codes " " ∷ state ∷ (10 ∷ []) ∷ [])),
      length-append dates (concat (codes " " ∷ state ∷ (10 ∷ []) ∷ [])),
      length-append state (10 ∷ []),
      length-key_text k.id.0,
      length-dates_text-le k is,
      length-state_of-le t revoked k,
    )

-- a line for each key
length-key_lines-le : (es : List Element) (t : ℕ) (ks : List KeyRecord) → AllByRecursion IsKey ks
    → length (flat_map (λ k. key_line t k.revoked k.key) (map (ring_key es) ks)) ≤ 144 * length ks
length-key_lines-le es t [] all = omega arith
length-key_lines-le es t (k ∷ ks) all =
    let line = key_line t (ring_key es k).revoked k in
    let rest = flat_map (λ j. key_line t j.revoked j.key) (map (ring_key es) ks) in
    omega (arith, length-append line rest, length-key_line-le t (ring_key es k).revoked k all.0, length-key_lines-le es t ks all.1)

length-filter-le : (test : KeyRecord → Bool) (ks : List KeyRecord) → length (filter test ks) ≤ length ks
length-filter-le test [] = omega arith
length-filter-le test (k ∷ ks) =
    let rest = length-filter-le test ks in
    elim (test k) as (λ b. length (cond b (k ∷ filter test ks) (filter test ks)) ≤ length (k ∷ ks)) [
      | true ↦ omega (arith, rest)
      | false ↦ omega (arith, rest)
    ]

length-keys_on-le : (ks : List KeyRecord) → length (keys_on ks) ≤ length ks
length-keys_on-le [] = omega arith
length-keys_on-le (k ∷ ks) =
    omega (arith, length-filter-le (λ j. not (same_key k j)) (keys_on ks), length-keys_on-le ks)

length-records_of-le : (es : List Element) → length (records_of es) ≤ length es
length-records_of-le [] = omega arith
length-records_of-le (Key k ∷ es) = omega (arith, length-records_of-le es)
length-records_of-le (RevokeKey id d reason ∷ es) = omega (arith, length-records_of-le es)
length-records_of-le (RevokeBefore d reason ∷ es) = omega (arith, length-records_of-le es)

-- there are no more keys than elements
length-keys_of-le : (es : List Element) → length (keys_of es) ≤ length es
length-keys_of-le es =
    rw (keys_of-on es) (omega (arith, length-keys_on-le (records_of es), length-records_of-le es))

-- a date of a mass revocation is one that an element can hold
abbrev IsDate : Option ℕ → Type 0
IsDate date = IfSome date (λ d. d ≤ MAX_TICKS)

later-date : (greatest : Option ℕ) (d : ℕ) → IsDate greatest → d ≤ MAX_TICKS → IsDate (later greatest d)
later-date None d was is = is
later-date (Some e) d was is = omega (arith, was, is)

mass_date-from : (greatest : Option ℕ) (es : List Element) → IsDate greatest → AllByRecursion IsElement es → IsDate (fold with_mass_date greatest es)
mass_date-from greatest [] was all = was
mass_date-from greatest (Key k ∷ es) was all = mass_date-from greatest es was all.1
mass_date-from greatest (RevokeKey id d reason ∷ es) was all = mass_date-from greatest es was all.1
mass_date-from greatest (RevokeBefore d reason ∷ es) was all =
    mass_date-from (later greatest d) es (later-date greatest d was all.0.date) all.1

length-mass_line-le : (date : Option ℕ) → IsDate date → length (mass_line date) ≤ 25
length-mass_line-le None is = omega arith
length-mass_line-le (Some d) is = omega (arith, length-append (decimal d) (10 ∷ []), length-date-le d is)

length-head_line-le : (es : List Element) (t : ℕ) → length es < 2 ^ 64 → t < 2 ^ 64 → length (head_line es t) ≤ 59
unfolding head_line
length-head_line-le es t few small =
    omega (
      arith,
      length-append (decimal (length es)) (concat (codes " elements at " ∷ decimal t ∷ (10 ∷ []) ∷ [])),
      length-append (decimal t) (10 ∷ []),
      length-decimal-le 20 (length es) (omega arith) (omega (arith, few)) few,
      length-decimal-le 20 t (omega arith) (omega (arith, small)) small,
    )

length-chosen_line : (k : KeyRecord) (why : List ℕ) → length (chosen_line k why) ≡ 49 + length why
unfolding chosen_line
length-chosen_line k why =
    let id = key_text k.id.0 in
    omega (arith, length-append id (concat (codes " by " ∷ why ∷ (10 ∷ []) ∷ [])), length-append why (10 ∷ []), length-key_text k.id.0)

length-default_line-le : (preferred fallback : Option KeyRecord) → length (default_line preferred fallback) ≤ 59
length-default_line-le (Some k) fallback = omega (arith, length-chosen_line k (codes "preference"))
length-default_line-le None (Some k) = omega (arith, length-chosen_line k (codes "fallback"))
length-default_line-le None None = omega arith

length-renew_line-le : (renew : Bool) → length (renew_line renew) ≤ 10
length-renew_line-le true = omega arith
length-renew_line-le false = omega arith

-- the lines of elements that a list can hold, with their keys
pub length-lines : (es : List Element) (keys : List RingKey) (policy : Policy) (t : ℕ) → AreListed es → t < 2 ^ 64 → keys ≡ ring_keys es
    → length (lines es keys policy t) < LISTING_LIMIT
unfolding lines ring_keys mass_date
length-lines es keys policy t is small same =
    let head = head_line es t in
    let mass = mass_line (fold with_mass_date None es) in
    let own = flat_map (λ k. key_line t k.revoked k.key) keys in
    let preferred = chosen (records keys) policy.preferred in
    let fallback = chosen (records keys) policy.fallback in
    let default = default_line preferred fallback in
    omega (
      arith,
      length-append (head ++ mass ++ own ++ default) (renew_line policy.renew),
      length-append (head ++ mass ++ own) default,
      length-append (head ++ mass) own,
      length-append head mass,
      length-head_line-le es t (omega (arith, is.few)) small,
      length-mass_line-le (fold with_mass_date None es) (mass_date-from None es tt is.elements),
      subst (λ (ks : List RingKey). length (flat_map (λ k. key_line t k.revoked k.key) ks) ≤ 144 * length (keys_of es)) (sym same) (length-key_lines-le es t (keys_of es) (keys_of-each es is.elements)),
      length-keys_of-le es,
      is.few,
      length-default_line-le preferred fallback,
      length-renew_line-le policy.renew,
    )
