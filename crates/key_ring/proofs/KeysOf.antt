-- The keys of a list of elements, element by element, and that no two have one id.
use Rattle.std.proofs.Common.{Some, None, ◌≡◌, ℕ, ◌+◌, ◌<◌, Bool, true, false, not, cond, List, [], ◌∷◌, ◌++◌, filter, length, take, get_or, refl, ap, sym, subst, eq-eqb, ◌∙◌, arith}
use Rattle.key_elements.specs.declared.element.Element.{Element}
use Rattle.key_elements.specs.declared.element.Element.TheVariants.{Key, RevokeKey, RevokeBefore}
use Rattle.key_elements.specs.declared.element.KeyRecord.{KeyRecord}
use Rattle.std.specs.Prelude.{AllPairs}
use Rattle.std.specs.List.{AllByRecursion, filter_map}
use Rattle.std.proofs.lemmas.List.{take_more, append-nil}
use Rattle.std.proofs.lemmas.List.Kept.{AllPairs-cons, AllPairs-filter}
use Rattle.std.proofs.lemmas.List.Elements.{filter_passes, filter_map-append}
use Rattle.key_elements.specs.Record.{IsElement, IsKey}
use Rattle.key_ring.specs.Keys.{key_in, records_of, same_key, last_or, last_record, keys_of}
use Rattle.key_ring.specs.Put.{put_record}
use Rattle.key_ring.proofs.Snoc.{keys_on, keys_on-is, keys_on-push, last_record-id}

records_of-push : (es : List Element) (r : KeyRecord) → records_of (es ++ Key r ∷ []) ≡ records_of es ++ r ∷ []
records_of-push es r = filter_map-append key_in es (Key r ∷ [])

-- by the reading from the front
pub keys_of-on : (es : List Element) → keys_of es ≡ keys_on (records_of es)
unfolding keys_of
keys_of-on es = keys_on-is (records_of es)

-- one more record is put among the keys
pub keys_of-push : (es : List Element) (r : KeyRecord) → keys_of (es ++ Key r ∷ []) ≡ put_record r (keys_of es)
keys_of-push es r =
    keys_of-on (es ++ Key r ∷ []) ∙ ap keys_on (records_of-push es r) ∙ keys_on-push r (records_of es) ∙ ap (put_record r) (sym (keys_of-on es))

-- an element that is a key is this one
key_in-is : (e : Element) (r : KeyRecord) → Some r ≡ key_in e → e ≡ Key r
key_in-is (Key k) r is = ap Key (sym (cc is))
key_in-is (RevokeKey id d reason) r is = absurd cc
key_in-is (RevokeBefore d reason) r is = absurd cc

-- one element more, which is a key
pub keys_of-more : (es : List Element) (i : ℕ) (d : Element) (r : KeyRecord) → i < length es → Some r ≡ key_in (get_or es i d)
    → keys_of (take (i + 1) es) ≡ put_record r (keys_of (take i es))
keys_of-more es i d r lt is =
    ap keys_of (take_more es i d lt) ∙ ap (λ (e : Element). keys_of (take i es ++ e ∷ [])) (key_in-is (get_or es i d) r is) ∙ keys_of-push (take i es) r

no_record : (e : Element) → None ≡ key_in e → filter_map key_in (e ∷ []) ≡ []
no_record (Key k) is = absurd cc
no_record (RevokeKey id d reason) is = refl
no_record (RevokeBefore d reason) is = refl

-- one element more, which is no key
pub keys_of-skip : (es : List Element) (i : ℕ) (d : Element) → i < length es → None ≡ key_in (get_or es i d) → keys_of (take (i + 1) es) ≡ keys_of (take i es)
keys_of-skip es i d lt is =
    let same : records_of (take (i + 1) es) ≡ records_of (take i es) =
    ap records_of (take_more es i d lt) ∙ filter_map-append key_in (take i es) (get_or es i d ∷ [])
    ∙ ap (λ (t : List KeyRecord). records_of (take i es) ++ t) (no_record (get_or es i d) is) ∙ append-nil (records_of (take i es)) in
    keys_of-on (take (i + 1) es) ∙ ap keys_on same ∙ sym (keys_of-on (take i es))

-- a fact of every record among the elements holds of the keys
last_or-each : (P : KeyRecord → Type 0) (d : KeyRecord) (ks : List KeyRecord) → P d → AllByRecursion P ks → P (last_or d ks)
last_or-each P d [] p all = p
last_or-each P d (k ∷ ks) p all = last_or-each P k ks all.0 all.1

filter-each : (P : KeyRecord → Type 0) (test : KeyRecord → Bool) (ks : List KeyRecord) → AllByRecursion P ks → AllByRecursion P (filter test ks)
filter-each P test [] all = tt
filter-each P test (k ∷ ks) all =
    elim (test k) as (λ b. AllByRecursion P (cond b (k ∷ filter test ks) (filter test ks))) [
      | true ↦ (all.0, filter-each P test ks all.1)
      | false ↦ filter-each P test ks all.1
    ]

keys_on-each : (P : KeyRecord → Type 0) (ks : List KeyRecord) → AllByRecursion P ks → AllByRecursion P (keys_on ks)
keys_on-each P [] all = tt
keys_on-each P (k ∷ ks) all =
    (last_or-each P k (filter (same_key k) ks) all.0 (filter-each P (same_key k) ks all.1), filter-each P (λ j. not (same_key k j)) (keys_on ks) (keys_on-each P ks all.1))

records_of-keys : (es : List Element) → AllByRecursion IsElement es → AllByRecursion IsKey (records_of es)
records_of-keys [] all = tt
records_of-keys (Key k ∷ es) all = (all.0, records_of-keys es all.1)
records_of-keys (RevokeKey id d reason ∷ es) all = records_of-keys es all.1
records_of-keys (RevokeBefore d reason ∷ es) all = records_of-keys es all.1

-- the keys of a list of elements can stand in records
pub keys_of-each : (es : List Element) → AllByRecursion IsElement es → AllByRecursion IsKey (keys_of es)
keys_of-each es all = rw (keys_of-on es) (keys_on-each IsKey (records_of es) (records_of-keys es all))

-- no two records have one id
abbrev pub HaveIds : List KeyRecord → Type 0
HaveIds ks = AllPairs (λ (a b : KeyRecord). a.id.0 ≡ b.id.0 → ⊥) ks

-- the keys other than k have other ids than its last record
apart : (k j : KeyRecord) (ks : List KeyRecord) → not (same_key k j) ≡ true → (last_record ks k).id.0 ≡ j.id.0 → ⊥
apart k j ks other same =
    let here : same_key k j ≡ true = eq-eqb k.id.0 j.id.0 (sym (last_record-id ks k) ∙ same) in
    absurd (cc (other, here))

keys_on-ids : (ks : List KeyRecord) → HaveIds (keys_on ks)
keys_on-ids [] = λ i j d lt within. absurd (omega arith)
keys_on-ids (k ∷ ks) =
    AllPairs-cons (λ (a b : KeyRecord). a.id.0 ≡ b.id.0 → ⊥) (last_record ks k) (filter (λ j. not (same_key k j)) (keys_on ks))
    (λ i d within. apart k (get_or (filter (λ j. not (same_key k j)) (keys_on ks)) i d) ks (filter_passes (λ j. not (same_key k j)) (keys_on ks) i d within))
    (AllPairs-filter (λ (a b : KeyRecord). a.id.0 ≡ b.id.0 → ⊥) (λ j. not (same_key k j)) (keys_on ks) (keys_on-ids ks))

pub keys_of-ids : (es : List Element) → HaveIds (keys_of es)
keys_of-ids es = subst HaveIds (sym (keys_of-on es)) (keys_on-ids (records_of es))
