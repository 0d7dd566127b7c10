-- The keys of a list with one more record: the record put among the keys before.
use Rattle.std.proofs.Common.{◌≡◌, ℕ, Bool, true, false, not, cond, eqb, List, [], ◌∷◌, ◌++◌, map, filter, refl, ap, ◌∙◌, arith}
use Rattle.std.proofs.lemmas.Bool.Decides.{nat_tests}
use Rattle.key_elements.specs.declared.element.KeyRecord.{KeyRecord}
use Rattle.key_ring.specs.Keys.{same_key, first_records, last_or, last_record}
use Rattle.key_ring.specs.Put.{put_record}

-- whether a record is of another key
abbrev other : KeyRecord → KeyRecord → Bool
other k j = not (same_key k j)

-- the keys, from the front: the first key's last record, and the keys of the rest but for this key
abbrev pub keys_on : List KeyRecord → List KeyRecord
keys_on [] = []
keys_on (k ∷ ks) = last_record ks k ∷ filter (other k) (keys_on ks)

same_key-same : (k : KeyRecord) → same_key k k ≡ true
same_key-same k = grind (arith, nat_tests)

same_key-turned : (a b : KeyRecord) → same_key a b ≡ same_key b a
same_key-turned a b = grind (arith, nat_tests)

-- two records of one key are alike to every third
same_key-alike : (a b c : KeyRecord) → a.id.0 ≡ b.id.0 → same_key a c ≡ same_key b c
same_key-alike a b c e = ap (λ (n : ℕ). eqb n c.id.0) e

-- the last record of a key has its id
last_or-id : (k d : KeyRecord) (ks : List KeyRecord) → d.id.0 ≡ k.id.0 → (last_or d (filter (same_key k) ks)).id.0 ≡ k.id.0
last_or-id k d [] e = e
last_or-id k d (j ∷ js) e =
    elim (same_key k j) as (λ b. same_key k j ≡ b → (last_or d (cond b (j ∷ filter (same_key k) js) (filter (same_key k) js))).id.0 ≡ k.id.0) [
      | true ↦ λ h. last_or-id k j js (grind (arith, nat_tests))
      | false ↦ λ h. last_or-id k d js e
    ] refl

pub last_record-id : (ks : List KeyRecord) (k : KeyRecord) → (last_record ks k).id.0 ≡ k.id.0
last_record-id ks k = last_or-id k k ks refl

-- the last record of a key, behind a record of another
last_record-other : (k d : KeyRecord) (ks : List KeyRecord) → same_key k d ≡ false → last_record (k ∷ ks) d ≡ last_record ks d
last_record-other k d ks h = rw (same_key-turned d k ∙ h) refl

-- the last records of the keys other than k
map-other : (k : KeyRecord) (ks ds : List KeyRecord) → map (last_record (k ∷ ks)) (filter (other k) ds) ≡ filter (other k) (map (last_record ks) ds)
map-other k ks [] = refl
map-other k ks (d ∷ ds) =
    let alike : same_key k (last_record ks d) ≡ same_key k d = ap (eqb k.id.0) (last_record-id ks d) in
    elim (same_key k d) as (λ b. same_key k d ≡ b
    → map (last_record (k ∷ ks)) (cond (not b) (d ∷ filter (other k) ds) (filter (other k) ds)) ≡ cond (not (same_key k (last_record ks d))) (last_record ks d ∷ filter (other k) (map (last_record ks) ds)) (filter (other k) (map (last_record ks) ds))) [
      | true ↦ λ h. rw (alike, h) (map-other k ks ds)
      | false ↦ λ h. rw (alike, h, last_record-other k d ks h) (ap (λ (t : List KeyRecord). last_record ks d ∷ t) (map-other k ks ds))
    ] refl

-- the two readings are one
pub keys_on-is : (ks : List KeyRecord) → map (last_record ks) (first_records ks) ≡ keys_on ks
keys_on-is [] = refl
keys_on-is (k ∷ ks) =
    let head : last_record (k ∷ ks) k ≡ last_record ks k = rw (same_key-same k) refl in
    rw (head, map-other k ks (first_records ks), keys_on-is ks) refl

-- a record put among keys, and the keys but for its own
drop-put : (k r : KeyRecord) (xs : List KeyRecord) → same_key k r ≡ true → filter (other k) (put_record r xs) ≡ filter (other k) xs
drop-put k r [] h = rw h refl
drop-put k r (x ∷ xs) h =
    elim (same_key x r) as (λ b. same_key x r ≡ b → filter (other k) (cond b (r ∷ xs) (x ∷ put_record r xs)) ≡ filter (other k) (x ∷ xs)) [
      | true ↦ λ e. let same : same_key k x ≡ true = grind (arith, nat_tests) in rw (h, same) refl
      | false ↦ λ e. rw (drop-put k r xs h) refl
    ] refl

-- or but for another
keep-put : (k r : KeyRecord) (xs : List KeyRecord) → same_key k r ≡ false → filter (other k) (put_record r xs) ≡ put_record r (filter (other k) xs)
keep-put k r [] h = rw h refl
keep-put k r (x ∷ xs) h =
    elim (same_key x r) as (λ b. same_key x r ≡ b → filter (other k) (cond b (r ∷ xs) (x ∷ put_record r xs)) ≡ put_record r (filter (other k) (x ∷ xs))) [
      | true ↦ λ e. let apart : same_key k x ≡ false = grind (arith, nat_tests) in rw (h, apart, e) refl
      | false ↦ λ e. rw (keep-put k r xs h) (kept (same_key k x) e (put_record r (filter (other k) xs)) (filter (other k) xs) refl)
    ] refl
  where
    kept : (b : Bool) → same_key x r ≡ false → (ys zs : List KeyRecord) → ys ≡ put_record r zs → cond (not b) (x ∷ ys) ys ≡ put_record r (cond (not b) (x ∷ zs) zs)
    kept true e ys zs is = is
    kept false e ys zs is = rw (e, is) refl

-- the last record of a key, with one record more
last_or-push : (k d r : KeyRecord) (ks : List KeyRecord) → last_or d (filter (same_key k) (ks ++ r ∷ [])) ≡ cond (same_key k r) r (last_or d (filter (same_key k) ks))
last_or-push k d r [] = elim (same_key k r) as (λ b. last_or d (cond b (r ∷ []) []) ≡ cond b r d) [ true ↦ refl | false ↦ refl ]
last_or-push k d r (x ∷ xs) =
    elim (same_key k x) as (λ b. last_or d (cond b (x ∷ filter (same_key k) (xs ++ r ∷ [])) (filter (same_key k) (xs ++ r ∷ []))) ≡ cond (same_key k r) r (last_or d (cond b (x ∷ filter (same_key k) xs) (filter (same_key k) xs)))) [
      | true ↦ last_or-push k x r xs
      | false ↦ last_or-push k d r xs
    ]

-- one record more is put among the keys
pub keys_on-push : (r : KeyRecord) (ks : List KeyRecord) → keys_on (ks ++ r ∷ []) ≡ put_record r (keys_on ks)
keys_on-push r [] = refl
keys_on-push r (k ∷ ks) =
    let alike : same_key (last_record ks k) r ≡ same_key k r = ap (λ (n : ℕ). eqb n r.id.0) (last_record-id ks k) in
    elim (same_key k r) as (λ b. same_key k r ≡ b → last_record (ks ++ r ∷ []) k ∷ filter (other k) (keys_on (ks ++ r ∷ [])) ≡ put_record r (last_record ks k ∷ filter (other k) (keys_on ks))) [
      | true ↦ λ h. rw (last_or-push k k r ks, h, alike, h, keys_on-push r ks, drop-put k r (keys_on ks) h) refl
      | false ↦ λ h. rw (last_or-push k k r ks, h, alike, h, keys_on-push r ks, keep-put k r (keys_on ks) h) refl
    ] refl
