-- What the policy asks of the facts of a list's keys.
use Rattle.std.proofs.Common.{◌≡◌, ◌≤◌, List, [], ◌∷◌, map, length, refl, ap, sym, subst, ◌∙◌, arith}
use Rattle.std.specs.Prelude.{All}
use Rattle.std.specs.List.{AllByRecursion}
use Rattle.std.proofs.lemmas.List.{get_or-map, length-map}
use Rattle.std.proofs.lemmas.List.Elements.{All-from_recursion}
use Rattle.dp_base.specs.declared.ticks.TheConstants.{MAX_TICKS}
use Rattle.default_key.specs.declared.key_facts.KeyFacts.{KeyFacts}
use Rattle.default_key.specs.Policy.{HaveDistinctIds}
use Rattle.key_elements.specs.declared.element.Element.{Element}
use Rattle.key_elements.specs.declared.element.KeyRecord.{KeyRecord}
use Rattle.key_elements.specs.Record.{IsElement, IsKey}
use Rattle.key_ring.specs.declared.keys.RingKey.{RingKey}
use Rattle.key_ring.specs.Keys.{keys_of, ring_key, ring_keys, fact_of, facts}
use Rattle.key_ring.proofs.KeysOf.{HaveIds, keys_of-each, keys_of-ids}

-- what the policy knows of a key of a list
abbrev facts_of : List Element → KeyRecord → KeyFacts
facts_of es k = fact_of (ring_key es k)

facts_of-map : (es : List Element) (ks : List KeyRecord) → map fact_of (map (ring_key es) ks) ≡ map (facts_of es) ks
facts_of-map es [] = refl
facts_of-map es (k ∷ ks) = ap (λ (t : List KeyFacts). facts_of es k ∷ t) (facts_of-map es ks)

facts-are : (es : List Element) → facts es ≡ map (facts_of es) (keys_of es)
unfolding facts ring_keys
facts-are es = facts_of-map es (keys_of es)

-- the facts of the keys of a list
pub facts-from : (es : List Element) (keys : List RingKey) (known : List KeyFacts) → known ≡ map fact_of keys → keys ≡ ring_keys es → known ≡ facts es
unfolding facts
facts-from es keys known k is = k ∙ ap (map fact_of) is

dates : (es : List Element) (ks : List KeyRecord) → AllByRecursion IsKey ks → AllByRecursion (λ f. f.expiration ≤ MAX_TICKS) (map (facts_of es) ks)
dates es [] all = tt
dates es (k ∷ ks) all = (all.0.expiration, dates es ks all.1)

-- no date is above the greatest
pub facts-dates : (es : List Element) → AllByRecursion IsElement es → All (λ f. f.expiration ≤ MAX_TICKS) (facts es)
facts-dates es all = rw (facts-are es) (All-from_recursion (λ f. f.expiration ≤ MAX_TICKS) (map (facts_of es) (keys_of es)) (dates es (keys_of es) (keys_of-each es all)))

ids : (es : List Element) (ks : List KeyRecord) → HaveIds ks → HaveDistinctIds (map (facts_of es) ks)
ids es [] differ = λ i j d lt within same. omega arith
ids es (k ∷ ks) differ = λ i j d lt within same.
    let len : length (map (facts_of es) (k ∷ ks)) ≡ length (k ∷ ks) = length-map (k ∷ ks) (facts_of es) in
    let at_i = get_or-map (facts_of es) (k ∷ ks) i k d (omega arith) in
    let at_j = get_or-map (facts_of es) (k ∷ ks) j k d (omega arith) in
    differ i j k lt (omega arith) (ap (λ (f : KeyFacts). f.id.0) (sym at_i) ∙ same ∙ ap (λ (f : KeyFacts). f.id.0) at_j)

-- no two keys have one id
pub facts-ids : (es : List Element) → HaveDistinctIds (facts es)
facts-ids es = subst HaveDistinctIds (sym (facts-are es)) (ids es (keys_of es) (keys_of-ids es))
