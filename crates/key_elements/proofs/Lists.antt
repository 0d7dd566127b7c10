-- Records one after the other.
use Rattle.std.proofs.Common.{◌≡◌, ℕ, ◌+◌, ◌<◌, ◌≤◌, List, [], ◌∷◌, ◌++◌, length, take, drop, Err, refl, sym, ap, ◌∙◌, append_assoc, arith}
use Rattle.std.specs.List.{flat_map, AllByRecursion}
use Rattle.std.proofs.lemmas.List.{take-append-drop, length-append, append-nil, flat_map_more, drop_all, length-drop}
use Rattle.std.proofs.Math.Seq.{take-add}
use Rattle.key_elements.specs.declared.element.Element.{Element}
use Rattle.key_elements.specs.declared.list.TheConstants.{MAX_ELEMENTS}
use Rattle.key_elements.specs.declared.refused.ElementRefused.{ElementRefused}
use Rattle.key_elements.specs.Record.{IsElement, IsRecord, AreRecords, IsList, record_of}
use Rattle.key_elements.specs.Reading.{element_at}
use Rattle.key_elements.proofs.Elements.{element_again, same_records, record-some}

abbrev AreElements : List Element → Type 0
AreElements es = AllByRecursion IsElement es

AreElements-push : (es : List Element) (e : Element) → AreElements es → IsElement e → AreElements (es ++ e ∷ [])
AreElements-push [] e all is = (is, tt)
AreElements-push (x ∷ es) e all is = (all.0, AreElements-push es e all.1 is)

-- no element, no byte
pub AreRecords-none : (bytes : List ℕ) → AreRecords (take 0 bytes) []
AreRecords-none bytes = (tt, refl)

-- one more element, whose record is the next n bytes
pub AreRecords-push : (bytes : List ℕ) (at n : ℕ) (es : List Element) (e : Element) → AreRecords (take at bytes) es → at + n ≤ length bytes
    → IsRecord (take n (drop at bytes)) e → AreRecords (take (at + n) bytes) (es ++ e ∷ [])
AreRecords-push bytes at n es e so_far le is = (
  AreElements-push es e so_far.0 is.0,
  take-add at n bytes ∙ ap (λ (t : List ℕ). t ++ take n (drop at bytes)) so_far.1
      ∙ ap (λ (t : List ℕ). flat_map record_of es ++ t) is.1 ∙ flat_map_more record_of [] es e,
)

-- whole records at the front are the first of every list of records that the bytes are
pub records_again : (es fs : List Element) (rest : List ℕ) → AreElements es → AreElements fs → flat_map record_of es ++ rest ≡ flat_map record_of fs
    → (gs : List Element) × (fs ≡ es ++ gs) × (rest ≡ flat_map record_of gs) × AreElements gs
records_again [] fs rest all alls same = (fs, refl, same, alls)
records_again (e ∷ es) [] rest all alls same =
    absurd (omega (arith, ap length same, length-append (record_of e ++ flat_map record_of es) rest, length-append (record_of e) (flat_map record_of es), record-some e))
records_again (e ∷ es) (f ∷ fs) rest all alls same =
    let heads = same_records e f (flat_map record_of es ++ rest) (flat_map record_of fs) all.0 alls.0 (sym (append_assoc (record_of e) (flat_map record_of es) rest) ∙ same) in
    let tail = records_again es fs rest all.1 alls.1 heads.1 in
    (tail.0, ap (λ (t : List Element). f ∷ t) tail.1 ∙ ap (λ (x : Element). x ∷ (es ++ tail.0)) (sym heads.0), tail.2, tail.3)

-- what of a list of records is behind whole records at its front
pub rest_of : (bytes : List ℕ) (at : ℕ) (es fs : List Element) → AreRecords (take at bytes) es → AreRecords bytes fs
    → (gs : List Element) × (fs ≡ es ++ gs) × (drop at bytes ≡ flat_map record_of gs) × AreElements gs
rest_of bytes at es fs so_far whole =
    records_again es fs (drop at bytes) so_far.0 whole.0
    (ap (λ (t : List ℕ). t ++ drop at bytes) (sym so_far.1) ∙ take-append-drop at bytes ∙ whole.1)

no_bytes : (gs : List Element) → flat_map record_of gs ≡ [] → gs ≡ []
no_bytes [] e = refl
no_bytes (g ∷ gs) e = absurd (omega (arith, ap length e, length-append (record_of g) (flat_map record_of gs), record-some g))

-- the records of all the bytes are the only ones
pub whole_only : (bytes : List ℕ) (at : ℕ) (es fs : List Element) → length bytes ≤ at → AreRecords (take at bytes) es → AreRecords bytes fs → es ≡ fs
whole_only bytes at es fs le so_far whole =
    let r = rest_of bytes at es fs so_far whole in
    let gone : r.0 ≡ [] = no_bytes r.0 (sym r.2 ∙ drop_all at bytes le) in
    sym (r.1 ∙ ap (λ (g : List Element). es ++ g) gone ∙ append-nil es)

-- where bytes are left, a further element comes
left_over : (bytes : List ℕ) (at : ℕ) (gs : List Element) → at < length bytes → drop at bytes ≡ flat_map record_of gs → AreElements gs
    → (g : Element) × (hs : List Element) × (gs ≡ g ∷ hs) × IsElement g × (drop at bytes ≡ record_of g ++ flat_map record_of hs)
left_over bytes at [] lt e all = absurd (omega (arith, ap length e, length-drop at bytes))
left_over bytes at (g ∷ hs) lt e all = (g, hs, refl, all.0, e)

-- as many records as a list may have, and bytes left, are no list
pub full_none : (bytes : List ℕ) (at : ℕ) (es fs : List Element) → at < length bytes → length es ≡ MAX_ELEMENTS → AreRecords (take at bytes) es → IsList bytes fs → ⊥
full_none bytes at es fs lt full so_far list =
    let r = rest_of bytes at es fs so_far list.1 in
    let more = left_over bytes at r.0 lt r.2 r.3 in
    omega (arith, list.0, ap length r.1, length-append es r.0, ap length more.2)

-- nor are records before an element that is refused
pub refused_none : (bytes : List ℕ) (at : ℕ) (why : ElementRefused) (es fs : List Element) → at < length bytes → element_at (drop at bytes) ≡ Err why
    → AreRecords (take at bytes) es → IsList bytes fs → ⊥
refused_none bytes at why es fs lt refused so_far list =
    let r = rest_of bytes at es fs so_far list.1 in
    let more = left_over bytes at r.0 lt r.2 r.3 in
    let again = element_again more.0 (flat_map record_of more.1) more.3 in
    absurd (cc (refused, again, ap element_at more.4))
