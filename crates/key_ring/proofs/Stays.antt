-- What revokes a key in a list revokes it in every list that extends this one.
use Rattle.std.proofs.Common.{◌≡◌, ℕ, ◌+◌, ◌<◌, Bool, true, false, List, [], ◌∷◌, length, get_or, take, drop, eqb, ap, sym, refl, ◌∙◌, ◌++◌}
use Rattle.std.specs.Prelude.{IsTrue, ◌||◌}
use Rattle.std.specs.List.{list_any}
use Rattle.std.proofs.lemmas.List.{take-append-drop}
use Rattle.std.proofs.lemmas.List.Folds.{list_any-append, list_any_more}
use Rattle.key_elements.specs.declared.element.Element.{Element}
use Rattle.key_elements.specs.declared.element.Element.TheVariants.{Key, RevokeKey, RevokeBefore}
use Rattle.key_elements.specs.declared.element.KeyRecord.{KeyRecord}
use Rattle.key_elements.specs.Lists.{Extends}
use Rattle.key_ring.specs.Keys.{names, is_named, revokes, is_revoked}

or_first : (a b : Bool) → a ≡ true → (a || b) ≡ true
or_first true b e = refl
or_first false b e = absurd cc

-- a test that some element of a list passes
passes : (test : Element → Bool) (es grown : List Element) → Extends grown es → list_any test es ≡ true → list_any test grown ≡ true
passes test es grown extends e =
    let parts : es ++ drop (length es) grown ≡ grown = ap (λ (t : List Element). t ++ drop (length es) grown) (sym extends) ∙ take-append-drop (length es) grown in
    ap (list_any test) (sym parts) ∙ list_any-append test es (drop (length es) grown) ∙ or_first _ _ e

pub stays : (es grown : List Element) (k : KeyRecord) → Extends grown es → IsTrue (is_revoked es k) → IsTrue (is_revoked grown k)
stays es grown k extends e = passes (revokes k) es grown extends e

-- an element that revokes an id revokes each record of it
names-revokes : (id : ℕ) (k : KeyRecord) (e : Element) → k.id.0 ≡ id → names id e ≡ true → revokes k e ≡ true
names-revokes id k (Key j) same e = absurd cc
names-revokes id k (RevokeKey j d reason) same e = ap (λ (n : ℕ). eqb j.0 n) same ∙ e
names-revokes id k (RevokeBefore d reason) same e = absurd cc

or_both : (a b x y : Bool) → (a ≡ true → x ≡ true) → (b ≡ true → y ≡ true) → (a || b) ≡ true → (x || y) ≡ true
or_both true b x y f g e = rw (f refl) refl
or_both false b true y f g e = refl
or_both false b false y f g e = g e

named : (id : ℕ) (k : KeyRecord) (es : List Element) → k.id.0 ≡ id → is_named es id ≡ true → is_revoked es k ≡ true
named id k [] same e = absurd cc
named id k (x ∷ es) same e = or_both (names id x) (is_named es id) (revokes k x) (is_revoked es k) (names-revokes id k x same) (named id k es same) e

pub stays-id : (es grown : List Element) (id : ℕ) → Extends grown es → IsTrue (is_named es id) → (k : KeyRecord) → k.id.0 ≡ id → IsTrue (is_revoked grown k)
stays-id es grown id extends e k same = stays es grown k extends (named id k es same e)

-- ---- the walk over a list

revoked_so_far : (k : KeyRecord) (es : List Element) (i : ℕ) (e : Element) → i < length es → e ≡ get_or es i e
    → is_revoked (take (i + 1) es) k ≡ (is_revoked (take i es) k || revokes k e)
revoked_so_far k es i e lt here =
    list_any_more (revokes k) es i e lt ∙ ap (λ (x : Element). is_revoked (take i es) k || revokes k x) (sym here)

pub none_more : (k : KeyRecord) (es : List Element) (i : ℕ) (e : Element) → i < length es → e ≡ get_or es i e
    → is_revoked (take i es) k ≡ false → revokes k e ≡ false → is_revoked (take (i + 1) es) k ≡ false
none_more k es i e lt here none this = revoked_so_far k es i e lt here ∙ rw (none, this) refl

pub revoked_here : (k : KeyRecord) (es : List Element) (i : ℕ) (e : Element) → i < length es → e ≡ get_or es i e → revokes k e ≡ true → is_revoked es k ≡ true
revoked_here k es i e lt here this =
    let so_far : is_revoked (take (i + 1) es) k ≡ true = revoked_so_far k es i e lt here ∙ rw this (or_last (is_revoked (take i es) k)) in
    ap (list_any (revokes k)) (sym (take-append-drop (i + 1) es)) ∙ list_any-append (revokes k) (take (i + 1) es) (drop (i + 1) es) ∙ or_first _ _ so_far
  where
    or_last : (b : Bool) → (b || true) ≡ true
    or_last true = refl
    or_last false = refl
