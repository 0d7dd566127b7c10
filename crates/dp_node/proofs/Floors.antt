-- The floor of a pass: the longest list that its viewer knows.
use Rattle.std.proofs.Common.{◌≡◌, ◌⊎◌, ◌≤◌, true, false, nat_le, Bool, if◌then◌else◌, zero, suc, All, List, [], ◌∷◌, ◌++◌, length, refl, sym, ◌∙◌, inl, inr, arith}
use Rattle.std.proofs.lemmas.Bool.Decides.{nat_tests}
use Rattle.std.proofs.lemmas.List.{take_all}
use Rattle.key_elements.specs.declared.element.Element.{Element}
use Rattle.key_elements.specs.Lists.{Extends, Agree}
use Rattle.key_ring.specs.Ring.{RingOf, ExtendsRing}
use Rattle.swap_cell.specs.Rule.{Each, InLine}
use Rattle.dp_node.specs.Floor.{longest}
use Rattle.node_calls.proofs.Books.{IsFrontOf-trans, IsFrontOf-le}
use Rattle.node_calls.proofs.Courses.{longer_extends_own, longer_extends_list}

pub each_map : {A : Type 0} (P Q : A → Type 0) (xs : List A) → ((x : A) → P x → Q x) → Each P xs → Each Q xs
each_map P Q [] f h = tt
each_map P Q (x ∷ xs) f h = (f x h.0, each_map P Q xs f h.1)

pub each_append : {A : Type 0} (P : A → Type 0) (xs ys : List A) → Each P xs → Each P ys → Each P (xs ++ ys)
each_append P [] ys hx hy = hy
each_append P (x ∷ xs) ys hx hy = (hx.0, each_append P xs ys hx.1 hy)

pub each_left : {A : Type 0} (P : A → Type 0) (xs ys : List A) → Each P (xs ++ ys) → Each P xs
each_left P [] ys h = tt
each_left P (x ∷ xs) ys h = (h.0, each_left P xs ys h.1)

pub each_right : {A : Type 0} (P : A → Type 0) (xs ys : List A) → Each P (xs ++ ys) → Each P ys
each_right P [] ys h = h
each_right P (x ∷ xs) ys h = each_right P xs ys h.1

-- the longer of two is one of them
longer_or : (P : List Element → Type 0) (a b : List Element) (c : Bool) → P a → P b → P (if c then a else b)
longer_or P a b true pa pb = pa
longer_or P a b false pa pb = pb

-- and the longest one of all, or empty
pub longest_or : (P : List Element → Type 0) → P [] → (rs : List RingOf) → Each (λ r. P r.list) rs → P (longest rs)
longest_or P none [] h = none
longest_or P none (r ∷ rs) h = longer_or P r.list (longest rs) (nat_le (length (longest rs)) (length r.list)) h.0 (longest_or P none rs h.1)

extends_empty : (x : List Element) → Extends x []
extends_empty x = refl

-- none is longer than the longest
le_longer : (a b : List Element) (c : Bool) → nat_le (length b) (length a) ≡ c → (length a ≤ length (if c then a else b)) × (length b ≤ length (if c then a else b))
le_longer a b true e = (omega arith, grind (arith, nat_tests))
le_longer a b false e = (grind (arith, nat_tests), omega arith)

pub le_longest : (rs : List RingOf) → Each (λ r. length r.list ≤ length (longest rs)) rs
le_longest [] = tt
le_longest (r ∷ rs) = let h = le_longer r.list (longest rs) _ refl in let h0 = h.0 in let h1 = h.1 in
    (h0, each_map (λ x. length x.list ≤ length (longest rs)) (λ x. length x.list ≤ length (longest (r ∷ rs))) rs (λ x le. omega arith) (le_longest rs))

-- a ring whose list is as long as any is the longest
first_longest : (r : RingOf) (rs : List RingOf) (c : Bool) → nat_le (length (longest rs)) (length r.list) ≡ c → length (longest rs) ≤ length r.list → (if c then r.list else longest rs) ≡ r.list
first_longest r rs true e h = refl
first_longest r rs false e h = absurd (grind (arith, nat_tests))

pub longest_first : (r : RingOf) (rs : List RingOf) → length (longest rs) ≤ length r.list → longest (r ∷ rs) ≡ r.list
longest_first r rs h = first_longest r rs _ refl h

-- what extends each list extends the longest
pub extends_longest : (x : List Element) (rs : List RingOf) → Each (λ r. Extends x r.list) rs → Extends x (longest rs)
extends_longest x rs h = longest_or (Extends x) (extends_empty x) rs h

-- a look: its list is the floor
pub looked_floor : (r : RingOf) (rs : List RingOf) → Each (ExtendsRing r) rs → longest (r ∷ rs) ≡ r.list
looked_floor r rs h = longest_first r rs (IsFrontOf-le (longest rs) r.list (extends_longest r.list rs h))

agree_of : (a b : List Element) → (Extends a b ⊎ Extends b a) → Agree a b
agree_of a b (inl h) = h ∙ sym (take_all (length a) b (IsFrontOf-le b a h))
agree_of a b (inr h) = take_all (length b) a (IsFrontOf-le a b h) ∙ sym h

-- of rings that are in line the longest list extends each
pub longest_all : (rs : List RingOf) → InLine ExtendsRing rs → Each (λ r. Extends (longest rs) r.list) rs
longest_all [] h = tt
longest_all (r ∷ rs) h =
    let P : List Element → Type 0 = λ l. Extends r.list l ⊎ Extends l r.list in
    let a : Agree r.list (longest rs) = agree_of r.list (longest rs) (longest_or P (inl (extends_empty r.list)) rs h.0.1) in
    let line : InLine ExtendsRing rs = each_map (λ x. Each (λ y. ExtendsRing x y ⊎ ExtendsRing y x) (r ∷ rs)) (λ x. Each (λ y. ExtendsRing x y ⊎ ExtendsRing y x) rs) rs (λ x t. t.1) h.1 in (
      longer_extends_own r.list (longest rs) a,
      each_map (λ x. Extends (longest rs) x.list) (λ x. Extends (longest (r ∷ rs)) x.list) rs (λ x e. IsFrontOf-trans x.list (longest rs) (longest (r ∷ rs)) e (longer_extends_list r.list (longest rs) a)) (longest_all rs line),
    )

-- after what was told was learnt, the floor extends what was told and the old floor
pub learnt_floor : (told rs : List RingOf) → InLine ExtendsRing (told ++ rs) → Each (λ r. Extends (longest (told ++ rs)) r.list) told × Extends (longest (told ++ rs)) (longest rs)
learnt_floor told rs h = let all = longest_all (told ++ rs) h in
    (each_left (λ r. Extends (longest (told ++ rs)) r.list) told rs all, extends_longest (longest (told ++ rs)) rs (each_right (λ r. Extends (longest (told ++ rs)) r.list) told rs all))

-- after a publication the floor is the ring's list
pub published_floor : (ring : RingOf) (told rs : List RingOf) → Extends ring.list (longest rs) → Each (λ r. Extends (longest rs) r.list) told → longest (ring ∷ (told ++ rs)) ≡ ring.list
published_floor ring told rs up all =
    let n = IsFrontOf-le (longest rs) ring.list up in let P : RingOf → Type 0 = λ r. length r.list ≤ length ring.list in
    let short : (r : RingOf) → length r.list ≤ length (longest rs) → length r.list ≤ length ring.list = λ r h. omega arith in
    longest_first ring (told ++ rs) (longest_or (λ l. length l ≤ length ring.list) (omega arith) (told ++ rs)
    (each_append P told rs (each_map (λ r. Extends (longest rs) r.list) P told (λ r e. short r (IsFrontOf-le r.list (longest rs) e)) all) (each_map (λ r. length r.list ≤ length (longest rs)) P rs short (le_longest rs))))

-- each by position
pub each_all : {A : Type 0} (P : A → Type 0) (xs : List A) → Each P xs → All P xs
each_all P [] h i d lt = absurd (omega arith)
each_all P (x ∷ xs) h zero d lt = h.0
each_all P (x ∷ xs) h (suc i) d lt = each_all P xs h.1 i d (omega arith)

pub all_each : {A : Type 0} (P : A → Type 0) (xs : List A) → All P xs → Each P xs
all_each P [] h = tt
all_each P (x ∷ xs) h = (h zero x (omega arith), all_each P xs (λ i d lt. h (suc i) d (omega arith)))
