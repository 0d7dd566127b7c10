-- Each kind of step on the table of a cell keeps its rule.
use Rattle.std.proofs.Common.{◌≡◌, ◌≢◌, ◌⊎◌, ℕ, zero, suc, ◌+◌, ◌*◌, ◌<◌, ◌≤◌, true, eqb, max, Option, Some, None, List, [], ◌∷◌, ◌++◌, length, map, All, get_or, set, drop, sym, refl, ap, ◌∙◌, subst, inl, inr, ⊎_elim, le_refl, length-set, get_or-set_same, arith, rules}
use Rattle.std.proofs.lemmas.Bool.{false≢true, cases_lt}
use Rattle.std.proofs.lemmas.List.{set-get_or, get_or-set_other, drop-map}
use mathlib.Core.Logic.{dite}
use mathlib.Core.Option.{some, none, some-injective, some-ne-none}
use mathlib.Core.Option as maybe
use native.Mathlib.Decide.{ℕ_discrete}
use lib.ListN.{get_elem?}
use prog.Atomic.{either}
use Rattle.atomic_table.specs.Seated.{TableId}
use Rattle.atomic_table.specs.Table.{State, Me, Act, takes, gives, keeps, step, opening, rest, Valid, homes_after, carried_after, Allows, Splits, Joins}
use Rattle.atomic_table.proofs.Lists.{at_set, set_here, set_else, set_again, at_longer, at_last, some_there, exchanged}
use Rattle.swap_cell.specs.declared.board.Item.{Item}
use Rattle.swap_cell.specs.declared.board.Knowledge.{Knowledge}
use Rattle.swap_cell.specs.declared.handles.Viewer.{Viewer}
use Rattle.swap_cell.specs.Cells.{HaveSlots, value_of, viewer_slot}
use Rattle.swap_cell.specs.Rule.{Each, InLine, On, seated, Fits, IsGrowing, Rules, Kept, item, setter}
use Rattle.swap_cell.specs.Steps.{locked, freed, swapped, appended, looked, lined, follower, learnt, renewed, spent}

none_some : {A : Type 0} (a : A) → None ≡ Some a → ⊥
none_some a e = search rules

pub some_one : {A : Type 0} (a b : A) → Some a ≡ Some b → a ≡ b
some_one a b e = search rules

-- what stands at a place of a list with one more at its end
at_end : {A : Type 0} (l : List A) (a b : A) (j : ℕ) → get_elem? (l ++ a ∷ []) j ≡ some b → (get_elem? l j ≡ some b) ⊎ ((j ≡ length l) × (a ≡ b))
at_end [] a b zero e = inr (refl, some-injective a b e)
at_end [] a b (suc j) e = absurd (some-ne-none b (sym e))
at_end (x ∷ xs) a b zero e = inl e
at_end (x ∷ xs) a b (suc j) e = ⊎_elim inl (λ t. inr (ap suc t.0, t.1)) (at_end xs a b j e)

at_within : {A : Type 0} (l : List A) (i : ℕ) (a : A) → get_elem? l i ≡ some a → i < length l
at_within [] i a e = absurd (some-ne-none a (sym e))
at_within (x ∷ xs) zero a e = omega arith
at_within (x ∷ xs) (suc i) a e = let h = at_within xs i a e in omega arith

the_only : {A : Type 0} (a : A) (i : ℕ) (b : A) → get_elem? (a ∷ []) i ≡ some b → (i ≡ 0) × (a ≡ b)
the_only a zero b e = (refl, some-injective a b e)
the_only a (suc i) b e = absurd (some-ne-none b (sym e))

-- the slot that was taken last, before the others
pub front : {S : Type 0} (c r : List (ℕ × S)) (a : ℕ × S) → c ≡ a ∷ r → c ≡ a ∷ rest c
front c r a e = e ∙ ap (λ (l : List (ℕ × _)). a ∷ rest l) (sym e)

abbrev headed : {A : Type 0} → List (ℕ × A) → A → A
headed [] d = d
headed (x ∷ xs) d = x.1

-- a list begins with one pair alone
pub same_head : {A : Type 0} (l : List (ℕ × A)) (j k : ℕ) (a b : A) (xs ys : List (ℕ × A)) → l ≡ (j, a) ∷ xs → l ≡ (k, b) ∷ ys → a ≡ b
same_head l j k a b xs ys e f = ap (λ z. headed z a) (sym e ∙ f)

-- what a seat has that had no slot before
pub one_slot : {T : Type 0} (m : Me (Item T) (Knowledge T)) (w : Knowledge T) (r : ℕ) (y : Item T) (c : List (ℕ × Item T)) → m ≡ (w, (r, y) ∷ c) → c ≡ [] → m ≡ (w, (r, y) ∷ [])
one_slot m w r y c e f = e ∙ ap (λ z. (w, (r, y) ∷ z)) f

-- what holds of each element at its place, and of one more
pub at_more : {A : Type 0} (P : ℕ → A → Type 0) (xs : List A) (x : A) → ((i : ℕ) (d : A) → i < length xs → P i (get_or xs i d)) → P (length xs) x
    → (i : ℕ) (d : A) → i < length (xs ++ x ∷ []) → P i (get_or (xs ++ x ∷ []) i d)
at_more P [] x all last zero d h = last
at_more P [] x all last (suc k) d h = absurd (omega arith)
at_more P (y ∷ ys) x all last zero d h = all zero d (omega arith)
at_more P (y ∷ ys) x all last (suc k) d h = at_more (λ i. P (suc i)) ys x (λ j e g. all (suc j) e (omega arith)) last k d (omega arith)

pub all_more : {A : Type 0} (P : A → Type 0) (xs : List A) (x : A) → All P xs → P x → All P (xs ++ x ∷ [])
all_more P = at_more (λ _. P)

-- one more viewer, with the next two slots
pub slots_more : {T : Type 0} (xs : List (Viewer T)) (x : Viewer T) → HaveSlots xs → viewer_slot x ≡ 2 * length xs → HaveSlots (xs ++ x ∷ [])
slots_more xs x all last = at_more (λ i v. viewer_slot v ≡ 2 * i) xs x all last

pub some_word : (z z' : TableId) → z ≡ z' → z.words ≡ 16 * z.slots → 0 < z.slots → 0 < z'.words
some_word z z' e wide least = subst (λ (q : TableId). 0 < q.words) e (omega arith)

pub word_within : (z z' : TableId) (i : ℕ) → z ≡ z' → z.words ≡ 16 * z.slots → i < z.slots → 16 * i < z'.words
word_within z z' i e wide within = subst (λ (q : TableId). 16 * i < q.words) e (omega arith)

-- the flag beside a slot is a word of the table
pub flag_within : (z z' : TableId) (i : ℕ) → z ≡ z' → z.words ≡ 16 * z.slots → i < z.slots → 16 * i + 1 < z'.words
flag_within z z' i e wide within = subst (λ (q : TableId). 16 * i + 1 < q.words) e (omega arith)

-- what stands in the slots of a new table
pub map_some_at : {A : Type 0} (xs : List A) (r : ℕ) (y : A) → get_elem? (map some xs) r ≡ some (some y) → (r < length xs) × (get_or xs r y ≡ y)
map_some_at [] r y e = absurd (some-ne-none (some y) (sym e))
map_some_at (x ∷ xs) zero y e = (omega arith, some-injective x y (some-injective (some x) (some y) e))
map_some_at (x ∷ xs) (suc r) y e = let t = map_some_at xs r y e in (omega (arith, t.0), t.1)

length-map_some : {A : Type 0} (xs : List A) → length (map some xs) ≡ length xs
length-map_some [] = refl
length-map_some (x ∷ xs) = ap suc (length-map_some xs)

-- a compare and exchange that writes what it expects changes nothing
either_same : (n k : ℕ) → either (eqb n k) k n ≡ n
either_same n k = exchanged n k k (λ z. z ≡ n) sym (λ _. refl)

pub each_map : {A : Type 0} (P Q : A → Type 0) (xs : List A) → ((x : A) → P x → Q x) → Each P xs → Each Q xs
each_map P Q [] f h = tt
each_map P Q (x ∷ xs) f h = (f x h.0, each_map P Q xs f h.1)

pub each_append : {A : Type 0} (P : A → Type 0) (xs ys : List A) → Each P xs → Each P ys → Each P (xs ++ ys)
each_append P [] ys hx hy = hy
each_append P (x ∷ xs) ys hx hy = (hx.0, each_append P xs ys hx.1 hy)

pub each_of_map : {A B : Type 0} (f : A → B) (P : B → Type 0) (xs : List A) → Each (λ x. P (f x)) xs → Each P (map f xs)
each_of_map f P [] h = tt
each_of_map f P (x ∷ xs) h = (h.0, each_of_map f P xs h.1)

-- what holds of each pair of the values of items
pub line_of_items : {T : Type 0} (extends : T → T → Type 0) (xs : List (Item T)) → InLine (λ a b. extends a.value b.value) xs → InLine extends (map value_of xs)
line_of_items extends xs h = each_of_map value_of (λ x. Each (λ y. extends x y ⊎ extends y x) (map value_of xs)) xs
    (each_map (λ a. Each (λ b. extends a.value b.value ⊎ extends b.value a.value) xs) (λ a. Each (λ y. extends a.value y ⊎ extends y a.value) (map value_of xs)) xs
    (λ a t. each_of_map value_of (λ y. extends a.value y ⊎ extends y a.value) xs t) h)

-- the values of a list of items that begins with one
pub begins_value : {T : Type 0} (xs : List (Item T)) (x : Item T) → xs ≡ x ∷ drop 1 xs → map value_of xs ≡ x.value ∷ drop 1 (map value_of xs)
begins_value xs x e = ap (map value_of) e ∙ ap (λ z. x.value ∷ z) (sym (drop-map value_of 1 xs))

-- what a seat has that took a slot, after steps that found it taken
pub has_locked : {T : Type 0} (m m' m0 : Me (Item T) (Knowledge T)) (r : ℕ) (y : Item T) → m' ≡ (record m.0 { found = Some y; slot = r + 1 }, (r, y) ∷ m.1) → m ≡ m0 → m0.1 ≡ []
    → (x : Item T) × (m' ≡ (record m0.0 { found = Some x; slot = r + 1 }, (r, x) ∷ []))
has_locked {T} m m' m0 r y is same free = (
  y,
  is ∙ (ap (λ (z : Me (Item T) (Knowledge T)). (record z.0 { found = Some y; slot = r + 1 }, (r, y) ∷ z.1)) same ∙ ap (λ (c : List (ℕ × Item T)). (record m0.0 { found = Some y; slot = r + 1 }, (r, y) ∷ c)) free),
)

module _ {T : Type 0} (extends : T → T → Type 0) where
  abbrev St : Type 0
  St = State (Item T) (Knowledge T)

  abbrev Sat : Type 0
  Sat = Me (Item T) (Knowledge T)

  abbrev Home : Type 0
  Home = maybe.Option (Item T)

  -- the state with these words, slots and views
  abbrev laid : List ℕ → List Home → List (Knowledge T) → St
  laid ws hs vs = record { words = ws; homes = hs; views = vs }

  -- the seat id goes from v to w
  moved : (chain chain' : List T) (s : St) (id : ℕ) (v w : Knowledge T) (words' : List ℕ) (homes' : List Home)
      → Rules extends chain s → seated s.views id v → IsGrowing extends chain' → length words' ≡ 16 * length homes'
      → ((r : ℕ) → r < length homes' → get_or words' (16 * r) 0 ≡ 0 → (y : Item T) × (get_elem? homes' r ≡ some (some y)) × On chain' y)
      → Fits chain' words' w
      → ((i : ℕ) (u : Knowledge T) → i ≢ id → seated s.views i u → Fits chain' words' u)
      → ((i : ℕ) (u : Knowledge T) → i ≢ id → seated s.views i u → 0 < w.slot → w.slot ≡ u.slot → ⊥)
      → (w.sets ≡ true → v.sets ≡ true)
      → Rules extends chain' (laid words' homes' (set s.views id w))
  moved chain chain' s id v w words' homes' k at grows wide home fits others clash setting =
      let At : ℕ → Knowledge T → Type 0 = seated (set s.views id w) in
      let back : (j : ℕ) (u : Knowledge T) → At j u → u.sets ≡ true → (x : Knowledge T) × seated s.views j x × (x.sets ≡ true) = λ j u e on. ⊎_elim
      (λ (t : (j ≡ id) × (w ≡ u)). (v, subst (λ (z : ℕ). seated s.views z v) (sym t.0) at, setting (ap (λ (x : Knowledge T). x.sets) t.1 ∙ on)))
      (λ (t : (j ≢ id) × seated s.views j u). (u, t.1, on)) (at_set s.views id j w u e) in
      record {
        grows = grows;
        wide = wide;
        home = home;
        each = λ i u e. ⊎_elim (λ (t : (i ≡ id) × (w ≡ u)). subst (Fits chain' words') t.1 fits) (λ (t : (i ≢ id) × seated s.views i u). others i u t.0 t.1) (at_set s.views id i w u e);
        own = λ i j a b ea eb pos same. ⊎_elim
            (λ (x : (i ≡ id) × (w ≡ a)). let ws : w.slot ≡ a.slot = ap (λ (z : Knowledge T). z.slot) x.1 in ⊎_elim
            (λ (y : (j ≡ id) × (w ≡ b)). x.0 ∙ sym y.0)
            (λ (y : (j ≢ id) × seated s.views j b). absurd (clash j b y.0 y.1 (subst (λ (z : ℕ). 0 < z) (sym ws) pos) (ws ∙ same))) (at_set s.views id j w b eb))
            (λ (x : (i ≢ id) × seated s.views i a). ⊎_elim
            (λ (y : (j ≡ id) × (w ≡ b)). let ws : w.slot ≡ b.slot = ap (λ (z : Knowledge T). z.slot) y.1 in
            absurd (clash i a x.0 x.1 (subst (λ (z : ℕ). 0 < z) (same ∙ sym ws) pos) (ws ∙ sym same)))
            (λ (y : (j ≢ id) × seated s.views j b). k.own i j a b x.1 y.1 pos same) (at_set s.views id j w b eb)) (at_set s.views id i w a ea);
        one = λ i j a b ea eb on on'. let x = back i a ea on in let y = back j b eb on' in k.one i j x.0 y.0 x.1 y.1 x.2 y.2;
      }

  -- a word that was written is read, and the others stay
  at_word : (s : St) (chain : List T) (r z : ℕ) → Rules extends chain s → r < length s.homes → get_or (set s.words (16 * r) z) (16 * r) 0 ≡ z
  at_word s chain r z k within = let wide = k.wide in get_or-set_same s.words (16 * r) z 0 (omega arith)

  else_word : (s : St) (r r' z : ℕ) → r' ≢ r → get_or (set s.words (16 * r) z) (16 * r') 0 ≡ get_or s.words (16 * r') 0
  else_word s r r' z ne = get_or-set_other s.words (16 * r) (16 * r') z 0 (λ e. ne (omega arith))

  -- a step that finds nothing to do
  idles : (s : St) (chain : List T) (i n id : ℕ) (v : Knowledge T) → Rules extends chain s → seated s.views id v → n ≡ get_or s.words i 0
      → Kept extends (laid (set s.words i n) s.homes (set s.views id v))
  idles s chain i n id v k at e = (
    chain,
    subst (λ (ws : List ℕ). Rules extends chain (laid ws s.homes (set s.views id v))) (sym (ap (λ (z : ℕ). set s.words i z) e ∙ set-get_or s.words i 0))
        (subst (λ (vs : List (Knowledge T)). Rules extends chain (laid s.words s.homes vs)) (sym (set_again s.views id v at)) k),
  )

  pub locks : (slots id r : ℕ) (me : Sat) → r < slots → Allows (Kept extends) slots id me (16 * r) (λ n. either (eqb n 0) 1 n) (locked (step slots (16 * r) 0 1 none) me)
  locks slots id r me within s kept len at lt =
      let v : Knowledge T = me.0 in let n : ℕ = get_or s.words (16 * r) 0 in let chain = kept.0 in let k = kept.1 in let h = k.each id v at in
      let inside : r < length s.homes = omega arith in
      exchanged n 0 1 (λ (z : ℕ). (w : Knowledge T) × (a : Act (Item T)) × Valid s.homes me.1 a
      × Kept extends (laid (set s.words (16 * r) z) (homes_after s.homes me.1 a) (set s.views id w))
      × locked (step slots (16 * r) 0 1 none) me n (w, carried_after me.1 a))
      (λ free. let found = k.home r inside free in let y : Item T = found.0 in let w : Knowledge T = record v { found = Some y; slot = r + 1 } in
      let words' : List ℕ = set s.words (16 * r) 1 in let homes' : List Home = set s.homes r none in let here = at_word s chain r 1 k inside in
      let has : (u : Knowledge T) → ((r' : ℕ) → u.slot ≡ r' + 1 → r' ≢ r → get_or s.words (16 * r') 0 ≢ 0) → (r' : ℕ) → u.slot ≡ r' + 1 → get_or words' (16 * r') 0 ≢ 0 =
      λ u old r' e. dite (ℕ_discrete r' r) (λ same z. let one : get_or words' (16 * r') 0 ≡ 1 = ap (λ (q : ℕ). get_or words' (16 * q) 0) same ∙ here in absurd (omega arith))
      (λ ne z. old r' e ne (sym (else_word s r r' 1 ne) ∙ z)) in
      let longs = length-set s.words (16 * r) 1 in let longs' = length-set s.homes r none in let wide = k.wide in (
        w,
        takes r y,
        found.1,
        (
          chain,
          moved chain chain s id v w words' homes' k at k.grows (omega arith)
              (λ r' lt' z. dite (ℕ_discrete r' r)
              (λ same. let one : get_or words' (16 * r') 0 ≡ 1 = ap (λ (q : ℕ). get_or words' (16 * q) 0) same ∙ here in absurd (omega arith))
              (λ ne. let t = k.home r' (omega arith) (sym (else_word s r r' 1 ne) ∙ z) in (t.0, set_else s.homes r r' none ne ∙ t.1, t.2)))
              (record {
                knows = h.knows;
                mine = h.mine;
                found = λ y' e. subst (On chain) (some_one y y' e) found.2;
                has = has w (λ r' e ne. absurd (ne (omega arith)));
                all = h.all;
              })
              (λ i u ne e. let g = k.each i u e in record { knows = g.knows; mine = g.mine; found = g.found; has = has u (λ r' e' _. g.has r' e'); all = g.all })
              (λ i u ne e pos same. (k.each i u e).has r (sym same) free)
              (λ on. on),
        ),
        ((λ _ r' e. let q : r ≡ r' = omega arith in subst (λ (z : ℕ). (x : Item T) × ◌≡◌ {A = Sat} (w, (r, y) ∷ me.1) (record v { found = Some x; slot = z + 1 }, (z, x) ∷ me.1)) q (y, refl)), (λ no. absurd (no free))),
      ))
      (λ busy. (v, keeps, tt, idles s chain (16 * r) n id v k at refl, ((λ free. absurd (busy free)), (λ _. refl))))

  -- a word beside those of the slots is written or read
  pub flags : (slots id r : ℕ) (f : ℕ → ℕ) (me : Sat) → r < slots → Allows (Kept extends) slots id me (16 * r + 1) f (λ _ m'. m' ≡ me)
  flags slots id r f me within s kept len at lt =
      let v : Knowledge T = me.0 in let chain = kept.0 in let k = kept.1 in let z : ℕ = f (get_or s.words (16 * r + 1) 0) in let words' : List ℕ = set s.words (16 * r + 1) z in
      let else' : (r' : ℕ) → get_or words' (16 * r') 0 ≡ get_or s.words (16 * r') 0 = λ r'. get_or-set_other s.words (16 * r + 1) (16 * r') z 0 (λ e. omega arith) in
      let longs = length-set s.words (16 * r + 1) z in let wide = k.wide in
      let fits : (i : ℕ) (u : Knowledge T) → seated s.views i u → Fits chain words' u = λ i u e. let g = k.each i u e in
      record { knows = g.knows; mine = g.mine; found = g.found; has = λ r' e' q. g.has r' e' (sym (else' r') ∙ q); all = g.all } in (
        v,
        keeps,
        tt,
        (
          chain,
          moved chain chain s id v v words' s.homes k at k.grows (omega arith)
              (λ r' lt' q. k.home r' lt' (sym (else' r') ∙ q))
              (fits id v at) (λ i u ne e. fits i u e)
              (λ i u ne e pos same. ne (sym (k.own id i v u at e pos same)))
              (λ on. on),
        ),
        refl,
      )

  -- the slot r is given back with y, which the seat found there or has
  puts : (slots id r : ℕ) (v : Knowledge T) (y : Item T) (mine : Option (Item T)) (me : Sat) → me ≡ (v, (r, y) ∷ []) → v.slot ≡ r + 1 → r < slots
      → ((v.found ≡ Some y) ⊎ (v.mine ≡ Some y)) → ((mine ≡ v.mine) ⊎ (mine ≡ v.found))
      → Allows (Kept extends) slots id me (16 * r) (λ _. 0) (λ _ m'. m' ≡ (record me.0 { slot = 0; mine = mine }, rest me.1))
  puts slots id r v y mine me is out within known kind = subst (λ (z : Sat). Allows (Kept extends) slots id z (16 * r) (λ _. 0) (λ _ m'. m' ≡ (record z.0 { slot = 0; mine = mine }, rest z.1))) (sym is)
      (λ s kept len at lt.
      let chain = kept.0 in let k = kept.1 in let h = k.each id v at in let inside : r < length s.homes = omega arith in
      let w : Knowledge T = record v { slot = 0; mine = mine } in let words' : List ℕ = set s.words (16 * r) 0 in let homes' : List Home = set s.homes r (some y) in
      let on : On chain y = ⊎_elim (h.found y) (h.mine y) known in
      let longs = length-set s.words (16 * r) 0 in let longs' = length-set s.homes r (some y) in let wide = k.wide in (
        w,
        gives,
        tt,
        (
          chain,
          moved chain chain s id v w words' homes' k at k.grows (omega arith)
              (λ r' lt' z. dite (ℕ_discrete r' r)
              (λ same. (y, ap (get_elem? homes') same ∙ set_here s.homes r (some y) inside, on))
              (λ ne. let t = k.home r' (omega arith) (sym (else_word s r r' 0 ne) ∙ z) in (t.0, set_else s.homes r r' (some y) ne ∙ t.1, t.2)))
              (record {
                knows = h.knows;
                mine = λ x e. ⊎_elim (λ (q : mine ≡ v.mine). h.mine x (sym q ∙ e)) (λ (q : mine ≡ v.found). h.found x (sym q ∙ e)) kind;
                found = h.found;
                has = λ r' e. absurd (omega arith);
                all = h.all;
              })
              (λ i u ne e. let g = k.each i u e in record {
                knows = g.knows;
                mine = g.mine;
                found = g.found;
                has = λ r' e' z. dite (ℕ_discrete r' r)
                    (λ same. ne (k.own i id u v e at (omega arith) (e' ∙ (ap (λ (q : ℕ). q + 1) same ∙ sym out))))
                    (λ other. g.has r' e' (sym (else_word s r r' 0 other) ∙ z));
                all = g.all;
              })
              (λ i u ne e pos same. absurd (omega arith))
              (λ z. z),
        ),
        refl,
      ))

  pub frees : (slots id r : ℕ) (v : Knowledge T) (y : Item T) (me : Sat) → me ≡ (v, (r, y) ∷ []) → v.slot ≡ r + 1 → r < slots → ((v.found ≡ Some y) ⊎ (v.mine ≡ Some y))
      → Allows (Kept extends) slots id me (16 * r) (λ _. 0) (λ _. freed (step slots (16 * r) 0 0 none) me 0)
  frees slots id r v y me is out within known = puts slots id r v y me.0.mine me is out within known (inl (ap (λ (m : Sat). m.0.mine) is))

  pub swaps : (slots id r : ℕ) (v : Knowledge T) (y : Item T) (me : Sat) → me ≡ (v, (r, y) ∷ []) → v.slot ≡ r + 1 → r < slots → ((v.found ≡ Some y) ⊎ (v.mine ≡ Some y))
      → Allows (Kept extends) slots id me (16 * r) (λ _. 0) (λ _. swapped (step slots (16 * r) 0 0 none) me 0)
  swaps slots id r v y me is out within known = puts slots id r v y me.0.found me is out within known (inr (ap (λ (m : Sat). m.0.found) is))

  -- a step that leaves the words and the slots
  stands : (s : St) (chain : List T) (i id : ℕ) (v w : Knowledge T) → Rules extends chain s → seated s.views id v → Fits chain s.words w → w.slot ≡ v.slot → (w.sets ≡ true → v.sets ≡ true)
      → Rules extends chain (laid s.words s.homes (set s.views id w))
  stands s chain i id v w k at fits slot setting = moved chain chain s id v w s.words s.homes k at k.grows k.wide k.home fits (λ j u ne e. k.each j u e)
      (λ j u ne e pos same. ne (sym (k.own id j v u at e (subst (λ (z : ℕ). 0 < z) slot pos) (sym slot ∙ same)))) setting

  pub looks : (slots id i : ℕ) (me : Sat) (x : Item T) → me.0.mine ≡ Some x → me.0.most ≤ x.number
      → Allows (Kept extends) slots id me i (λ n. n) (looked extends (step slots i 0 0 none) me)
  looks slots id i me x has up s kept len at lt =
      let v : Knowledge T = me.0 in let chain = kept.0 in let k = kept.1 in let h = k.each id v at in let on : On chain x = h.mine x has in
      let w : Knowledge T = record v { known = x ∷ v.known; most = x.number } in (
        w,
        keeps,
        tt,
        (
          chain,
          subst (λ (ws : List ℕ). Rules extends chain (laid ws s.homes (set s.views id w))) (sym (set-get_or s.words i 0)) (stands s chain i id v w k at
              (record {
                knows = ((on, le_refl x.number), each_map (λ (q : Item T). On chain q × (q.number ≤ v.most)) (λ (q : Item T). On chain q × (q.number ≤ x.number)) v.known (λ q t. let low = t.1 in (t.0, omega arith)) h.knows);
                mine = h.mine;
                found = h.found;
                has = h.has;
                all = h.all;
              }) refl (λ z. z)),
        ),
        (λ x' e. subst (λ (z : Item T). Each (λ q. extends z.value q.value) v.known × ◌≡◌ {A = Sat} (w, me.1) (record v { known = z ∷ v.known; most = z.number }, me.1)) (some_one x x' (sym has ∙ e))
            (each_map (λ (q : Item T). On chain q × (q.number ≤ v.most)) (λ (q : Item T). extends x.value q.value) v.known (λ q t. let low = t.1 in k.grows q.number x.number q.value x.value (omega arith) t.0 on) h.knows, refl)),
      )

  -- of two on the chain the one with the greater number extends the other
  in_line : (chain : List T) (a b : Item T) → IsGrowing extends chain → On chain a → On chain b → extends a.value b.value ⊎ extends b.value a.value
  in_line chain a b grows ona onb = ⊎_elim
      (λ (lt : a.number < b.number). inr (grows a.number b.number a.value b.value (omega arith) ona onb))
      (λ (le : b.number ≤ a.number). inl (grows b.number a.number b.value a.value le onb ona)) (cases_lt a.number b.number)

  pub lines : (slots id i : ℕ) (me : Sat) → Allows (Kept extends) slots id me i (λ n. n) (lined extends (step slots i 0 0 none) me)
  lines slots id i me s kept len at lt =
      let v : Knowledge T = me.0 in let chain = kept.0 in let k = kept.1 in let h = k.each id v at in
      let known = each_map (λ (q : Item T). On chain q × (q.number ≤ v.most)) (On chain) v.known (λ q t. t.0) h.knows in (
        v,
        keeps,
        tt,
        (
          chain,
          subst (λ (ws : List ℕ). Rules extends chain (laid ws s.homes (set s.views id v))) (sym (set-get_or s.words i 0)) (stands s chain i id v v k at h refl (λ z. z)),
        ),
        (
          refl,
          each_map (On chain) (λ a. Each (λ b. extends a.value b.value ⊎ extends b.value a.value) v.known) v.known
              (λ a ona. each_map (On chain) (λ b. extends a.value b.value ⊎ extends b.value a.value) v.known (λ b onb. in_line chain a b k.grows ona onb) known) known,
        ),
      )

  pub tells : (id : ℕ) (v : Knowledge T) → Splits (Kept extends) id v v (follower v)
  tells id v s kept at =
      let chain = kept.0 in let k = kept.1 in let h = k.each id v at in let n : Knowledge T = follower v in (
        chain,
        subst (λ (vs : List (Knowledge T)). Rules extends chain (laid s.words s.homes (vs ++ n ∷ []))) (sym (set_again s.views id v at)) (record {
          grows = k.grows;
          wide = k.wide;
          home = k.home;
          each = λ i u e. ⊎_elim (k.each i u) (λ (t : (i ≡ length s.views) × (n ≡ u)). subst (Fits chain s.words) t.1 (record {
            knows = h.knows;
            mine = h.mine;
            found = λ y z. absurd (none_some y z);
            has = λ r z. absurd (omega arith);
            all = λ z. absurd (false≢true z);
          })) (at_end s.views n u i e);
          own = λ i j a b ea eb pos same. ⊎_elim
              (λ (x : seated s.views i a). ⊎_elim (λ (y : seated s.views j b). k.own i j a b x y pos same)
              (λ (y : (j ≡ length s.views) × (n ≡ b)). let z : 0 ≡ b.slot = ap (λ (q : Knowledge T). q.slot) y.1 in absurd (omega arith)) (at_end s.views n b j eb))
              (λ (x : (i ≡ length s.views) × (n ≡ a)). let z : 0 ≡ a.slot = ap (λ (q : Knowledge T). q.slot) x.1 in absurd (omega arith)) (at_end s.views n a i ea);
          one = λ i j a b ea eb on on'. ⊎_elim
              (λ (x : seated s.views i a). ⊎_elim (λ (y : seated s.views j b). k.one i j a b x y on on')
              (λ (y : (j ≡ length s.views) × (n ≡ b)). absurd (false≢true (ap (λ (q : Knowledge T). q.sets) y.1 ∙ on'))) (at_end s.views n b j eb))
              (λ (x : (i ≡ length s.views) × (n ≡ a)). absurd (false≢true (ap (λ (q : Knowledge T). q.sets) x.1 ∙ on))) (at_end s.views n a i ea);
        }),
      )

  learns_as : (id other : ℕ) (v w : Knowledge T) (mine : Option (Item T)) → ((mine ≡ v.mine) ⊎ (mine ≡ w.mine)) → Joins (Kept extends) id v other w (record (learnt v w) { mine = mine }) spent
  learns_as id other v w mine kind s kept at apart there =
      let chain = kept.0 in let k = kept.1 in let h = k.each id v at in let both : Knowledge T = record (learnt v w) { mine = mine } in
      let there' : seated s.views other w = ⊎_elim (λ (t : (other ≡ id) × (both ≡ w)). absurd (apart t.0)) (λ (t : (other ≢ id) × seated s.views other w). t.1) (at_set s.views id other both w there) in
      let g = k.each other w there' in let m : ℕ = max v.most w.most in
      let up : (x : Knowledge T) → x.most ≤ m → Each (λ q. On chain q × (q.number ≤ x.most)) x.known → Each (λ q. On chain q × (q.number ≤ m)) x.known =
      λ x le. each_map (λ (q : Item T). On chain q × (q.number ≤ x.most)) (λ (q : Item T). On chain q × (q.number ≤ m)) x.known (λ q t. let low = t.1 in (t.0, omega arith)) in
      let first = stands s chain 0 id v both k at (record {
        knows = each_append (λ (q : Item T). On chain q × (q.number ≤ m)) w.known v.known (up w (omega arith) g.knows) (up v (omega arith) h.knows);
        mine = λ x e. ⊎_elim (λ (q : mine ≡ v.mine). h.mine x (sym q ∙ e)) (λ (q : mine ≡ w.mine). g.mine x (sym q ∙ e)) kind;
        found = h.found;
        has = h.has;
        all = h.all;
      }) refl (λ z. z) in
      let s' : St = laid s.words s.homes (set s.views id both) in (
        chain,
        moved chain chain s' other w spent s.words s.homes first there k.grows k.wide k.home
            (record { knows = tt; mine = λ y z. absurd (none_some y z); found = λ y z. absurd (none_some y z); has = λ r z. absurd (omega arith); all = λ z. absurd (false≢true z) })
            (λ j u ne e. first.each j u e) (λ j u ne e pos same. absurd (omega arith)) (λ z. absurd (false≢true z)),
      )

  pub learns : (id other : ℕ) (v w : Knowledge T) → Joins (Kept extends) id v other w (learnt v w) spent
  learns id other v w = learns_as id other v w v.mine (inl refl)

  pub renews : (id other : ℕ) (v w : Knowledge T) → Joins (Kept extends) id v other w (renewed v w) spent
  renews id other v w = learns_as id other v w w.mine (inr refl)

  module _ (reflexive : (x : T) → extends x x) where
    pub opens : (first : T) (words : List ℕ) (xs : List (Item T)) → length words ≡ 16 * length xs → ((r : ℕ) (y : Item T) → get_elem? (map some xs) r ≡ some (some y) → y ≡ item first 0)
        → Kept extends (opening words xs (setter first))
    opens first words xs wide all =
        let chain : List T = first ∷ [] in let v : Knowledge T = setter first in let only : (i : ℕ) (u : Knowledge T) → seated (v ∷ []) i u → (i ≡ 0) × (v ≡ u) = the_only v in (
          chain,
          record {
            grows = λ i j x y le ei ej. subst (λ (z : T). extends z x) (the_only first j y ej).1 (subst (extends first) (the_only first i x ei).1 (reflexive first));
            wide = wide ∙ ap (λ (n : ℕ). 16 * n) (sym (length-map_some xs));
            home = λ r lt z. let t = some_there xs r (subst (λ (n : ℕ). r < n) (length-map_some xs) lt) in
                (t.0, t.1, subst (On chain) (sym (all r t.0 t.1)) refl);
            each = λ i u e. subst (Fits chain words) (only i u e).1 (record {
              knows = ((refl, le_refl 0), tt);
              mine = λ y e'. subst (On chain) (some_one (item first 0) y e') refl;
              found = λ y z. absurd (none_some y z);
              has = λ r z. absurd (omega arith);
              all = λ _. refl;
            });
            own = λ i j a b ea eb pos same. (only i a ea).0 ∙ sym (only j b eb).0;
            one = λ i j a b ea eb on on'. (only i a ea).0 ∙ sym (only j b eb).0;
          },
        )

    module _ (transitive : (x y z : T) → extends x y → extends y z → extends x z) where
      -- one more value, which extends the last
      longer : (chain : List T) (last next : T) (n : ℕ) → length chain ≡ n + 1 → get_elem? chain n ≡ some last → extends next last → IsGrowing extends chain → IsGrowing extends (chain ++ next ∷ [])
      longer chain last next n len at more grows i j x y le ei ej = ⊎_elim
          (λ (a : get_elem? chain i ≡ some x). let within = at_within chain i x a in ⊎_elim
          (λ (b : get_elem? chain j ≡ some y). grows i j x y le a b)
          (λ (b : (j ≡ length chain) × (next ≡ y)). subst (λ (z : T). extends z x) b.1 (transitive next last x more (grows i n x last (omega arith) a at))) (at_end chain next y j ej))
          (λ (a : (i ≡ length chain) × (next ≡ x)). ⊎_elim
          (λ (b : get_elem? chain j ≡ some y). let within = at_within chain j y b in let z = a.0 in absurd (omega arith))
          (λ (b : (j ≡ length chain) × (next ≡ y)). subst (λ (z : T). extends z x) b.1 (subst (extends next) a.1 (reflexive next))) (at_end chain next y j ej)) (at_end chain next x i ei)

      pub appends : (slots id : ℕ) (me : Sat) (last next : Item T) → me.0.sets ≡ true → me.0.mine ≡ Some last → me.0.most ≡ last.number → length me.0.chain ≡ last.number + 1
          → next.number ≡ last.number + 1 → extends next.value last.value
          → Allows (Kept extends) slots id me 0 (λ n. either (eqb n 2) 2 n) (appended extends (step slots 0 2 2 (some next)) me)
      appends slots id me last next on has most count number more s kept len at lt =
          let v : Knowledge T = me.0 in let chain : List T = v.chain in let k : Rules extends chain s = subst (λ (z : List T). Rules extends z s) (sym ((kept.1.each id v at).all on)) kept.1 in
          let h = k.each id v at in let chain' : List T = chain ++ next.value ∷ [] in
          let w : Knowledge T = record v { known = next ∷ v.known; most = next.number; mine = Some next; chain = chain' } in
          let stay : (x : Item T) → On chain x → On chain' x = λ x e. at_longer chain (next.value ∷ []) x.number x.value e in
          let here : On chain' next = at_last chain next.value next.number (count ∙ sym number) in
          let up : (m : ℕ) (xs : List (Item T)) → m ≤ next.number → Each (λ q. On chain q × (q.number ≤ m)) xs → Each (λ q. On chain' q × (q.number ≤ next.number)) xs =
          λ m xs le. each_map (λ (q : Item T). On chain q × (q.number ≤ m)) (λ (q : Item T). On chain' q × (q.number ≤ next.number)) xs (λ q t. let low = t.1 in (stay q t.0, omega arith)) in
          let n : ℕ = get_or s.words 0 0 in (
            w,
            keeps,
            tt,
            (
              chain',
              subst (λ (ws : List ℕ). Rules extends chain' (laid ws s.homes (set s.views id w))) (sym (ap (set s.words 0) (either_same n 2) ∙ set-get_or s.words 0 0))
                  (moved chain chain' s id v w s.words s.homes k at (longer chain last.value next.value last.number count (h.mine last has) more k.grows) k.wide
                  (λ r lt' z. let t = k.home r lt' z in (t.0, t.1, stay t.0 t.2))
                  (record {
                    knows = ((here, le_refl next.number), up v.most v.known (omega arith) h.knows);
                    mine = λ y e. subst (On chain') (some_one next y e) here;
                    found = λ y e. stay y (h.found y e);
                    has = h.has;
                    all = λ _. refl;
                  })
                  (λ i u ne e. let g = k.each i u e in record {
                    knows = each_map (λ (q : Item T). On chain q × (q.number ≤ u.most)) (λ (q : Item T). On chain' q × (q.number ≤ u.most)) u.known (λ q t. (stay q t.0, t.1)) g.knows;
                    mine = λ y e'. stay y (g.mine y e');
                    found = λ y e'. stay y (g.found y e');
                    has = g.has;
                    all = λ on'. absurd (ne (k.one i id u v e at on' on));
                  })
                  (λ i u ne e pos same. ne (sym (k.own id i v u at e pos same))) (λ z. z)),
            ),
            (λ x e. subst (λ (z : Item T). Each (λ q. extends z.value q.value) v.known × ◌≡◌ {A = Sat} (w, me.1) (record v { known = z ∷ v.known; most = z.number; mine = Some z; chain = chain ++ z.value ∷ [] }, me.1)) (some-injective next x e) (
              each_map (λ (q : Item T). On chain q × (q.number ≤ v.most)) (λ (q : Item T). extends next.value q.value) v.known
                  (λ q t. let low = t.1 in transitive next.value last.value q.value more (k.grows q.number last.number q.value last.value (omega arith) t.0 (h.mine last has))) h.knows,
              refl,
            )),
          )
