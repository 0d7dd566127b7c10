-- Each kind of step on the table of a shared repository keeps its rule.
use Rattle.std.proofs.Common.{◌≡◌, ◌≢◌, ◌⊎◌, ℕ, zero, suc, ◌+◌, ◌-◌, ◌%◌, ◌^◌, ◌≤◌, true, false, eqb, Option, Some, List, [], ◌∷◌, ◌++◌, length, get_or, set, sym, refl, ap, ◌∙◌, subst, inl, inr, ⊎_elim, arith}
use Rattle.std.proofs.lemmas.Bool.{false≢true}
use Rattle.std.proofs.lemmas.List.{length-append}
use mathlib.Core.Option.{some, none, some-injective, some-ne-none}
use mathlib.Core.Option as maybe
use lib.ListN.{get_elem?}
use prog.Atomic.{either}
use Rattle.atomic_table.specs.Table.{Me, Act, takes, gives, keeps, step, opening, rest, Valid, homes_after, carried_after, Allows, Splits, Joins}
use Rattle.atomic_table.proofs.Lists.{at_set, exchanged}
use Rattle.key_elements.specs.declared.list.TheConstants.{MAX_ELEMENTS}
use Rattle.repo_shared.specs.declared.shelf.Shelf.{Shelf}
use Rattle.repo_shared.specs.declared.board.Entry.{Entry}
use Rattle.repo_shared.specs.declared.board.Knowledge.{Knowledge}
use Rattle.repo_shared.specs.Rule.{Each, StartsWith, Fits, Lies, Rules, Kept, seated, elements, authored, opener}
use Rattle.repo_shared.specs.Steps.{locked, grown, appended, counted, unlocked, counts_on, made, teller, learnt, spent, gained, last_authored}
use Rattle.repo_shared.proofs.Fronts.{starts_whole, starts_length, starts_self, starts_trans, starts_append, longer_is, each_front, each_append, elements_authored, elements_last_authored, elements_gained, length_gained}

-- what stands at a place of a list with one more at its end
at_end : {A : Type 0} (l : List A) (a b : A) (j : ℕ) → get_elem? (l ++ a ∷ []) j ≡ some b → (get_elem? l j ≡ some b) ⊎ ((j ≡ length l) × (a ≡ b))
at_end [] a b zero e = inr (refl, some-injective a b e)
at_end [] a b (suc j) e = absurd (some-ne-none b (sym e))
at_end (x ∷ xs) a b zero e = inl e
at_end (x ∷ xs) a b (suc j) e = ⊎_elim inl (λ t. inr (ap suc t.0, t.1)) (at_end xs a b j e)

the_only : {A : Type 0} (a : A) (i : ℕ) (b : A) → get_elem? (a ∷ []) i ≡ some b → (i ≡ 0) × (a ≡ b)
the_only a zero b e = (refl, some-injective a b e)
the_only a (suc i) b e = absurd (some-ne-none b (sym e))

-- the slot that was taken last, before the others
pub front : {S : Type 0} (c r : List (ℕ × S)) (a : ℕ × S) → c ≡ a ∷ r → c ≡ a ∷ rest c
front c r a e = e ∙ ap (λ (l : List (ℕ × _)). a ∷ rest l) (sym e)

abbrev Sat : Type 0 → Type 0
Sat K = Me (Option (Shelf K)) Knowledge

abbrev Home : Type 0 → Type 0
Home K = maybe.Option (Option (Shelf K))

-- a seat's step, on the words and the slot as they are
abbrev Goes : {K : Type 0} → ℕ → Sat K → ℕ → (ℕ → ℕ) → (ℕ → Sat K → Type 0) → List ℕ → List (Home K) → List Knowledge → Type 0
Goes {K} id me i f then ws hs views =
    (w : Knowledge) × (a : Act (Option (Shelf K))) × Valid hs me.1 a
    × Kept (record { words = set ws i (f (get_or ws i 0)); homes = homes_after hs me.1 a; views = set views id w })
    × then (get_or ws i 0) (w, carried_after me.1 a)

allows : {K : Type 0} (slots id : ℕ) (me : Sat K) (i : ℕ) (f : ℕ → ℕ) (then : ℕ → Sat K → Type 0)
    → ((lock : ℕ) (history : List Entry) (home : Home K) (views : List Knowledge) → Rules history lock home (seated views) → seated views id me.0
    → Goes id me i f then (lock ∷ length history ∷ []) (home ∷ []) views)
    → Allows Kept slots id me i f then
allows {K} slots id me i f then goes s kept len at lt =
    subst (λ (ws : List ℕ). Goes id me i f then ws s.homes s.views) (sym kept.3)
    (subst (λ (hs : List (Home K)). Goes id me i f then (kept.0 ∷ length kept.1 ∷ []) hs s.views) (sym kept.4) (goes kept.0 kept.1 kept.2 s.views kept.5 at))

-- the seat id goes from v to w
moved : {K : Type 0} (history history' : List Entry) (lock lock' : ℕ) (home home' : Home K) (views : List Knowledge) (id : ℕ) (w : Knowledge)
    → Rules history lock home (seated views) → length history' ≤ MAX_ELEMENTS → Lies history' lock' home' → Fits history' lock' w
    → ((i : ℕ) (u : Knowledge) → i ≢ id → seated views i u → Fits history' lock' u)
    → (w.locks ≡ true → (i : ℕ) (u : Knowledge) → i ≢ id → seated views i u → u.locks ≡ true → ⊥)
    → Rules history' lock' home' (seated (set views id w))
moved history history' lock lock' home home' views id w r few lies fits others alone = record {
  few = few;
  lies = lies;
  each = λ i u e. ⊎_elim (λ (t : (i ≡ id) × (w ≡ u)). subst (Fits history' lock') t.1 fits) (λ (t : (i ≢ id) × seated views i u). others i u t.0 t.1) (at_set views id i w u e);
  one = λ i j a b ea eb on on'. ⊎_elim
      (λ (x : (i ≡ id) × (w ≡ a)). ⊎_elim
      (λ (y : (j ≡ id) × (w ≡ b)). x.0 ∙ sym y.0)
      (λ (y : (j ≢ id) × seated views j b). absurd (alone (ap (λ (z : Knowledge). z.locks) x.1 ∙ on) j b y.0 y.1 on')) (at_set views id j w b eb))
      (λ (x : (i ≢ id) × seated views i a). ⊎_elim
      (λ (y : (j ≡ id) × (w ≡ b)). absurd (alone (ap (λ (z : Knowledge). z.locks) y.1 ∙ on') i a x.0 x.1 on))
      (λ (y : (j ≢ id) × seated views j b). r.one i j a b x.1 y.1 on on') (at_set views id j w b eb)) (at_set views id i w a ea);
}

-- the lock is taken, or found taken
pub locks : {K : Type 0} (slots id : ℕ) (me : Sat K) → Allows Kept slots id me 0 (λ n. either (eqb n 0) 1 n) (locked (step slots 0 0 1 none) me)
locks {K} slots id me = allows slots id me 0 (λ n. either (eqb n 0) 1 n) (locked (step slots 0 0 1 none) me) (λ lock history home views r at.
    let v : Knowledge = me.0 in let h = r.each id v at in
    exchanged lock 0 1 (λ (z : ℕ). (w : Knowledge) × (a : Act (Option (Shelf K))) × Valid (home ∷ []) me.1 a
    × Kept (record { words = z ∷ length history ∷ []; homes = homes_after (home ∷ []) me.1 a; views = set views id w })
    × locked (step slots 0 0 1 none) me lock (w, carried_after me.1 a))
    (λ free. let lie = r.lies free in let w : Knowledge = record v { list = history; locks = true } in (
      w,
      takes 0 (Some lie.0),
      ap some lie.1,
      (
        1,
        history,
        none,
        refl,
        refl,
        moved history history lock 1 home none views id w r r.few (λ z. absurd (omega arith))
            (record { front = starts_self history; told = each_front history v.list v.told h.front h.told; locks = λ _. (refl, refl) })
            (λ i u ne e. let g = r.each i u e in record { front = g.front; told = g.told; locks = λ on. let c = g.locks on in absurd (omega arith) })
            (λ _ i u ne e on. let c = (r.each i u e).locks on in absurd (omega arith)),
      ),
      ((λ _. (lie.0, history, refl, h.front, lie.2)), (λ no. absurd (no free))),
    ))
    (λ busy. (
      v,
      keeps,
      tt,
      (
        lock,
        history,
        home,
        refl,
        refl,
        moved history history lock lock home home views id v r r.few r.lies h (λ i u ne e. r.each i u e) (λ on i u ne e on'. ne (r.one i id u v e at on' on)),
      ),
      ((λ free. absurd (busy free)), (λ _. refl)),
    )))

-- the history gains what the shelf has more, by the seat that has the lock
gains : {K : Type 0} (slots id k : ℕ) (v : Knowledge) (shelf : Shelf K) (me : Sat K) (more : List Entry) (mine : List ℕ) → me ≡ (v, (0, Some shelf) ∷ []) → v.locks ≡ true
    → StartsWith shelf.list (elements v.list) → k ≡ length shelf.list - length v.list → length shelf.list ≤ MAX_ELEMENTS → length v.list ≤ length shelf.list
    → elements more ≡ gained v.list shelf.list
    → Allows Kept slots id me 1 (λ n. (n + k) % 2 ^ 64) (λ _ m'. m' ≡ (record v { list = v.list ++ more; mine = mine }, (0, Some shelf) ∷ []))
gains {K} slots id k v shelf me more mine is on starts count few short same =
    let m : Sat K = (v, (0, Some shelf) ∷ []) in let w : Knowledge = record v { list = v.list ++ more; mine = mine } in
    subst (λ (z : Sat K). Allows Kept slots id z 1 (λ n. (n + k) % 2 ^ 64) (λ _ m'. m' ≡ (w, (0, Some shelf) ∷ []))) (sym is)
    (allows slots id m 1 (λ n. (n + k) % 2 ^ 64) (λ _ m'. m' ≡ (w, (0, Some shelf) ∷ [])) (λ lock history home views r at.
    let h = r.each id v at in let has = h.locks on in let history' : List Entry = history ++ more in
    let long : length history' ≡ length history + k = length-append history more ∙ ap (λ (n : ℕ). length history + n) (length_gained v.list more shelf.list same ∙ sym count) in
    let known : length v.list ≡ length history = ap length has.1 in
    let bound : length history + k ≤ MAX_ELEMENTS = omega arith in
    let count' : (length history + k) % 2 ^ 64 ≡ length history' = omega arith in
    let none_else : (i : ℕ) (u : Knowledge) → i ≢ id → seated views i u → u.locks ≡ true → ⊥ = λ i u ne e on'. ne (r.one i id u v e at on' on) in (
      w,
      keeps,
      tt,
      (
        lock,
        history',
        home,
        ap (λ (n : ℕ). lock ∷ n ∷ []) count',
        refl,
        moved history history' lock lock home home views id w r (omega arith) (λ z. absurd (let one = has.0 in omega arith))
            (record {
              front = subst (λ (l : List Entry). StartsWith (l ++ more) (v.list ++ more)) has.1 (starts_self (v.list ++ more));
              told = each_front (v.list ++ more) v.list v.told (starts_append v.list more) h.told;
              locks = λ _. (has.0, ap (λ (l : List Entry). l ++ more) has.1);
            })
            (λ i u ne e. let g = r.each i u e in record {
              front = starts_trans history' history u.list (starts_append history more) g.front;
              told = g.told;
              locks = λ on'. absurd (none_else i u ne e on');
            })
            (λ _. none_else),
      ),
      refl,
    )))

pub grows : {K : Type 0} (slots id k : ℕ) (v : Knowledge) (shelf : Shelf K) (me : Sat K) → me ≡ (v, (0, Some shelf) ∷ []) → v.locks ≡ true
    → StartsWith shelf.list (elements v.list) → k ≡ length shelf.list - length v.list → length shelf.list ≤ MAX_ELEMENTS → length v.list ≤ length shelf.list
    → Allows Kept slots id me 1 (λ n. (n + k) % 2 ^ 64) (grown (step slots 1 k 0 none) me)
grows {K} slots id k v shelf me is on starts count few short =
    subst (λ (z : Sat K). Allows Kept slots id me 1 (λ n. (n + k) % 2 ^ 64) (grown (step slots 1 k 0 none) z)) (sym is)
    (gains slots id k v shelf me (authored 0 (gained v.list shelf.list)) v.mine is on starts count few short (elements_authored 0 (gained v.list shelf.list)))

pub appends : {K : Type 0} (slots id k : ℕ) (v : Knowledge) (shelf : Shelf K) (me : Sat K) → me ≡ (v, (0, Some shelf) ∷ []) → v.locks ≡ true
    → StartsWith shelf.list (elements v.list) → k ≡ length shelf.list - length v.list → length shelf.list ≤ MAX_ELEMENTS → length v.list ≤ length shelf.list
    → Allows Kept slots id me 1 (λ n. (n + k) % 2 ^ 64) (appended (step slots 1 k 0 none) me)
appends {K} slots id k v shelf me is on starts count few short =
    subst (λ (z : Sat K). Allows Kept slots id me 1 (λ n. (n + k) % 2 ^ 64) (appended (step slots 1 k 0 none) z)) (sym is)
    (gains slots id k v shelf me (last_authored v.number (gained v.list shelf.list)) (v.mine ++ (length shelf.list - 1) ∷ []) is on starts count few short (elements_last_authored v.number (gained v.list shelf.list)))

-- the count is loaded
pub counts : {K : Type 0} (slots id : ℕ) (me : Sat K) → Allows Kept slots id me 1 (λ n. n) (counted (step slots 1 0 0 none) me)
counts {K} slots id me = allows slots id me 1 (λ n. n) (counted (step slots 1 0 0 none) me) (λ lock history home views r at.
    let v : Knowledge = me.0 in let h = r.each id v at in let w : Knowledge = record v { loads = v.loads + 1; found = length history; told = [] } in (
      w,
      keeps,
      tt,
      (
        lock,
        history,
        home,
        refl,
        refl,
        moved history history lock lock home home views id w r r.few r.lies (record { front = h.front; told = tt; locks = h.locks }) (λ i u ne e. r.each i u e) (λ on i u ne e on'. ne (r.one i id u v e at on' on)),
      ),
      (refl, (λ on. ap length (sym (h.locks on).1)), h.told),
    ))

-- the lock is given back, and the shelf of all that the seat knows
pub unlocks : {K : Type 0} (slots id : ℕ) (v : Knowledge) (shelf : Shelf K) (me : Sat K) → me ≡ (v, (0, Some shelf) ∷ []) → v.locks ≡ true → shelf.list ≡ elements v.list
    → Allows Kept slots id me 0 (λ _. 0) (λ _. unlocked (step slots 0 0 0 none) me 0)
unlocks {K} slots id v shelf me is on same =
    let m : Sat K = (v, (0, Some shelf) ∷ []) in let w : Knowledge = record v { locks = false } in
    subst (λ (z : Sat K). Allows Kept slots id z 0 (λ _. 0) (λ _. unlocked (step slots 0 0 0 none) z 0)) (sym is)
    (allows slots id m 0 (λ _. 0) (λ _. unlocked (step slots 0 0 0 none) m 0) (λ lock history home views r at.
    let h = r.each id v at in let has = h.locks on in (
      w,
      gives,
      tt,
      (
        0,
        history,
        some (Some shelf),
        refl,
        refl,
        moved history history lock 0 home (some (Some shelf)) views id w r r.few (λ _. (shelf, refl, same ∙ ap elements has.1))
            (record { front = h.front; told = h.told; locks = λ z. absurd (false≢true z) })
            (λ i u ne e. let g = r.each i u e in record { front = g.front; told = g.told; locks = λ on'. absurd (ne (r.one i id u v e at on' on)) })
            (λ z. absurd (false≢true z)),
      ),
      refl,
    )))

-- a view is cut in two, of which the second knows as much
splits : {K : Type 0} (id : ℕ) (v l n : Knowledge) → l.list ≡ v.list → l.told ≡ v.told → l.locks ≡ v.locks → n.list ≡ v.list → n.told ≡ [] → n.locks ≡ false
    → Splits (Kept {K = K}) id v l n
splits {K} id v l n list told locks list' told' locks' s kept at =
    let lock : ℕ = kept.0 in let history : List Entry = kept.1 in let r = kept.5 in let h = r.each id v at in
    let first : Rules history lock kept.2 (seated (set s.views id l)) = moved history history lock lock kept.2 kept.2 s.views id l r r.few r.lies
    (record {
      front = subst (StartsWith history) (sym list) h.front;
      told = subst (λ (z : List Entry). Each (StartsWith z) l.told) (sym list) (subst (Each (StartsWith v.list)) (sym told) h.told);
      locks = λ on. let has = h.locks (sym locks ∙ on) in (has.0, list ∙ has.1);
    })
    (λ i u ne e. r.each i u e) (λ on i u ne e on'. ne (r.one i id u v e at on' (sym locks ∙ on))) in
    let cut : List Knowledge = set s.views id l in
    let off : (u : Knowledge) → n ≡ u → u.locks ≡ true → ⊥ = λ u e on. false≢true (sym locks' ∙ (ap (λ (z : Knowledge). z.locks) e ∙ on)) in (
      lock,
      history,
      kept.2,
      kept.3,
      kept.4,
      record {
        few = r.few;
        lies = r.lies;
        each = λ i u e. ⊎_elim (first.each i u) (λ (t : (i ≡ length cut) × (n ≡ u)). subst (Fits history lock) t.1 (record {
          front = subst (StartsWith history) (sym list') h.front;
          told = subst (Each (StartsWith n.list)) (sym told') tt;
          locks = λ on. absurd (off n refl on);
        })) (at_end cut n u i e);
        one = λ i j a b ea eb on on'. ⊎_elim
            (λ (x : seated cut i a). ⊎_elim (λ (y : seated cut j b). first.one i j a b x y on on')
            (λ (y : (j ≡ length cut) × (n ≡ b)). absurd (off b y.1 on')) (at_end cut n b j eb))
            (λ (x : (i ≡ length cut) × (n ≡ a)). absurd (off a x.1 on)) (at_end cut n a i ea);
      },
    )

pub makes : {K : Type 0} (id : ℕ) (v : Knowledge) → Splits (Kept {K = K}) id v (counts_on v) (made v)
makes id v = splits id v (counts_on v) (made v) refl refl refl refl refl refl

pub tells : {K : Type 0} (id : ℕ) (v : Knowledge) → Splits (Kept {K = K}) id v v (teller v)
tells id v = splits id v v (teller v) refl refl refl refl refl refl

-- a seat learns what another knew, which is spent
pub learns : {K : Type 0} (id other : ℕ) (v w : Knowledge) → Joins (Kept {K = K}) id v other w (learnt v w) spent
learns {K} id other v w s kept at apart there =
    let lock : ℕ = kept.0 in let history : List Entry = kept.1 in let r = kept.5 in let h = r.each id v at in let both : Knowledge = learnt v w in
    let there' : seated s.views other w = ⊎_elim (λ (t : (other ≡ id) × (both ≡ w)). absurd (apart t.0)) (λ (t : (other ≢ id) × seated s.views other w). t.1) (at_set s.views id other both w there) in
    let g = r.each other w there' in let l = longer_is history v.list w.list h.front g.front in
    let first : Rules history lock kept.2 (seated (set s.views id both)) = moved history history lock lock kept.2 kept.2 s.views id both r r.few r.lies
    (record {
      front = l.front;
      told = (l.first, (l.second, each_append (StartsWith both.list) w.told v.told (each_front both.list w.list w.told l.second g.told) (each_front both.list v.list v.told l.first h.told)));
      locks = λ on. let has = h.locks on in (has.0, starts_whole history both.list l.front (let a = starts_length both.list v.list l.first in let b : length v.list ≡ length history = ap length has.1 in omega arith));
    })
    (λ i u ne e. r.each i u e) (λ on i u ne e on'. ne (r.one i id u v e at on' on)) in (
      lock,
      history,
      kept.2,
      kept.3,
      kept.4,
      moved history history lock lock kept.2 kept.2 (set s.views id both) other spent first r.few r.lies
          (record { front = refl; told = tt; locks = λ z. absurd (false≢true z) })
          (λ i u ne e. first.each i u e) (λ z. absurd (false≢true z)),
    )

-- the table as it is made
pub opens : {K : Type 0} (shelf : Shelf K) → shelf.list ≡ [] → Kept (opening (0 ∷ 0 ∷ []) (Some shelf ∷ []) opener)
opens shelf empty = (
  0,
  [],
  some (Some shelf),
  refl,
  refl,
  record {
    few = omega arith;
    lies = λ _. (shelf, refl, empty);
    each = λ i v e. subst (Fits [] 0) (the_only opener i v e).1 (record { front = refl; told = tt; locks = λ z. absurd (false≢true z) });
    one = λ i j v w ev ew on on'. (the_only opener i v ev).0 ∙ sym (the_only opener j w ew).0;
  },
)

-- what the seat knows that has put the shelf back
pub grown_is : {K : Type 0} (v : Knowledge) (shelf : Shelf K) (m m' : Sat K) → m ≡ (v, (0, Some shelf) ∷ []) → grown (step 0 1 0 0 none) m 0 m'
    → m' ≡ (record v { list = v.list ++ authored 0 (gained v.list shelf.list) }, (0, Some shelf) ∷ [])
grown_is {K} v shelf m m' is g = subst (λ (z : Sat K). grown (step 0 1 0 0 none) z 0 m') is g

pub appended_is : {K : Type 0} (v : Knowledge) (shelf : Shelf K) (m m' : Sat K) → m ≡ (v, (0, Some shelf) ∷ []) → appended (step 0 1 0 0 none) m 0 m'
    → m' ≡ (record v { list = v.list ++ last_authored v.number (gained v.list shelf.list); mine = v.mine ++ (length shelf.list - 1) ∷ [] }, (0, Some shelf) ∷ [])
appended_is {K} v shelf m m' is g = subst (λ (z : Sat K). appended (step 0 1 0 0 none) z 0 m') is g

pub carries_grown : {K : Type 0} (v : Knowledge) (shelf : Shelf K) → StartsWith shelf.list (elements v.list) → shelf.list ≡ elements (v.list ++ authored 0 (gained v.list shelf.list))
carries_grown v shelf starts = sym (elements_gained v.list (authored 0 (gained v.list shelf.list)) shelf.list starts (elements_authored 0 (gained v.list shelf.list)))

pub carries_appended : {K : Type 0} (v : Knowledge) (shelf : Shelf K) → StartsWith shelf.list (elements v.list) → shelf.list ≡ elements (v.list ++ last_authored v.number (gained v.list shelf.list))
carries_appended v shelf starts = sym (elements_gained v.list (last_authored v.number (gained v.list shelf.list)) shelf.list starts (elements_last_authored v.number (gained v.list shelf.list)))
