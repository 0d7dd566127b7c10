-- Each kind of step on the table of a turn keeps its rule.
use Rattle.std.proofs.Common.{◌≡◌, ◌≢◌, ◌⊎◌, ℕ, zero, suc, ◌+◌, ◌<◌, ◌≤◌, true, false, eqb, max, Option, Some, None, option_map, List, [], ◌∷◌, ◌++◌, length, slice_get, get_or, set, sym, refl, ap, ◌∙◌, subst, inl, inr, ⊎_elim, le_refl, arith, rules}
use Rattle.std.proofs.lemmas.Bool.{false_from_ne_true, true≢false, false≢true, cases_lt}
use mathlib.Core.Option.{some, none, some-injective, some-ne-none}
use mathlib.Core.Option as maybe
use mathlib.Core.Logic.{dite}
use native.Mathlib.Decide.{ℕ_discrete}
use lib.ListN.{get_elem?}
use prog.Atomic.{either}
use Rattle.atomic_table.specs.Table.{Me, Act, takes, gives, keeps, step, opening, rest, Valid, homes_after, carried_after, Allows, Splits, Joins}
use Rattle.atomic_table.proofs.Lists.{at_set, set_else, set_again, at_longer, exchanged}
use Rattle.flight_turn.specs.declared.rule.Stand.{Stand}
use Rattle.flight_turn.specs.Rule.{Lies, Fits, IsRaised, Rules, Kept, seated, maker, maker_at}
use Rattle.flight_turn.specs.declared.turn.Turn.{Turn}
use Rattle.flight_turn.specs.declared.seat.TurnSeat.{TurnSeat}
use Rattle.flight_turn.specs.Seats.{IsSeatOf, IsFresh, IsSameSeat}
use Rattle.flight_turn.specs.Steps.{IsAlike, tried, gave, found, raised, asked, counts_on, made, spent}

-- what stands at a place of a list with one more at its end
at_end : {A : Type 0} (l : List A) (a b : A) (j : ℕ) → get_elem? (l ++ a ∷ []) j ≡ some b → (get_elem? l j ≡ some b) ⊎ ((j ≡ length l) × (a ≡ b))
at_end [] a b zero e = inr (refl, some-injective a b e)
at_end [] a b (suc j) e = absurd (some-ne-none b (sym e))
at_end (x ∷ xs) a b zero e = inl e
at_end (x ∷ xs) a b (suc j) e = ⊎_elim inl (λ t. inr (ap suc t.0, t.1)) (at_end xs a b j e)

-- the slot that was taken last, before the others
pub front : {S : Type 0} (c r : List (ℕ × S)) (a : ℕ × S) → c ≡ a ∷ r → c ≡ a ∷ rest c
front c r a e = e ∙ ap (λ (l : List (ℕ × _)). a ∷ rest l) (sym e)

none_some : {A : Type 0} (a : A) → None ≡ Some a → ⊥
none_some a e = search rules

some_one : {A : Type 0} (a b : A) → Some a ≡ Some b → a ≡ b
some_one a b e = search rules

-- what holds of each element and of one more
pub each_more : {A : Type 0} (P : ℕ → A → Type 0) (xs : List A) (x : A) → ((i : ℕ) (s : A) → slice_get xs i ≡ Some s → P i s) → P (length xs) x
    → (i : ℕ) (s : A) → slice_get (xs ++ x ∷ []) i ≡ Some s → P i s
each_more P [] x each last zero s e = subst (P 0) (some_one x s e) last
each_more P [] x each last (suc i) s e = absurd (none_some s e)
each_more P (y ∷ ys) x each last zero s e = each zero s e
each_more P (y ∷ ys) x each last (suc i) s e = each_more (λ j. P (suc j)) ys x (λ j t f. each (suc j) t f) last i s e

the_only : {A : Type 0} (a : A) (i : ℕ) (b : A) → get_elem? (a ∷ []) i ≡ some b → (i ≡ 0) × (a ≡ b)
the_only a zero b e = (refl, some-injective a b e)
the_only a (suc i) b e = absurd (some-ne-none b (sym e))

set_there : {A : Type 0} (l : List A) (i : ℕ) (a b : A) → get_elem? l i ≡ some a → get_elem? (set l i b) i ≡ some b
set_there [] i a b e = absurd (some-ne-none a (sym e))
set_there (x ∷ xs) zero a b e = refl
set_there (x ∷ xs) (suc i) a b e = set_there xs i a b e

module _ {F M : Type 0} (mark : F → M) where
  abbrev Home : Type 0
  Home = maybe.Option (Option F)

  abbrev Sat : Type 0
  Sat = Me (Option F) (Stand F)

  -- a seat's step, on the words and the slot as they are
  abbrev Goes : F → ℕ → ℕ → Sat → ℕ → (ℕ → ℕ) → (ℕ → Sat → Type 0) → List ℕ → List Home → List (Stand F) → Type 0
  Goes like seats id me i f then ws hs views =
      (w : Stand F) × (a : Act (Option F)) × Valid hs me.1 a
      × Kept mark like seats (record { words = set ws i (f (get_or ws i 0)); homes = homes_after hs me.1 a; views = set views id w })
      × then (get_or ws i 0) (w, carried_after me.1 a)

  allows : (like : F) (seats slots id : ℕ) (me : Sat) (i : ℕ) (f : ℕ → ℕ) (then : ℕ → Sat → Type 0)
      → ((turn want : ℕ) (home : Home) (views : List (Stand F)) → Rules mark (mark like) seats turn want home (seated views) → seated views id me.0
      → Goes like seats id me i f then (turn ∷ want ∷ []) (home ∷ []) views)
      → Allows (Kept mark like seats) slots id me i f then
  allows like seats slots id me i f then goes s kept len at lt =
      subst (λ (ws : List ℕ). Goes like seats id me i f then ws s.homes s.views) (sym kept.3)
      (subst (λ (hs : List Home). Goes like seats id me i f then (kept.0 ∷ kept.1 ∷ []) hs s.views) (sym kept.4) (goes kept.0 kept.1 kept.2 s.views kept.5 at))

  -- the seat id goes from v to w, and raised the want to no less: to what it is now, where it changed
  reaches : (views : List (Stand F)) (id : ℕ) (v w : Stand F) (want want' : ℕ) → seated views id v → IsRaised mark want (seated views)
      → v.raised_to ≤ w.raised_to → w.raised_to ≤ want' → ((want' ≡ want) ⊎ (w.raised_to ≡ want')) → IsRaised mark want' (seated (set views id w))
  reaches views id v w want want' at reached up low top = ⊎_elim
      (λ (same : want' ≡ want). ⊎_elim
      (λ (z : want ≡ 0). inl (same ∙ z))
      (λ (t : (i : ℕ) × (u : Stand F) × seated views i u × (u.raised_to ≡ want)). dite (ℕ_discrete t.0 id)
      (λ (here : t.0 ≡ id). let it : v ≡ t.1 = some-injective v t.1 (sym at ∙ subst (λ (k : ℕ). seated views k t.1) here t.2) in
      let n : v.raised_to ≡ want = ap (λ (x : Stand F). x.raised_to) it ∙ t.3 in inr (id, w, set_there views id v w at, omega arith))
      (λ ne. inr (t.0, t.1, set_else views id t.0 w ne ∙ t.2, t.3 ∙ sym same))) reached)
      (λ (e : w.raised_to ≡ want'). inr (id, w, set_there views id v w at, e)) top

  -- the seat id goes from v to w, and keeps its number
  moved : (m : M) (seats turn want : ℕ) (home : Home) (views : List (Stand F)) (id : ℕ) (v w : Stand F) (turn' want' : ℕ) (home' : Home)
      → Rules mark m seats turn want home (seated views) → seated views id v → w.number ≡ v.number → w.next ≡ v.next
      → Lies mark m turn' home' → turn' ≤ seats → Fits mark m seats turn' want' w
      → ((i : ℕ) (u : Stand F) → i ≢ id → seated views i u → Fits mark m seats turn' want' u)
      → ((i : ℕ) (u : Stand F) → seated views i u → 0 < u.next → turn' < u.next)
      → v.raised_to ≤ w.raised_to → ((want' ≡ want) ⊎ (w.raised_to ≡ want'))
      → Rules mark m seats turn' want' home' (seated (set views id w))
  moved m seats turn want home views id v w turn' want' home' r at num nxt lies known fits others unnamed up top =
      let back : (j : ℕ) (u : Stand F) → seated (set views id w) j u → (x : Stand F) × seated views j x × (x.number ≡ u.number) × (x.next ≡ u.next) =
      λ j u e. ⊎_elim
      (λ (t : (j ≡ id) × (w ≡ u)). (v, subst (λ (z : ℕ). seated views z v) (sym t.0) at, sym num ∙ ap (λ (x : Stand F). x.number) t.1, sym nxt ∙ ap (λ (x : Stand F). x.next) t.1))
      (λ (t : (j ≢ id) × seated views j u). (u, t.1, refl, refl)) (at_set views id j w u e) in
      record {
        lies = lies;
        known = known;
        reached = let low = fits.under in let high = fits.below in reaches views id v w want want' at r.reached up (omega arith) top;
        each = λ i u e. ⊎_elim (λ (t : (i ≡ id) × (w ≡ u)). subst (Fits mark m seats turn' want') t.1 fits) (λ (t : (i ≢ id) × seated views i u). others i u t.0 t.1) (at_set views id i w u e);
        own = λ i j a b ea eb pos same. let x = back i a ea in let y = back j b eb in
            r.own i j x.0 y.0 x.1 y.1 (subst (λ (z : ℕ). 0 < z) (sym x.2) pos) (x.2 ∙ (same ∙ sym y.2));
        makers = λ i j a b ea eb pos pos'. let x = back i a ea in let y = back j b eb in
            r.makers i j x.0 y.0 x.1 y.1 (subst (λ (z : ℕ). 0 < z) (sym x.3) pos) (subst (λ (z : ℕ). 0 < z) (sym y.3) pos');
        unmade = λ i j a b ea eb pos. let x = back i a ea in let y = back j b eb in
            let less : y.0.number < x.0.next = r.unmade i j x.0 y.0 x.1 y.1 (subst (λ (z : ℕ). 0 < z) (sym x.3) pos) in
            subst (λ (z : ℕ). z < a.next) y.2 (subst (λ (z : ℕ). y.0.number < z) x.3 less);
        unnamed = λ i a ea pos. let x = back i a ea in subst (λ (z : ℕ). turn' < z) x.3 (unnamed i x.0 x.1 (subst (λ (z : ℕ). 0 < z) (sym x.3) pos));
      }

  -- the compare and exchange of the turn
  pub tries : (like : F) (seats slots id : ℕ) (me : Sat) (k : ℕ) → k ≡ me.0.number → 0 < k
      → Allows (Kept mark like seats) slots id me 0 (λ n. either (eqb n 0) k n) (tried mark (step slots 0 0 k none) me)
  tries like seats slots id me k is pos = allows like seats slots id me 0 (λ n. either (eqb n 0) k n) (tried mark (step slots 0 0 k none) me) (λ turn want home views r at.
      let v : Stand F = me.0 in let h = r.each id v at in let m : M = mark like in
      let positive : 0 < v.number = subst (λ (z : ℕ). 0 < z) is pos in
      exchanged turn 0 k (λ (z : ℕ). (w : Stand F) × (a : Act (Option F)) × Valid (home ∷ []) me.1 a
      × Kept mark like seats (record { words = z ∷ want ∷ []; homes = homes_after (home ∷ []) me.1 a; views = set views id w })
      × tried mark (step slots 0 0 k none) me turn (w, carried_after me.1 a))
      (λ free. let lie = r.lies.0 free in let w : Stand F = record v { holds = true; steps = v.steps + 1; read = 0 } in (
        w,
        takes 0 (Some lie.0),
        ap some lie.1,
        (
          k,
          want,
          none,
          refl,
          refl,
          moved m seats turn want home views id v w k want none r at refl refl
              (λ z. absurd (omega arith), λ _. refl)
              (subst (λ (z : ℕ). z ≤ seats) (sym is) h.numbered)
              (record { numbered = h.numbered; named = λ _. (positive, is); holder = λ _ _. refl; counted = h.counted; below = h.below; under = h.under; unraised = h.unraised; alike = h.alike })
              (λ i u ne e. let g = r.each i u e in record {
                numbered = g.numbered;
                named = λ on. let c = g.named on in absurd (omega arith);
                holder = λ p same. absurd (ne (r.own i id u v e at p (sym same ∙ is)));
                counted = g.counted;
                below = g.below;
                under = g.under;
                unraised = g.unraised;
                alike = g.alike;
              })
              (λ i u e p. subst (λ (z : ℕ). z < u.next) (sym is) (r.unmade i id u v e at p)) (le_refl v.raised_to) (inl refl),
        ),
        (λ _. (lie.0, refl, false_from_ne_true v.holds (λ on. let c = h.named on in omega arith), λ g e. lie.2 ∙ sym (h.alike g e)), λ ne. absurd (ne free)),
      ))
      (λ busy. let w : Stand F = record v { steps = v.steps + 1; read = turn } in (
        w,
        keeps,
        tt,
        (
          turn,
          want,
          home,
          refl,
          refl,
          moved m seats turn want home views id v w turn want home r at refl refl r.lies r.known
              (record { numbered = h.numbered; named = h.named; holder = h.holder; counted = h.counted; below = h.below; under = h.under; unraised = h.unraised; alike = h.alike })
              (λ i u ne e. r.each i u e) r.unnamed (le_refl v.raised_to) (inl refl),
        ),
        (
          λ free. absurd (busy free),
          λ _. (refl, (λ p. subst (λ (z : ℕ). turn ≤ z) (sym (h.counted p)) r.known), (λ out same. absurd (true≢false (sym (h.holder positive same) ∙ out))), λ on. (h.named on).1),
        ),
      )))

  -- the turn back to 0
  pub gives_back : (like : F) (seats slots id : ℕ) (v : Stand F) (f : F) (me : Sat) → me ≡ (v, (0, Some f) ∷ []) → v.holds ≡ true → mark f ≡ mark like
      → Allows (Kept mark like seats) slots id me 0 (λ _. 0) (λ _. gave (step slots 0 0 0 none) me 0)
  gives_back like seats slots id v f me is on alike = subst (λ (z : Sat). Allows (Kept mark like seats) slots id z 0 (λ _. 0) (λ _. gave (step slots 0 0 0 none) z 0)) (sym is)
      (allows like seats slots id (v, (0, Some f) ∷ []) 0 (λ _. 0) (λ _. gave (step slots 0 0 0 none) (v, (0, Some f) ∷ []) 0) (λ turn want home views r at.
      let h = r.each id v at in let m : M = mark like in let w : Stand F = record v { holds = false; steps = v.steps + 1; left = Some f } in let mine = h.named on in (
        w,
        gives,
        tt,
        (
          0,
          want,
          some (Some f),
          refl,
          refl,
          moved m seats turn want home views id v w 0 want (some (Some f)) r at refl refl
              ((λ _. (f, refl, alike)), (λ n. absurd (n refl)))
              (omega arith)
              (record { numbered = h.numbered; named = λ z. absurd (false≢true z); holder = λ p z. absurd (omega arith); counted = h.counted; below = h.below; under = h.under; unraised = h.unraised; alike = h.alike })
              (λ i u ne e. let g = r.each i u e in record {
                numbered = g.numbered;
                named = λ on'. let c = g.named on' in absurd (ne (r.own i id u v e at c.0 (sym c.1 ∙ mine.1)));
                holder = λ p z. absurd (omega arith);
                counted = g.counted;
                below = g.below;
                under = g.under;
                unraised = g.unraised;
                alike = g.alike;
              })
              (λ i u e p. p) (le_refl v.raised_to) (inl refl),
        ),
        refl,
      )))

  -- the want that a seat finds is just what it raised it to, where it is the one seat
  only : (m : M) (seats turn want id : ℕ) (home : Home) (views : List (Stand F)) (v : Stand F) → Rules mark m seats turn want home (seated views) → seated views id v → 0 < v.number
      → v.seats ≡ 1 → want ≡ v.raised_to
  only m seats turn want id home views v r at pos one = let h = r.each id v at in let low = h.below in let under = h.under in ⊎_elim
      (λ (z : want ≡ 0). omega arith)
      (λ (t : (i : ℕ) × (u : Stand F) × seated views i u × (u.raised_to ≡ want)). let e = t.3 in let g = r.each t.0 t.1 t.2 in dite (ℕ_discrete t.1.number 0)
      (λ (none_yet : t.1.number ≡ 0). let z = g.unraised none_yet in omega arith)
      (λ ne. let most = g.numbered in let most' = h.numbered in let count : v.seats ≡ seats = h.counted pos in
      let here : t.0 ≡ id = r.own t.0 id t.1 v t.2 at (omega arith) (omega arith) in
      let it : v ≡ t.1 = some-injective v t.1 (sym at ∙ subst (λ (k : ℕ). seated views k t.1) here t.2) in sym e ∙ sym (ap (λ (x : Stand F). x.raised_to) it))) r.reached

  -- a step on the want, which is not lowered: the seat raised it to top
  wants : (like : F) (seats slots id : ℕ) (me : Sat) (f : ℕ → ℕ) (top : ℕ) (then : ℕ → Sat → Type 0) → 0 < me.0.number
      → ((n : ℕ) → n ≤ f n) → me.0.raised_to ≤ top → ((n : ℕ) → me.0.raised_to ≤ n → top ≤ f n) → ((n : ℕ) → me.0.raised_to ≤ n → (f n ≡ n) ⊎ (top ≡ f n))
      → ((n : ℕ) → found me.0 n → then n (record me.0 { want = f n; raised_to = top; steps = me.0.steps + 1 }, me.1))
      → Allows (Kept mark like seats) slots id me 1 f then
  wants like seats slots id me f top then pos up more low reach told = allows like seats slots id me 1 f then (λ turn want home views r at.
      let v : Stand F = me.0 in let h = r.each id v at in let w : Stand F = record v { want = f want; raised_to = top; steps = v.steps + 1 } in
      let below = h.below in let under = h.under in let high = up want in let own : v.raised_to ≤ want = omega arith in (
        w,
        keeps,
        tt,
        (
          turn,
          f want,
          home,
          refl,
          refl,
          moved (mark like) seats turn want home views id v w turn (f want) home r at refl refl r.lies r.known
              (record { numbered = h.numbered; named = h.named; holder = h.holder; counted = h.counted; below = omega arith; under = low want own; unraised = λ z. absurd (omega arith); alike = h.alike })
              (λ i u ne e. let g = r.each i u e in
              record { numbered = g.numbered; named = g.named; holder = g.holder; counted = g.counted; below = let b = g.below in omega arith; under = g.under; unraised = g.unraised; alike = g.alike })
              r.unnamed more (reach want own),
        ),
        told want (below, own, only (mark like) seats turn want id home views v r at pos),
      ))

  pub raises : (like : F) (seats slots id : ℕ) (me : Sat) (k : ℕ) → 0 < me.0.number → Allows (Kept mark like seats) slots id me 1 (λ n. max n k) (raised (step slots 1 k 0 none) me)
  raises like seats slots id me k pos = wants like seats slots id me (λ n. max n k) (max me.0.raised_to k) (raised (step slots 1 k 0 none) me) pos
      (λ n. omega arith) (omega arith) (λ n le. omega arith)
      (λ n le. ⊎_elim (λ (lt : n < k). inr (omega arith)) (λ (ge : k ≤ n). inl (omega arith)) (cases_lt n k)) (λ n t. (refl, t))

  pub asks : (like : F) (seats slots id : ℕ) (me : Sat) → 0 < me.0.number → Allows (Kept mark like seats) slots id me 1 (λ n. n) (asked (step slots 1 0 0 none) me)
  asks like seats slots id me pos = wants like seats slots id me (λ n. n) me.0.raised_to (asked (step slots 1 0 0 none) me) pos (λ n. le_refl n) (le_refl me.0.raised_to) (λ n le. le)
      (λ n le. inl refl) (λ n t. (refl, t))

  -- one more seat
  pub makes : (like : F) (seats id : ℕ) (v : Stand F) → v.number ≡ 0 → 0 < v.next → v.next ≤ seats → v.seats ≡ seats
      → Splits (Kept mark like seats) id v (counts_on v) (made v)
  makes like seats id v none_yet pos room counted s kept at =
      let turn : ℕ = kept.0 in let want : ℕ = kept.1 in let r = kept.5 in let h = r.each id v at in let l : Stand F = counts_on v in let n : Stand F = made v in
      let cut : List (Stand F) = set s.views id l in let after : List (Stand F) = cut ++ n ∷ [] in
      let At : ℕ → Stand F → Type 0 = seated after in
      let where_is : (j : ℕ) (u : Stand F) → At j u → (((j ≡ id) × (l ≡ u)) ⊎ ((j ≢ id) × seated s.views j u)) ⊎ ((j ≡ length cut) × (n ≡ u)) =
      λ j u e. ⊎_elim (λ t. inl (at_set s.views id j l u t)) inr (at_end cut n u j e) in
      -- a seat with a number was there, or is the new one
      let numbered : (j : ℕ) (u : Stand F) → At j u → 0 < u.number → (seated s.views j u) ⊎ ((j ≡ length cut) × (v.next ≡ u.number)) =
      λ j u e p. ⊎_elim (⊎_elim
      (λ (t : (j ≡ id) × (l ≡ u)). let z : v.number ≡ u.number = ap (λ (x : Stand F). x.number) t.1 in absurd (omega arith))
      (λ (t : (j ≢ id) × seated s.views j u). inl t.1))
      (λ (t : (j ≡ length cut) × (n ≡ u)). inr (t.0, ap (λ (x : Stand F). x.number) t.1)) (where_is j u e) in
      -- the seat that makes others is the one that was cut
      let makes_on : (j : ℕ) (u : Stand F) → At j u → 0 < u.next → (j ≡ id) × (v.next + 1 ≡ u.next) =
      λ j u e p. ⊎_elim (⊎_elim
      (λ (t : (j ≡ id) × (l ≡ u)). (t.0, ap (λ (x : Stand F). x.next) t.1))
      (λ (t : (j ≢ id) × seated s.views j u). absurd (t.0 (r.makers j id u v t.1 at p pos))))
      (λ (t : (j ≡ length cut) × (n ≡ u)). let z : 0 ≡ u.next = ap (λ (x : Stand F). x.next) t.1 in absurd (omega arith)) (where_is j u e) in
      let early : (j : ℕ) (u : Stand F) → At j u → u.number ≤ v.next =
      λ j u e. ⊎_elim (⊎_elim
      (λ (t : (j ≡ id) × (l ≡ u)). let z : v.number ≡ u.number = ap (λ (x : Stand F). x.number) t.1 in omega arith)
      (λ (t : (j ≢ id) × seated s.views j u). let z = r.unmade id j v u at t.1 pos in omega arith))
      (λ (t : (j ≡ length cut) × (n ≡ u)). let z : v.next ≡ u.number = ap (λ (x : Stand F). x.number) t.1 in omega arith) (where_is j u e) in
      let free = r.unnamed id v at pos in (
        turn,
        want,
        kept.2,
        kept.3,
        kept.4,
        record {
          lies = r.lies;
          known = r.known;
          reached = let low = h.below in let under = h.under in ⊎_elim inl
              (λ (t : (i : ℕ) × (u : Stand F) × seated cut i u × (u.raised_to ≡ want)). inr (t.0, t.1, at_longer cut (n ∷ []) t.0 t.1 t.2, t.3))
              (reaches s.views id v l want want at r.reached (le_refl v.raised_to) (omega arith) (inl refl));
          each = λ j u e. ⊎_elim (⊎_elim
              (λ (t : (j ≡ id) × (l ≡ u)). subst (Fits mark (mark like) seats turn want) t.1
              (record { numbered = h.numbered; named = h.named; holder = h.holder; counted = h.counted; below = h.below; under = h.under; unraised = h.unraised; alike = h.alike }))
              (λ (t : (j ≢ id) × seated s.views j u). r.each j u t.1))
              (λ (t : (j ≡ length cut) × (n ≡ u)). subst (Fits mark (mark like) seats turn want) t.1 (record {
                numbered = room;
                named = λ z. absurd (false≢true z);
                holder = λ p z. absurd (omega arith);
                counted = λ _. counted;
                below = omega arith;
                under = le_refl 0;
                unraised = λ _. refl;
                alike = h.alike;
              })) (where_is j u e);
          own = λ i j a b ea eb p same. ⊎_elim
              (λ (x : seated s.views i a). ⊎_elim
              (λ (y : seated s.views j b). r.own i j a b x y p same)
              (λ (y : (j ≡ length cut) × (v.next ≡ b.number)). let z = r.unmade id i v a at x pos in absurd (omega arith)) (numbered j b eb (subst (λ (z : ℕ). 0 < z) same p)))
              (λ (x : (i ≡ length cut) × (v.next ≡ a.number)). ⊎_elim
              (λ (y : seated s.views j b). let z = r.unmade id j v b at y pos in absurd (omega arith))
              (λ (y : (j ≡ length cut) × (v.next ≡ b.number)). x.0 ∙ sym y.0) (numbered j b eb (subst (λ (z : ℕ). 0 < z) same p))) (numbered i a ea p);
          makers = λ i j a b ea eb p q. (makes_on i a ea p).0 ∙ sym (makes_on j b eb q).0;
          unmade = λ i j a b ea eb p. let x = makes_on i a ea p in let y = early j b eb in omega arith;
          unnamed = λ i a ea p. let x = makes_on i a ea p in omega arith;
        },
      )

  pub makes_at : (like : F) (seats id number : ℕ) (v : Stand F) → v ≡ maker_at number seats like → 1 ≤ number → number ≤ seats
      → Splits (Kept mark like seats) id v (counts_on v) (made v)
  makes_at like seats id number v is pos room =
      subst (λ (z : Stand F). Splits (Kept mark like seats) id z (counts_on z) (made z)) (sym is) (makes like seats id (maker_at number seats like) refl pos room refl)

  -- a seat takes in another, which raised nothing and of which nothing is left
  pub takes_in : (like : F) (seats id other : ℕ) (v w : Stand F) → w.raised_to ≡ 0 → Joins (Kept mark like seats) id v other w v spent
  takes_in like seats id other v w nothing s kept at apart there =
      let turn : ℕ = kept.0 in let want : ℕ = kept.1 in let r = kept.5 in
      let before : List (Stand F) = set s.views id v in
      let back : (j : ℕ) (u : Stand F) → seated (set before other spent) j u → (spent ≡ u) ⊎ seated s.views j u =
      λ j u e. ⊎_elim (λ (t : (j ≡ other) × (spent ≡ u)). inl t.1)
      (λ (t : (j ≢ other) × seated before j u). inr (subst (λ (l : List (Stand F)). seated l j u) (set_again s.views id v at) t.1)) (at_set before other j spent u e) in
      let numbered : (j : ℕ) (u : Stand F) → seated (set before other spent) j u → 0 < u.number → seated s.views j u =
      λ j u e p. ⊎_elim (λ (t : spent ≡ u). let z : 0 ≡ u.number = ap (λ (x : Stand F). x.number) t in absurd (omega arith)) (λ x. x) (back j u e) in
      let making : (j : ℕ) (u : Stand F) → seated (set before other spent) j u → 0 < u.next → seated s.views j u =
      λ j u e p. ⊎_elim (λ (t : spent ≡ u). let z : 0 ≡ u.next = ap (λ (x : Stand F). x.next) t in absurd (omega arith)) (λ x. x) (back j u e) in (
        turn,
        want,
        kept.2,
        kept.3,
        kept.4,
        record {
          lies = r.lies;
          known = r.known;
          reached = ⊎_elim inl
              (λ (t : (i : ℕ) × (u : Stand F) × seated s.views i u × (u.raised_to ≡ want)).
              let now : seated before t.0 t.1 = subst (λ (q : List (Stand F)). seated q t.0 t.1) (sym (set_again s.views id v at)) t.2 in dite (ℕ_discrete t.0 other)
              (λ (gone : t.0 ≡ other). let it : w ≡ t.1 = some-injective w t.1 (sym there ∙ subst (λ (k : ℕ). seated before k t.1) gone now) in
              inl (sym t.3 ∙ (ap (λ (x : Stand F). x.raised_to) (sym it) ∙ nothing)))
              (λ ne. inr (t.0, t.1, set_else before other t.0 spent ne ∙ now, t.3))) r.reached;
          each = λ j u e. ⊎_elim
              (λ (t : spent ≡ u). subst (Fits mark (mark like) seats turn want) t (record {
                numbered = omega arith;
                named = λ z. absurd (false≢true z);
                holder = λ p z. absurd (omega arith);
                counted = λ p. absurd (omega arith);
                below = omega arith;
                under = le_refl 0;
                unraised = λ _. refl;
                alike = λ f z. absurd (none_some f z);
              }))
              (λ x. r.each j u x) (back j u e);
          own = λ i j a b ea eb p same. r.own i j a b (numbered i a ea p) (numbered j b eb (subst (λ (z : ℕ). 0 < z) same p)) p same;
          makers = λ i j a b ea eb p q. r.makers i j a b (making i a ea p) (making j b eb q) p q;
          unmade = λ i j a b ea eb p. ⊎_elim (λ (t : spent ≡ b). let z : 0 ≡ b.number = ap (λ (x : Stand F). x.number) t in omega arith)
              (λ x. r.unmade i j a b (making i a ea p) x p) (back j b eb);
          unnamed = λ i a ea p. r.unnamed i a (making i a ea p) p;
        },
      )

  -- the table as it is made
  pub opens : (like f : F) (seats : ℕ) → f ≡ like → Kept mark like seats (opening (0 ∷ 0 ∷ []) (Some f ∷ []) (maker seats like))
  opens like f seats same =
      let only : (i : ℕ) (v : Stand F) → seated (maker seats like ∷ []) i v → (i ≡ 0) × (maker seats like ≡ v) = the_only (maker seats like) in (
        0,
        0,
        some (Some f),
        refl,
        refl,
        record {
          lies = ((λ _. (f, refl, ap mark same)), (λ n. absurd (n refl)));
          known = omega arith;
          reached = inl refl;
          each = λ i v e. subst (Fits mark (mark like) seats 0 0) (only i v e).1 (record {
            numbered = omega arith;
            named = λ z. absurd (false≢true z);
            holder = λ p z. absurd (omega arith);
            counted = λ p. absurd (omega arith);
            below = omega arith;
            under = le_refl 0;
            unraised = λ _. refl;
            alike = λ f z. ap mark (sym (some_one like f z));
          });
          own = λ i j v w ev ew p same. (only i v ev).0 ∙ sym (only j w ew).0;
          makers = λ i j v w ev ew p q. (only i v ev).0 ∙ sym (only j w ew).0;
          unmade = λ i j v w ev ew p. let z : 0 ≡ w.number = ap (λ (x : Stand F). x.number) (only j w ew).1 in let y : 1 ≡ v.next = ap (λ (x : Stand F). x.next) (only i v ev).1 in omega arith;
          unnamed = λ i v ev p. p;
        },
      )

  -- a flight that is alike has the turn's mark
  pub alike_mark : (like : Option F) (f : F) (m : M) → option_map mark like ≡ Some m → IsAlike mark like f → mark f ≡ m
  alike_mark None f m e h = absurd (none_some m e)
  alike_mark (Some g) f m e h = h g refl ∙ some_one (mark g) m e

  -- a seat that was made is one of the turn
  pub of_fresh : (t : Turn F) (number : ℕ) (s : TurnSeat F) → IsFresh t number s → IsSeatOf mark t s
  of_fresh t number s fresh = record {
    table_is = fresh.0;
    seats_are = ap (λ (v : Stand F). v.seats) fresh.1;
    like_is = ap (λ (v : Stand F). option_map mark v.like) fresh.1;
  }

  -- a seat of the turn stays one
  pub stays : (t : Turn F) (s s' : TurnSeat F) → IsSeatOf mark t s → IsSameSeat s s' → IsSeatOf mark t s'
  stays t s s' is same = record {
    table_is = same.0 ∙ is.table_is;
    seats_are = same.2 ∙ is.seats_are;
    like_is = ap (option_map mark) same.3 ∙ is.like_is;
  }
