-- What links learn of each other.
use Rattle.std.proofs.Common.{◌≡◌, ◌≢◌, ◌⊎◌, ℕ, zero, suc, ◌+◌, ◌<◌, ◌≤◌, List, [], ◌∷◌, ◌++◌, length, map, slice_get, Option, Some, refl, inl, inr, ⊎_elim, sym, ap, ◌∙◌, subst, arith}
use Rattle.std.proofs.lemmas.Option.{same_Some}
use mathlib.Core.Option.{none}
use Rattle.atomic_table.specs.Table.{Me, step}
use Rattle.atomic_table.specs.declared.shared.Seat.{Seat}
use Rattle.key_elements.specs.declared.element.Element.{Element}
use Rattle.key_elements.specs.Lists.{Extends}
use Rattle.repo_shared.specs.declared.shelf.Shelf.{Shelf}
use Rattle.repo_shared.specs.declared.board.Entry.{Entry}
use Rattle.repo_shared.specs.declared.board.Knowledge.{Knowledge}
use Rattle.repo_shared.specs.declared.handles.Link.{Link}
use Rattle.repo_shared.specs.Rule.{Each, StartsWith, elements, element_of}
use Rattle.repo_shared.specs.Steps.{counted, learnt, longer}
use Rattle.repo_shared.specs.Mine.{author_of}
use Rattle.repo_shared.specs.Seats.{AreMine, IsHeld, HasLocked}
use Rattle.repo_shared.specs.Links.{knowledge, number_of}
use Rattle.repo_shared.specs.Meets.{AreApart, HasLearnt, HaveMet, IsLongerOf, HasMet}
use Rattle.repo_shared.specs.Closes.{AreNumbered, AreGathered, AreFrontsOf, AreAllApart}
use Rattle.repo_shared.proofs.Fronts.{starts_self, starts_trans, starts_length, starts_map, starts_both}
use Rattle.repo_shared.proofs.Calls.{mine_stay, starts_get}

abbrev BoardSeat : Type 0 → Type 0
BoardSeat K = Seat (Option (Shelf K)) Knowledge

abbrev Sat : Type 0 → Type 0
Sat K = Me (Option (Shelf K)) Knowledge

pub learnt_is : {K : Type 0} (o p q r : BoardSeat K) (n : ℕ) → q.table_id ≡ p.table_id → q.me ≡ (learnt p.me.0 o.me.0, p.me.1) → r.table_id ≡ q.table_id
    → counted (step 0 1 0 0 none) q.me n r.me → HasLearnt o p r
learnt_is {K} o p q r n t e t' c =
    let v : Knowledge = learnt p.me.0 o.me.0 in
    let me : r.me ≡ (record v { loads = v.loads + 1; found = n; told = [] }, p.me.1) = c.0 ∙ ap (λ (m : Sat K). (record m.0 { loads = m.0.loads + 1; found = n; told = [] }, m.1)) e in
    let told : Each (StartsWith v.list) v.told = subst (λ (m : Sat K). Each (StartsWith m.0.list) m.0.told) e c.2 in
    let list : r.me.0.list ≡ v.list = ap (λ (m : Sat K). m.0.list) me in
    record {
      table = t' ∙ t;
      found = n;
      me = me;
      own = subst (λ (l : List Entry). StartsWith l p.me.0.list) (sym list) told.0;
      other = subst (λ (l : List Entry). StartsWith l o.me.0.list) (sym list) told.1.0;
    }

-- learning of a seat that was told as much
pub relearnt : {K : Type 0} (o o' p q : BoardSeat K) → o'.me.0.list ≡ o.me.0.list → HasLearnt o' p q → HasLearnt o p q
relearnt {K} o o' p q e h = record {
  table = h.table;
  found = h.found;
  me = h.me ∙ ap (λ (l : List Entry). (record p.me.0 { list = longer p.me.0.list l; told = []; loads = p.me.0.loads + 1; found = h.found }, p.me.1)) e;
  own = h.own;
  other = subst (StartsWith q.me.0.list) e h.other;
}

-- the same of seats that know the same
learnt_at : {K : Type 0} (o o' p p' q q' : BoardSeat K) → o.me ≡ o'.me → p.me ≡ p'.me → q.me ≡ q'.me → q'.table_id ≡ p'.table_id → HasLearnt o p q → HasLearnt o' p' q'
learnt_at {K} o o' p p' q q' eo ep eq t h = record {
  table = t;
  found = h.found;
  me = sym eq ∙ (h.me ∙ (λ i. (record (ep i).0 { list = longer (ep i).0.list (eo i).0.list; told = []; loads = (ep i).0.loads + 1; found = h.found }, (ep i).1)));
  own = subst (λ (m : Sat K). StartsWith m.0.list p'.me.0.list) eq (subst (λ (m : Sat K). StartsWith q.me.0.list m.0.list) ep h.own);
  other = subst (λ (m : Sat K). StartsWith m.0.list o'.me.0.list) eq (subst (λ (m : Sat K). StartsWith q.me.0.list m.0.list) eo h.other);
}

-- a and b: the seats before, between and after
pub have_met : {K : Type 0} (a a1 a2 b b1 b2 : BoardSeat K) → HasLearnt b a a1 → b1.table_id ≡ b.table_id → b1.me ≡ b.me → HasLearnt a1 b1 b2 → a2.table_id ≡ a1.table_id → a2.me ≡ a1.me → HaveMet a b a2 b2
have_met {K} a a1 a2 b b1 b2 first tb eb second ta ea = record {
  first = learnt_at b b a a a1 a2 refl refl (sym ea) (ta ∙ first.table) first;
  second = learnt_at a1 a2 b1 b b2 b2 (sym ea) eb refl (second.table ∙ tb) second;
}

held_learnt : {K : Type 0} (o p q : BoardSeat K) (seen l : List Element) → IsHeld p.me seen → HasLearnt o p q → StartsWith (elements q.me.0.list) l → length seen ≤ length l → IsHeld q.me l
held_learnt {K} o p q seen l held h front le = subst (λ (m : Sat K). IsHeld m l) (sym h.me) (
  held.0,
  held.1,
  subst (λ (m : Sat K). StartsWith (elements m.0.list) l) h.me front,
  mine_stay p.me.0.number (longer p.me.0.list o.me.0.list) p.me.0.list seen l p.me.0.mine (subst (λ (m : Sat K). StartsWith m.0.list p.me.0.list) h.me h.own) le held.3,
)

both_extend : (h a b l : List Element) → StartsWith h a → StartsWith h b → IsLongerOf a b l → StartsWith h l × HasMet a b l
both_extend h a b l ha hb kind = ⊎_elim
    (λ (t : (l ≡ b) × (length a ≤ length b)). (
      subst (StartsWith h) (sym t.0) hb,
      record {
        longer = kind;
        first = subst (λ (x : List Element). StartsWith x a) (sym t.0) (starts_both h a b ha hb t.1);
        second = subst (λ (x : List Element). StartsWith x b) (sym t.0) (starts_self b);
      },
    ))
    (λ (t : (l ≡ a) × (length b ≤ length a)). (
      subst (StartsWith h) (sym t.0) ha,
      record {
        longer = kind;
        first = subst (λ (x : List Element). StartsWith x a) (sym t.0) (starts_self a);
        second = subst (λ (x : List Element). StartsWith x b) (sym t.0) (starts_both h b a hb ha t.1);
      },
    )) kind

-- a place has one author
are_apart : (n m : ℕ) (x : List Entry) (seen seen' : List Element) (xs ys : List ℕ) → AreMine n x seen xs → AreMine m x seen' ys → n ≢ m → AreApart xs ys
are_apart n m x seen seen' xs ys mx my ne i j d li lj same = ne (same_Some n m (sym (mx i d li).1 ∙ (ap (λ (p : ℕ). slice_get (map author_of x) p) same ∙ (my j d lj).1)))

-- what two links have, that met
pub record Met {K : Type 0} (p q p' q' : BoardSeat K) (a b l : List Element) : Type 0 where
  pub first : IsHeld p'.me l
  pub second : IsHeld q'.me l
  pub lists : HasMet a b l
  pub apart : p.me.0.number ≢ q.me.0.number → AreApart p'.me.0.mine q'.me.0.mine

pub met : {K : Type 0} (p q p' q' : BoardSeat K) (a b l : List Element) → IsHeld p.me a → IsHeld q.me b → HaveMet p q p' q' → IsLongerOf a b l → Met p q p' q' a b l
met {K} p q p' q' a b l hp hq m kind =
    let x = p'.me.0.list in let y = q'.me.0.list in
    let fa : StartsWith (elements x) a = starts_trans (elements x) (elements p.me.0.list) a (starts_map element_of x p.me.0.list m.first.own) hp.2 in
    let fb : StartsWith (elements x) b = starts_trans (elements x) (elements q.me.0.list) b (starts_map element_of x q.me.0.list m.first.other) hq.2 in
    let e = both_extend (elements x) a b l fa fb kind in
    let yx : StartsWith y x = m.second.other in
    let first = held_learnt q p p' a l hp m.first e.0 (starts_length l a e.1.first) in
    let second = held_learnt p' q q' b l hq m.second (starts_trans (elements y) (elements x) l (starts_map element_of y x yx) e.0) (starts_length l b e.1.second) in
    record {
      first = first;
      second = second;
      lists = e.1;
      apart = λ ne. are_apart p.me.0.number q.me.0.number y l l p'.me.0.mine q'.me.0.mine
          (subst (λ (n : ℕ). AreMine n y l p'.me.0.mine) (ap (λ (z : Sat K). z.0.number) m.first.me) (mine_stay p'.me.0.number y x l l p'.me.0.mine yx (omega arith) first.3))
          (subst (λ (n : ℕ). AreMine n y l q'.me.0.mine) (ap (λ (z : Sat K). z.0.number) m.second.me) second.3) ne;
    }

-- one more link is gathered
at_last : {A : Type 0} (xs : List A) (x : A) → slice_get (xs ++ x ∷ []) (length xs) ≡ Some x
at_last [] x = refl
at_last (y ∷ xs) x = at_last xs x

pub gathered_more : {K : Type 0} (links rest : List (Link K)) (link : Link K) (list list' : List Entry) → StartsWith links (rest ++ link ∷ []) → StartsWith list' list → StartsWith list' (knowledge link).list
    → AreGathered (length rest + 1) list links → AreGathered (length rest) list' links
gathered_more {K} links rest link list list' front longer learnt old i l le at = ⊎_elim
    (λ (same : i ≡ length rest).
    let here : slice_get links (length rest) ≡ Some link = starts_get links (rest ++ link ∷ []) (length rest) link front (at_last rest link) in
    let is : link ≡ l = same_Some link l (sym here ∙ (ap (slice_get links) (sym same) ∙ at)) in
    subst (λ (m : Link K). StartsWith list' (knowledge m).list) is learnt)
    (λ (more : length rest + 1 ≤ i). starts_trans list' list (knowledge l).list longer (old i l more at)) (cases i (length rest) le)
  where
    cases : (i n : ℕ) → n ≤ i → (i ≡ n) ⊎ (n + 1 ≤ i)
    cases zero n le = inl (omega arith)
    cases (suc i) zero le = inr (omega arith)
    cases (suc i) (suc n) le = ⊎_elim (λ e. inl (omega arith)) (λ e. inr (omega arith)) (cases i n (omega arith))

-- the history, and what the links have of it
pub fronts_of : {K : Type 0} (p q : BoardSeat K) (shelf : Shelf K) (links : List (Link K)) → HasLocked shelf p q → AreGathered 0 p.me.0.list links → AreFrontsOf shelf.list links
fronts_of {K} p q shelf links locked gathered i l at =
    let front : StartsWith locked.history (knowledge l).list = starts_trans locked.history p.me.0.list (knowledge l).list locked.front (gathered i l (omega arith) at) in
    let all : Extends shelf.list l.seen = subst (λ (es : List Element). Extends es l.seen) (sym locked.shelf_is)
    (starts_trans (elements locked.history) (elements (knowledge l).list) l.seen (starts_map element_of locked.history (knowledge l).list front) l.front) in (
      all,
      λ k d lt. let h = l.mine k d lt in let e = element_within l.seen _ h.0 in (e.0, e.1, starts_get shelf.list l.seen _ e.0 all e.1),
    )
  where
    element_within : (es : List Element) (i : ℕ) → i < length es → (e : Element) × (slice_get es i ≡ Some e)
    element_within [] i lt = absurd (omega arith)
    element_within (e ∷ es) zero lt = (e, refl)
    element_within (e ∷ es) (suc i) lt = element_within es i (omega arith)

pub all_apart : {K : Type 0} (list : List Entry) (links : List (Link K)) → AreGathered 0 list links → AreNumbered links → AreAllApart links
all_apart {K} list links gathered numbered i j l m al am ne = are_apart (number_of l) (number_of m) list l.seen m.seen (knowledge l).mine (knowledge m).mine
    (mine_stay (number_of l) list (knowledge l).list l.seen l.seen (knowledge l).mine (gathered i l (omega arith) al) (omega arith) l.mine)
    (mine_stay (number_of m) list (knowledge m).list m.seen m.seen (knowledge m).mine (gathered j m (omega arith) am) (omega arith) m.mine)
    (numbered i j l m al am ne)
