-- What a call of a link leaves.
use Rattle.std.proofs.Common.{◌≡◌, ◌⊎◌, ℕ, zero, suc, ◌+◌, ◌-◌, ◌<◌, ◌≤◌, List, [], ◌∷◌, ◌++◌, length, map, take, drop, All, slice_get, Option, Some, Result, Ok, Err, IfErr, refl, inl, inr, ⊎_elim, sym, ap, ◌∙◌, subst, append_assoc, arith}
use Rattle.std.proofs.lemmas.List.{map-append, length-append, length-map, length-drop, length-take-le}
use Rattle.std.proofs.lemmas.Option.{none-some}
use Rattle.std.specs.declared.vec.Vec.{Vec}
use Rattle.std.specs.declared.alloc.Global.{Global}
use Rattle.atomic_table.specs.Table.{Me}
use Rattle.atomic_table.specs.declared.shared.Seat.{Seat}
use Rattle.key_elements.specs.declared.element.Element.{Element}
use Rattle.key_elements.specs.Lists.{Extends}
use Rattle.repo_keeper.specs.declared.repo.RepoError.{RepoError}
use Rattle.repo_keeper.specs.declared.repo.RepoError.TheVariants as refused
use Rattle.repo_keeper.specs.Store.{IsCause, IsReadCause}
use Rattle.repo_shared.specs.declared.shelf.Shelf.{Shelf}
use Rattle.repo_shared.specs.declared.board.Entry.{Entry}
use Rattle.repo_shared.specs.declared.board.Knowledge.{Knowledge}
use Rattle.repo_shared.specs.Rule.{StartsWith, elements, element_of, authored}
use Rattle.repo_shared.specs.Steps.{gained, last_authored}
use Rattle.repo_shared.specs.Mine.{IsBy, author_of}
use Rattle.repo_shared.specs.Shelves.{HasSeen}
use Rattle.repo_shared.specs.Seats.{AreMine, HasTold, IsHeld, HasLocked, HasUnlocked, HasCalled, list_grown, list_appended, mine_appended}
use Rattle.repo_shared.proofs.Fronts.{starts_self, starts_trans, starts_append, starts_length, starts_map}
use Rattle.repo_shared.proofs.Keeps.{carries_grown, carries_appended}

abbrev Answer : Type 0
Answer = Result (Vec Element Global) RepoError

abbrev BoardSeat : Type 0 → Type 0
BoardSeat K = Seat (Option (Shelf K)) Knowledge

-- what stands at a place of a front stands there
get_take : {A : Type 0} (n : ℕ) (x : List A) (i : ℕ) (a : A) → slice_get (take n x) i ≡ Some a → slice_get x i ≡ Some a
get_take zero x i a e = absurd (none-some a e)
get_take (suc n) [] i a e = absurd (none-some a e)
get_take (suc n) (x ∷ xs) zero a e = e
get_take (suc n) (x ∷ xs) (suc i) a e = get_take n xs i a e

pub starts_get : {A : Type 0} (x y : List A) (i : ℕ) (a : A) → StartsWith x y → slice_get y i ≡ Some a → slice_get x i ≡ Some a
starts_get x y i a xy e = get_take (length y) x i a (ap (λ (l : List _). slice_get l i) xy ∙ e)

get_at : {A : Type 0} (x : List A) (a : A) (y : List A) → slice_get (x ++ a ∷ y) (length x) ≡ Some a
get_at [] a y = refl
get_at (b ∷ x) a y = get_at x a y

-- what holds of each element and of one more
pub all_more : {A : Type 0} (P : A → Type 0) (xs : List A) (x : A) → All P xs → P x → All P (xs ++ x ∷ [])
all_more P [] x all last zero d h = last
all_more P [] x all last (suc k) d h = absurd (omega arith)
all_more P (y ∷ ys) x all last zero d h = all zero d (omega arith)
all_more P (y ∷ ys) x all last (suc k) d h = all_more P ys x (λ j e g. all (suc j) e (omega arith)) last k d (omega arith)

-- the author stays, when the list grows and more of it is seen
pub mine_stay : (n : ℕ) (x y : List Entry) (seen seen' : List Element) (mine : List ℕ) → StartsWith x y → length seen ≤ length seen' → AreMine n y seen mine → AreMine n x seen' mine
mine_stay n x y seen seen' mine xy le all k d lt = let h = all k d lt in (let low = h.0 in omega arith, starts_get (map author_of x) (map author_of y) _ n (starts_map author_of x y xy) h.1)

-- a list that isn't empty has a last element
last_of : (es : List Element) → 0 < length es → (e : Element) × (drop (length es - 1) es ≡ e ∷ [])
last_of [] some = absurd (omega arith)
last_of (e ∷ []) some = (e, refl)
last_of (e ∷ f ∷ es) some =
    let r = last_of (f ∷ es) (omega arith) in
    let n : length (e ∷ f ∷ es) - 1 ≡ suc (length (f ∷ es) - 1) = omega arith in
    (r.0, ap (λ (k : ℕ). drop k (e ∷ f ∷ es)) n ∙ r.1)

-- the last of what was gained is of the author
pub last_is_by : (n : ℕ) (list : List Entry) (es : List Element) (place : ℕ) → 0 < length es → place ≡ length list + (length es - 1) → IsBy n (list ++ last_authored n es) place
last_is_by n list es place some is =
    let k = length es - 1 in let front : List Entry = authored 0 (take k es) in let l = last_of es some in
    let last : authored n (drop k es) ≡ record { element = l.0; author = n } ∷ [] = ap (authored n) l.1 in
    let long : length (map author_of (list ++ front)) ≡ place = length-map (list ++ front) author_of ∙ (length-append list front ∙ (ap (λ (j : ℕ). length list + j) (length-map (take k es) _ ∙ length-take-le k es (omega arith)) ∙ sym is)) in
    let parts : list ++ last_authored n es ≡ (list ++ front) ++ record { element = l.0; author = n } ∷ [] = ap (λ (t : List Entry). list ++ (front ++ t)) last ∙ sym (append_assoc list front (record { element = l.0; author = n } ∷ [])) in
    ap (λ (t : List Entry). slice_get (map author_of t) place) parts
    ∙ (ap (λ (t : List ℕ). slice_get t place) (map-append author_of (list ++ front) (record { element = l.0; author = n } ∷ []))
    ∙ subst (λ (j : ℕ). slice_get (map author_of (list ++ front) ++ n ∷ []) j ≡ Some n) long (get_at (map author_of (list ++ front)) n []))

-- what was on the shelf was seen, or what was seen before
pub seen_is : (answer : Answer) (old new list : List Element) → HasSeen answer old new list → (new ≡ list) ⊎ (new ≡ old)
seen_is (Ok tail) old new list h = inl h
seen_is (Err refused.Failed) old new list h = inr h
seen_is (Err refused.Memory) old new list h = inr h
seen_is (Err (refused.Short n)) old new list h = inl h
seen_is (Err (refused.Full n)) old new list h = inl h

pub cause_seen : (why : RepoError) (known : ℕ) (old new list : List Element) → HasSeen (Err why) old new list → IsCause known (Some list) why → IsCause known (Some new) why
cause_seen refused.Failed known old new list h c = tt
cause_seen refused.Memory known old new list h c = tt
cause_seen (refused.Short n) known old new list h c = (c.0, ap length h ∙ c.1)
cause_seen (refused.Full n) known old new list h c = (c.0, c.1, ap length h ∙ c.2)

pub read_cause_seen : (why : RepoError) (known : ℕ) (old new list : List Element) → HasSeen (Err why) old new list → IsReadCause known (Some list) why → IsReadCause known (Some new) why
read_cause_seen refused.Failed known old new list h c = tt
read_cause_seen refused.Memory known old new list h c = tt
read_cause_seen (refused.Short n) known old new list h c = (c.0, ap length h ∙ c.1)
read_cause_seen (refused.Full n) known old new list h c = c

-- what a refusal told
pub refusal_told : (why : RepoError) (known have : ℕ) (old new list : List Element) → HasSeen (Err why) old new list → IsCause known (Some list) why → have ≡ length list → HasTold (Err why) have new
refusal_told refused.Failed known have old new list h c is = tt
refusal_told refused.Memory known have old new list h c is = tt
refusal_told (refused.Short n) known have old new list h c is = (sym c.1 ∙ sym is, ap length h ∙ sym is)
refusal_told (refused.Full n) known have old new list h c is = ap length h ∙ sym is

pub read_refusal_told : (why : RepoError) (known have : ℕ) (old new list : List Element) → HasSeen (Err why) old new list → IsReadCause known (Some list) why → have ≡ length list → HasTold (Err why) have new
read_refusal_told refused.Failed known have old new list h c is = tt
read_refusal_told refused.Memory known have old new list h c is = tt
read_refusal_told (refused.Short n) known have old new list h c is = (sym c.1 ∙ sym is, ap length h ∙ sym is)
read_refusal_told (refused.Full n) known have old new list h c is = absurd c

pub read_told : (answer : Answer) (known have : ℕ) (old new list : List Element) → HasSeen answer old new list → IfErr answer (λ why. IsReadCause known (Some list) why) → have ≡ length list → HasTold answer have new
read_told (Ok tail) known have old new list h c is = ap length h ∙ sym is
read_told (Err why) known have old new list h c is = read_refusal_told why known have old new list h c is

-- what the shelf is put back with: the lock is had, and the shelf has what was known at its front
pub had_is : {K : Type 0} (p q : BoardSeat K) (shelf : Shelf K) → HasLocked shelf p q → length shelf.list ≡ length q.me.0.list
had_is {K} p q shelf locked = ap length locked.shelf_is ∙ (length-map locked.history element_of ∙ ap length (sym (ap (λ (m : Me (Option (Shelf K)) Knowledge). m.0.list) locked.me)))

pub starts_is : {K : Type 0} (p q : BoardSeat K) (shelf shelf' : Shelf K) → HasLocked shelf p q → Extends shelf'.list shelf.list → StartsWith shelf'.list (elements q.me.0.list)
starts_is {K} p q shelf shelf' locked grows = subst (StartsWith shelf'.list) (locked.shelf_is ∙ ap elements (sym (ap (λ (m : Me (Option (Shelf K)) Knowledge). m.0.list) locked.me))) grows

module _ {K : Type 0} (p q r : BoardSeat K) (shelf shelf' : Shelf K) (seen seen' : List Element) (found : ℕ) (locked : HasLocked shelf p q) (held : IsHeld p.me seen) (grows : Extends shelf'.list shelf.list) where
  knows : q.me.0.list ≡ locked.history
  knows = ap (λ (m : Me (Option (Shelf K)) Knowledge). m.0.list) locked.me

  pub starts : StartsWith shelf'.list (elements q.me.0.list)
  starts = subst (StartsWith shelf'.list) (locked.shelf_is ∙ ap elements (sym knows)) grows

  before : StartsWith q.me.0.list p.me.0.list
  before = subst (λ (l : List Entry). StartsWith l p.me.0.list) (sym knows) locked.front

  base : StartsWith shelf'.list seen
  base = starts_trans shelf'.list (elements q.me.0.list) seen starts (starts_trans (elements q.me.0.list) (elements p.me.0.list) seen (starts_map element_of q.me.0.list p.me.0.list before) held.2)

  same_mine : q.me.0.mine ≡ p.me.0.mine
  same_mine = ap (λ (m : Me (Option (Shelf K)) Knowledge). m.0.mine) locked.me

  same_number : q.me.0.number ≡ p.me.0.number
  same_number = ap (λ (m : Me (Option (Shelf K)) Knowledge). m.0.number) locked.me

  old_mine : (x : List Entry) → StartsWith x q.me.0.list → length seen ≤ length seen' → AreMine q.me.0.number x seen' q.me.0.mine
  old_mine x xq le = subst (λ (n : ℕ). AreMine n x seen' q.me.0.mine) (sym same_number) (subst (AreMine p.me.0.number x seen') (sym same_mine)
      (mine_stay p.me.0.number x p.me.0.list seen seen' p.me.0.mine (starts_trans x q.me.0.list p.me.0.list xq before) le held.3))

  grown_by : (seen' ≡ shelf'.list) ⊎ (seen' ≡ seen) → Extends seen' seen
  grown_by kind = ⊎_elim (λ (e : seen' ≡ shelf'.list). subst (λ (l : List Element). Extends l seen) (sym e) base) (λ (e : seen' ≡ seen). subst (λ (l : List Element). Extends l seen) (sym e) (starts_self seen)) kind

  front_by : (x : List Entry) → elements x ≡ shelf'.list → (seen' ≡ shelf'.list) ⊎ (seen' ≡ seen) → StartsWith (elements x) seen'
  front_by x is kind = subst (λ (l : List Element). StartsWith l seen') (sym is)
      (⊎_elim (λ (e : seen' ≡ shelf'.list). subst (StartsWith shelf'.list) (sym e) (starts_self shelf'.list)) (λ (e : seen' ≡ seen). subst (StartsWith shelf'.list) (sym e) base) kind)

  module _ (list : List Entry) (mine : List ℕ) (whole : elements list ≡ shelf'.list) (unlocked : HasUnlocked list mine found q r) (kind : (seen' ≡ shelf'.list) ⊎ (seen' ≡ seen)) where
    pub count_is : found ≡ length shelf'.list
    count_is = unlocked.found_is ∙ (sym (length-map list element_of) ∙ ap length whole)

    called_as : (answer : Answer) → HasTold answer found seen' → AreMine q.me.0.number list seen' mine → HasCalled answer found p r seen seen'
    called_as answer told mines = record {
      table = unlocked.table ∙ locked.table;
      held = subst (λ (m : Me (Option (Shelf K)) Knowledge). IsHeld m seen') (sym unlocked.me) (refl, refl, front_by list whole kind, mines);
      grows = grown_by kind;
      number = ap (λ (m : Me (Option (Shelf K)) Knowledge). m.0.number) unlocked.me ∙ same_number;
      loads = ap (λ (m : Me (Option (Shelf K)) Knowledge). m.0.loads) unlocked.me ∙ ap (λ (m : Me (Option (Shelf K)) Knowledge). m.0.loads + 1) locked.me;
      found = ap (λ (m : Me (Option (Shelf K)) Knowledge). m.0.found) unlocked.me;
      told = told;
    }

  -- the shelf was put back, and what is new on it is of nobody
  pub called_grown : (answer : Answer) → HasUnlocked (list_grown q shelf') q.me.0.mine found q r → (seen' ≡ shelf'.list) ⊎ (seen' ≡ seen) → (found ≡ length shelf'.list → HasTold answer found seen')
      → HasCalled answer found p r seen seen' × (r.me.0.mine ≡ p.me.0.mine)
  called_grown answer unlocked kind told =
      let list : List Entry = list_grown q shelf' in let whole : elements list ≡ shelf'.list = sym (carries_grown q.me.0 shelf' starts) in (
        called_as list q.me.0.mine whole unlocked kind answer (told (count_is list q.me.0.mine whole unlocked kind))
            (old_mine list (starts_append q.me.0.list (authored 0 (gained q.me.0.list shelf'.list))) (starts_length seen' seen (grown_by kind))),
        ap (λ (m : Me (Option (Shelf K)) Knowledge). m.0.mine) unlocked.me ∙ same_mine,
      )

  -- the same, and the last is of the seat's link
  pub called_appended : (tail : Vec Element Global) → HasUnlocked (list_appended q shelf') (mine_appended q shelf') found q r → seen' ≡ shelf'.list → length shelf.list < length shelf'.list
      → HasCalled (Ok tail) found p r seen seen' × (r.me.0.mine ≡ p.me.0.mine ++ (length shelf'.list - 1) ∷ [])
  called_appended tail unlocked all longer =
      let list : List Entry = list_appended q shelf' in let whole : elements list ≡ shelf'.list = sym (carries_appended q.me.0 shelf' starts) in
      let kind : (seen' ≡ shelf'.list) ⊎ (seen' ≡ seen) = inl all in let n = q.me.0.number in let es : List Element = gained q.me.0.list shelf'.list in let place : ℕ = length shelf'.list - 1 in
      let had : length shelf.list ≡ length q.me.0.list = ap length locked.shelf_is ∙ (length-map locked.history element_of ∙ ap length (sym knows)) in
      let more : length es ≡ length shelf'.list - length q.me.0.list = length-drop (length q.me.0.list) shelf'.list in
      let long : length seen' ≡ length shelf'.list = ap length all in (
        called_as list (mine_appended q shelf') whole unlocked kind (Ok tail) (long ∙ sym (count_is list (mine_appended q shelf') whole unlocked kind))
            (all_more (λ (x : ℕ). (x < length seen') × IsBy n list x) q.me.0.mine place
            (old_mine list (starts_append q.me.0.list (last_authored n es)) (starts_length seen' seen (grown_by kind)))
            (omega arith, last_is_by n q.me.0.list es place (omega arith) (omega arith))),
        ap (λ (m : Me (Option (Shelf K)) Knowledge). m.0.mine) unlocked.me ∙ ap (λ (m : List ℕ). m ++ place ∷ []) same_mine,
      )
