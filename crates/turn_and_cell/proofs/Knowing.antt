-- What a look makes of what its viewer knows.
use Rattle.std.proofs.Common.{◌≡◌, ℕ, zero, suc, ◌<◌, List, [], ◌∷◌, length, Contains, get_or, Result, Ok, Err, IfOk, IfErr, sym, subst, arith}
use Rattle.swap_cell.specs.declared.handles.Viewer.{Viewer}
use Rattle.swap_cell.specs.Rule.{Each}
use Rattle.swap_cell.specs.Cells.{known, HasLooked}

-- what holds of each holds of one of them
each_at : {A : Type 0} (P : A → Type 0) (xs : List A) (k : ℕ) (d : A) → k < length xs → Each P xs → P (get_or xs k d)
each_at P [] k d lt h = absurd (omega arith)
each_at P (x ∷ xs) zero d lt h = h.0
each_at P (x ∷ xs) (suc k) d lt h = each_at P xs k d (omega arith) h.1

pub each_contained : {A : Type 0} (P : A → Type 0) (xs : List A) (x : A) → Each P xs → Contains xs x → P x
each_contained P xs x h c = subst P c.2 (each_at P xs c.0 x c.1 h)

pub contains_more : {A : Type 0} (xs : List A) (x y : A) → Contains xs x → Contains (y ∷ xs) x
contains_more xs x y c = (suc c.0, let lt = c.1 in omega arith, c.2)

-- a look keeps what the viewer knows
pub looked_knows : {T E : Type 0} (extends : T → T → Type 0) (v w : Viewer T) (x : T) (r : Result T E) → IfOk r (HasLooked extends v w) → IfErr r (λ _. known w ≡ known v)
    → Contains (known v) x → Contains (known w) x
looked_knows extends v w x (Ok y) ok err c = subst (λ (xs : List _). Contains xs x) (sym ok.1) (contains_more (known v) x y c)
looked_knows extends v w x (Err e) ok err c = subst (λ (xs : List _). Contains xs x) (sym err) c

-- and what is looked at extends it
pub looked_extends : {T E : Type 0} (extends : T → T → Type 0) (v w : Viewer T) (x : T) (r : Result T E) → IfOk r (HasLooked extends v w) → Contains (known v) x → IfOk r (λ y. extends y x)
looked_extends extends v w x (Ok y) ok c = each_contained (extends y) (known v) x ok.0 c
looked_extends extends v w x (Err e) ok c = tt
