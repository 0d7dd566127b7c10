-- Lawful paths of a call that appends an element.
use Rattle.std.proofs.Common.{◌≡◌, ℕ, ◌-◌, ◌≤◌, true, false, List, [], ◌∷◌, ◌++◌, length, refl, sym, ap, ◌∙◌, subst, Option, None, Result, Ok, Err, arith, inl, inr, append_assoc}
use Rattle.std.specs.Option.{option_or}
use Rattle.std.proofs.lemmas.List.{append-nil, length-append}
use Rattle.key_elements.specs.declared.element.Element.{Element}
use Rattle.dp_base.specs.Draws.{DrawState}
use Rattle.key_ring.specs.Ring.{RingOf}
use Rattle.ring_world.specs.declared.step.Step.{Step}
use Rattle.ring_world.specs.declared.step.Step.TheVariants.{Drawn, Appended, AppendFull, AppendFailed, WentBack, RaiseWant, Answer}
use Rattle.ring_world.specs.Course.{Course, closed, joined, IsFront}
use Rattle.ring_world.specs.Lists.{IsGrown}
use Rattle.ring_world.specs.Flight.{Refusal, StoreFault, DrawFault, Shorter, Full, BadDates, Memory}
use Rattle.ring_world.specs.Placing.{Asked, Placing, Placed, Undrawn, Unplaced, Overfull, Receded, place_end, place_of, PlacePath, complete, cut_off}
use Rattle.node_calls.specs.declared.error.NodeError.{NodeError}
use Rattle.node_calls.specs.declared.error.NodeError.TheVariants as errors
use Rattle.node_calls.specs.Gather.{AppendGives, KeyGives, refusal, in_paths}
use Rattle.node_calls.specs.Places.{asked}
use Rattle.node_calls.proofs.Fronts.{bare, front, front_unnoted}

-- a list that grew has an element
pub grown-some : (es fs : List Element) (e : Element) → IsGrown es e fs → 1 ≤ length fs
grown-some es fs e g = omega (arith, ap length g.1, length-append es (g.0 ++ e ∷ []), length-append g.0 (e ∷ []))

module _ (told : Option (List Element)) (own : List Element) (e : Element) where
  pub append_placed : (fs : List Element) (d : Course) → AppendGives told own e (Ok fs) d → PlacePath (asked own false (λ _. e) told) (Ok (length fs - 1)) fs (closed d (RaiseWant (length fs) ∷ Answer ∷ []))
  append_placed fs d p = complete (Placed [] fs) (refl, p.1, p.0) refl refl (ap (λ (y : Course). closed y (RaiseWant (length fs) ∷ Answer ∷ [])) p.2)

  pub append_unplaced : (why : Refusal) (d : Course) → AppendGives told own e (Err why) d → PlacePath (asked own false (λ _. e) told) (Err why) own d
  append_unplaced StoreFault d p = complete (Unplaced []) refl refl refl p
  append_unplaced (Full count) d p = complete (Overfull []) (refl, p.1) (ap (λ n. Err (Full n)) (sym p.0)) refl p.2
  append_unplaced (Shorter had got) d p =
      complete (Receded [] got) (refl, rw (← p.0) p.1) (ap (λ n. Err (Shorter n got)) (sym p.0)) refl (rw p.0 at p.2)
  append_unplaced Memory d (inl p) = cut_off (Unplaced []) refl refl refl (front_unnoted d [] (AppendFailed ∷ []) [] [] [] None 0 p)
  append_unplaced Memory d (inr p) = cut_off (Placed [] p.0) (refl, p.2, p.1) refl refl (front d (Appended (length p.0 - 1) ∷ []) [] [] [] None 0 p.3)
  append_unplaced _ d p = elim p [ ]

-- after a draw of eighty bytes
after_key : (s : List Step) (k : List ℕ) → joined (bare (Drawn 80 ∷ []) k) (bare s []) ≡ bare (Drawn 80 ∷ s) k
after_key s k = ap (bare (Drawn 80 ∷ s)) (append-nil k)

none_before : (p q : Option RingOf) → q ≡ None → (p ≡ None) → option_or p q ≡ None
none_before p q e f = rw (e, f) refl

key_front : (k b : List ℕ) (s : List Step) (d : Course) → b ≡ [] → IsFront d (bare s b) → IsFront (joined (bare (Drawn 80 ∷ []) k) d) (bare (Drawn 80 ∷ s) k)
key_front k b s d e f = record {
  steps = (f.steps.0, ap (λ z. Drawn 80 ∷ z) f.steps.1);
  drawn = (f.drawn.0, sym (append_assoc k d.drawn f.drawn.0 ∙ ap (λ z. k ++ z) (sym f.drawn.1 ∙ e) ∙ append-nil k));
  rings = f.rings;
  published = inl (none_before d.published None refl (elim f.published [ inl n ↦ n | inr n ↦ n ]));
  unnoted = omega (arith, f.unnoted);
}

module _ (told : Option (List Element)) (own : List Element) (make : List ℕ → Element) (e : Element) (k : List ℕ) (eighty : length k ≡ 80) (made : e ≡ make k) where
  grown_key : (fs : List Element) → IsGrown own e fs → IsGrown own (make k) fs
  grown_key fs g = subst (λ (x : Element). IsGrown own x fs) made g

  key_placed : (r : Result ℕ Refusal) (own' : List Element) (d : Course) → PlacePath (asked own false (λ _. e) told) r own' d → PlacePath (asked own true make told) r own' (joined (bare (Drawn 80 ∷ []) k) d)
  key_placed r own' d (complete (Placed b fs) is end o q) =
      complete (Placed k fs) (eighty, grown_key fs is.1, is.2) end o (rw (q, is.0) (after_key (Appended (length fs - 1) ∷ RaiseWant (length fs) ∷ Answer ∷ []) k))
  key_placed r own' d (complete Undrawn is end o q) = cc
  key_placed r own' d (complete (Unplaced b) is end o q) =
      complete (Unplaced k) eighty end o (rw (q, is) (after_key (AppendFailed ∷ []) k))
  key_placed r own' d (complete (Overfull b) is end o q) =
      complete (Overfull k) (eighty, is.1) end o (rw (q, is.0) (after_key (AppendFull ∷ []) k))
  key_placed r own' d (complete (Receded b got) is end o q) =
      complete (Receded k got) (eighty, is.1) end o (rw (q, is.0) (after_key (WentBack (length own) got ∷ []) k))
  key_placed r own' d (cut_off (Placed b fs) is end o f) =
      cut_off (Placed k fs) (eighty, grown_key fs is.1, is.2) end o (key_front k b (Appended (length fs - 1) ∷ []) d is.0 f)
  key_placed r own' d (cut_off Undrawn is end o f) = cc
  key_placed r own' d (cut_off (Unplaced b) is end o f) = cut_off (Unplaced k) eighty end o (key_front k b (AppendFailed ∷ []) d is f)
  key_placed r own' d (cut_off (Overfull b) is end o f) = cut_off (Overfull k) (eighty, is.1) end o (key_front k b (AppendFull ∷ []) d is.0 f)
  key_placed r own' d (cut_off (Receded b got) is end o f) = cut_off (Receded k got) (eighty, is.1) end o (key_front k b (WentBack (length own) got ∷ []) d is.0 f)

-- a key that was drawn is placed
pub roll_placed : (told : Option (List Element)) (own : List Element) (make : List ℕ → Element) (e : Element) (r : Result ℕ Refusal) (own' : List Element) (d f : Course) → KeyGives make (Ok e) d → PlacePath (asked own false (λ _. e) told) r own' f → PlacePath (asked own true make told) r own' (joined d f)
roll_placed told own make e r own' d f p q =
    rw p.3 (key_placed told own make e p.0 p.2 p.1 r own' f q)

pub roll_undrawn : (told : Option (List Element)) (own : List Element) (make : List ℕ → Element) (why : Refusal) (d : Course) → KeyGives make (Err why) d → PlacePath (asked own true make told) (Err why) own d
roll_undrawn told own make DrawFault d p = complete Undrawn refl refl refl p
roll_undrawn told own make _ d p = elim p [ ]

-- a draw is never refused for its dates, nor is an append
pub key_not_dates : (make : List ℕ → Element) (why : NodeError) (d : Course) → KeyGives make (Err (refusal why)) d → why ≡ errors.BadDates → ⊥
key_not_dates make errors.DrawFault d p e = cc
key_not_dates make _ d p e = elim p [ ]

place_never : (a : Asked) (p : Placing) → place_of (place_end a p) ≡ Err BadDates → ⊥
place_never a (Placed b fs) e = cc
place_never a Undrawn e = cc
place_never a (Unplaced b) e = cc
place_never a (Overfull b) e = cc
place_never a (Receded b got) e = cc

pub place_not_dates : (a : Asked) (why : NodeError) (own : List Element) (d : Course) → PlacePath a (Err (refusal why)) own d → why ≡ errors.BadDates → ⊥
place_not_dates a why own d (complete p is end o q) e = place_never a p (end ∙ ap (λ w. Err (refusal w)) e)
place_not_dates a why own d (cut_off p is end o f) e = cc (ap refusal e)

pub result_not_dates : (a : Asked) (r : Result ℕ NodeError) (own : List Element) (d : Course) → PlacePath a (in_paths r) own d → r ≡ Err errors.BadDates → ⊥
result_not_dates a (Ok n) own d p e = cc
result_not_dates a (Err why) own d p e = place_not_dates a why own d p (cc e)

-- a draw of which nothing is told
pub no_draws : DrawState
no_draws = record { coming = None; given = None; faults = 0; loan = None; lenders = [] }
