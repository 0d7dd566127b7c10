-- A ring that was looked at and isn't enough is used only where the turn was found taken.
use Rattle.std.proofs.Common.{◌≡◌, ℕ, ◌<◌, Bool, true, false, ◌||◌, List, [], ◌∷◌, ◌++◌, length, refl, sym, ap, ◌∙◌, append_assoc, Option, Some, None, Result, Ok, Err, IfSome, subst, nat_le, if◌then◌else◌}
use Rattle.std.specs.Prelude.{option_map}
use Rattle.key_elements.specs.declared.element.Element.{Element}
use Rattle.key_ring.specs.Ring.{RingOf}
use Rattle.ring_world.specs.declared.step.Step.{Step}
use Rattle.ring_world.specs.declared.step.Step.TheVariants.{Take, Busy, Give, Answer}
use Rattle.ring_world.specs.Course.{Course, any_publishes}
use Rattle.ring_world.specs.Flight.{Refusal, Behind, Plain, Keyed, Filled, Shrunk, Flown, Broken, sight_steps}
use Rattle.ring_world.specs.Path.{Call, target, is_enough, Path, FirstLookFailed, AtOnce, Stale, Alone, Turned, AloneFailed, AloneShort, Apart, HolderPath, LookFailed, Rests, Parts, Flies, IsPath, path_course, path_end, turn_course, turn_end}
use Rattle.ring_world.specs.Settle.{Keeps, Stays, Again, IsSecond}
use Rattle.ring_world.specs.Way.{Comes, Fails, answered, CallPath, complete, cut_off}
use Rattle.node_calls.specs.HostState.{AtTurn, turn_by}
use Rattle.node_calls.specs.Books.{turn_after, AreNamed}
use Rattle.node_calls.specs.Stale.{read_by_step, last_try, IsStale, FoundTaken}
use Rattle.node_calls.proofs.Books.{any_publishes-append}
use Rattle.node_calls.proofs.Courses.{or_true}

-- behind steps whose last but one found the turn taken
module _ (h : ℕ) where
  taken_named : (s : List Step) → AreNamed (s ++ Busy h ∷ Answer ∷ []) → 0 < h
  taken_named [] p = p.0
  taken_named (x ∷ s) p = taken_named s p.1

  taken_last : (o : Option ℕ) (s : List Step) → last_try o (s ++ Busy h ∷ Answer ∷ []) ≡ Some h
  taken_last o [] = refl
  taken_last o (x ∷ s) = taken_last (read_by_step o x) s

  taken_read : (s : List Step) (t : AtTurn) → (turn_after (s ++ Busy h ∷ Answer ∷ []) t).read ≡ h
  taken_read [] t = refl
  taken_read (x ∷ s) t = taken_read s (turn_by x t)

  turn_read : (s : List Step) (old : Option AtTurn) → IfSome (option_map (turn_after (s ++ Busy h ∷ Answer ∷ [])) old) (λ t. t.read ≡ h)
  turn_read s None = tt
  turn_read s (Some t) = taken_read s t

  found : (s steps : List Step) (old new : Option AtTurn) → steps ≡ s ++ Busy h ∷ Answer ∷ [] → AreNamed steps → new ≡ option_map (turn_after steps) old → FoundTaken steps new
  found s steps old new e n t =
      let n' = subst AreNamed e n in
      let t' = subst (λ z. new ≡ option_map (turn_after z) old) e t in
      (h, taken_named s n', ap (last_try None) e ∙ taken_last None s, subst (λ z. IfSome z (λ t. t.read ≡ h)) (sym t') (turn_read s old))

-- the ring to which a flight comes is published
flight_publishes : (c : Call) (t : HolderPath) (r : RingOf) → IsSecond c t → turn_end c t ≡ Ok r → any_publishes (turn_course c t).steps ≡ true
flight_publishes c (LookFailed n) r is e = cc
flight_publishes c (Rests t) r is e = elim is [ ]
flight_publishes c (Parts t at) r is e = cc
flight_publishes c (Flies t (Flown w (Plain es))) r is e = refl
flight_publishes c (Flies t (Flown w (Keyed es k fs))) r is e = refl
flight_publishes c (Flies t (Flown w (Filled es k))) r is e = refl
flight_publishes c (Flies t (Flown w (Shrunk es k got))) r is e = refl
flight_publishes c (Flies t (Broken b)) r is e = cc

-- the ring by which a call is answered is the one to which it came
answered_by : (b : Bool) (n : ℕ) (a r : RingOf) → (if b then Ok a else Err (Behind (length a.list) n)) ≡ Ok r → a ≡ r
answered_by true n a r e = cc
answered_by false n a r e = cc

answered_end : (n : ℕ) (x : Result RingOf Refusal) (r : RingOf) → answered n x ≡ Ok r → x ≡ Ok r
answered_end n (Ok a) r e = ap (λ (z : RingOf). Ok z) (answered_by (nat_le n (length a.list)) n a r e)
answered_end n (Err why) r e = cc

true_false : (b : Bool) → b ≡ true → b ≡ false → ⊥
true_false b p q = cc

module _ (c : Call) (r : RingOf) (old new : Option AtTurn) where
  -- a call that keeps to the ring of its path
  abbrev Keeping : Path → Type 0
  Keeping p = let steps = ((path_course c p).steps ++ []) ++ Answer ∷ [] in
      IsPath c p → path_end c p ≡ Ok r → AreNamed steps → new ≡ option_map (turn_after steps) old
      → IsStale c.terms.now (target c) steps r → FoundTaken steps new

  keeping : (p : Path) → Keeping p
  keeping (FirstLookFailed n) is e named turn stale = cc
  keeping (AtOnce s) is e named turn stale = absurd (true_false (is_enough c s) is.1 (cc (e, stale.2)))
  keeping (Stale s h) is e named turn stale = found h (sight_steps s) _ old new refl named turn
  keeping (Alone s h es) is e named turn stale = cc
  keeping (Turned s (LookFailed n)) is e named turn stale = cc
  keeping (Turned s (Rests t)) is e named turn stale = absurd (true_false (is_enough c t) is.2.1 (cc (e, stale.2)))
  keeping (Turned s (Parts t at)) is e named turn stale = cc
  keeping (Turned s (Flies t (Flown w (Plain es)))) is e named turn stale = cc
  keeping (Turned s (Flies t (Flown w (Keyed es k fs)))) is e named turn stale = cc
  keeping (Turned s (Flies t (Flown w (Filled es k)))) is e named turn stale = cc
  keeping (Turned s (Flies t (Flown w (Shrunk es k got)))) is e named turn stale = cc
  keeping (Turned s (Flies t (Broken b))) is e named turn stale = cc
  keeping (AloneFailed s h) is e named turn stale = cc
  keeping (AloneShort s h had got) is e named turn stale = cc
  keeping (Apart s at) is e named turn stale = cc

-- what a flight of one more try published isn't stale
again_publishes : (c : Call) (s tail : List Step) (t : HolderPath) (r : RingOf) → IsSecond c t → turn_end c t ≡ Ok r → any_publishes ((s ++ (Take ∷ ((turn_course c t).steps ++ Give ∷ []))) ++ tail) ≡ true
again_publishes c s tail t r is e =
    let turn : List Step = (turn_course c t).steps in
    let flown : any_publishes (turn ++ Give ∷ []) ≡ true = any_publishes-append turn (Give ∷ []) ∙ ap (λ b. b || false) (flight_publishes c t r is e) in
    let front : any_publishes (s ++ (Take ∷ (turn ++ Give ∷ []))) ≡ true = any_publishes-append s (Take ∷ (turn ++ Give ∷ [])) ∙ ap (λ b. any_publishes s || b) flown ∙ or_true (any_publishes s) in
    any_publishes-append (s ++ (Take ∷ (turn ++ Give ∷ []))) tail ∙ ap (λ b. b || any_publishes tail) front

-- a call that is answered by a ring that isn't enough found the turn taken
pub found_taken : (c : Call) (r : RingOf) (own : List Element) (d : Course) (old new : Option AtTurn) → CallPath c (Ok r) own d → AreNamed d.steps → new ≡ option_map (turn_after d.steps) old → IsStale c.terms.now (target c) d.steps r → FoundTaken d.steps new
found_taken c r own d old new (cut_off x is l e o g) named turn stale = cc
found_taken c r own d old new (complete (Fails p) is l e o q) named turn stale = cc
found_taken c r own d old new (complete (Comes p a Keeps) is l e o q) named turn stale =
    let same = answered_by (nat_le c.need (length a.list)) c.need a r e in
    subst (λ (y : Course). FoundTaken y.steps new) (sym q) (keeping c r old new p is.0 (is.1 ∙ ap (λ (z : RingOf). Ok z) same)
    (subst (λ (y : Course). AreNamed y.steps) q named) (subst (λ (y : Course). new ≡ option_map (turn_after y.steps) old) q turn)
    (subst (λ (y : Course). IsStale c.terms.now (target c) y.steps r) q stale))
found_taken c r own d old new (complete (Comes p a (Stays h)) is l e o q) named turn stale =
    let s = (path_course c p).steps in
    found h s d.steps old new (ap (λ (y : Course). y.steps) q ∙ append_assoc s (Busy h ∷ []) (Answer ∷ [])) named turn
found_taken c r own d old new (complete (Comes p a (Again t)) is l e o q) named turn stale =
    let published = ap (λ (y : Course). any_publishes y.steps) q ∙ again_publishes c (path_course c p).steps _ t r is.2.1 (answered_end c.need (turn_end c t) r e) in
    absurd (true_false _ published stale.1)
