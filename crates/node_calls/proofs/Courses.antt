-- Lawful paths, joined from their parts.
use Rattle.std.proofs.Common.{◌≡◌, ℕ, ◌<◌, ◌≤◌, Bool, true, false, ◌&&◌, ◌||◌, List, [], ◌∷◌, ◌++◌, length, refl, sym, ap, ◌∙◌, None, Result, Ok, Err, arith, inl, inr, nat_le, if◌then◌else◌}
use Rattle.std.proofs.lemmas.List.{take_all}
use Rattle.std.proofs.lemmas.Bool.Decides.{nat_tests}
use Rattle.key_elements.specs.declared.element.Element.{Element}
use Rattle.key_elements.specs.Lists.{Agree, IsFirstDifference}
use Rattle.node_calls.proofs.Books.{IsFrontOf}
use Rattle.key_ring.specs.Ring.{RingOf, ring_of}
use Rattle.ring_world.specs.declared.step.Step.{Step}
use Rattle.ring_world.specs.declared.step.Step.TheVariants.{Want, Take, Busy, Give, ReadFailed, PrivateRead}
use Rattle.ring_world.specs.Course.{Course, stepped, closed, IsFront, IsCutOff, holds}
use Rattle.ring_world.specs.Lists.{longer}
use Rattle.ring_world.specs.Flight.{Refusal, StoreFault, Shorter, Forked, Memory, Sight, sight_steps, Plain, Keyed, Filled, Shrunk, NoRead, ShortRead, NoDraw, NoKeyDraw, NoAppend, ShortAppend, Flown, Broken, whole, cut, FlightGives}
use Rattle.ring_world.specs.Path.{Call, target, is_enough_for, is_enough, base, Sees, Wants, HolderPath, LookFailed, Rests, Parts, Flies, Path, FirstLookFailed, AtOnce, Stale, Alone, Turned, AloneFailed, AloneShort, Apart, sight_course, after_sight, turn_course, path_course, TurnGives, turned, turn_stopped, PathGives, went, stopped}
use Rattle.node_calls.specs.Gather.{ReadGives}
use Rattle.node_calls.specs.Calls.{is_private, private_step}
use Rattle.node_calls.proofs.Books.{IsFrontOf-refl}
use Rattle.node_calls.proofs.Flights.{gather_noted}
use Rattle.node_calls.proofs.Fronts.{front_unnoted, front_whole, front_led, front_closed, all_leave, all_leave-front, held_behind, free_behind}

-- the holder of the turn gives it back only at the end
pub turn_leaves : (c : Call) (x : HolderPath) → all_leave (turn_course c x).steps ≡ true
turn_leaves c (LookFailed n) = refl
turn_leaves c (Rests t) = refl
turn_leaves c (Parts t at) = refl
turn_leaves c (Flies t (Flown w (Plain es))) = refl
turn_leaves c (Flies t (Flown w (Keyed es k fs))) = refl
turn_leaves c (Flies t (Flown w (Filled es k))) = refl
turn_leaves c (Flies t (Flown w (Shrunk es k got))) = refl
turn_leaves c (Flies t (Broken NoRead)) = refl
turn_leaves c (Flies t (Broken (ShortRead had got))) = refl
turn_leaves c (Flies t (Broken (NoDraw es))) = refl
turn_leaves c (Flies t (Broken (NoKeyDraw es w))) = refl
turn_leaves c (Flies t (Broken (NoAppend es w k))) = refl
turn_leaves c (Flies t (Broken (ShortAppend es w k got))) = refl

-- behind a path the turn is free
pub path_free : (c : Call) (p : Path) → holds false (path_course c p).steps ≡ false
path_free c (FirstLookFailed n) = refl
path_free c (AtOnce s) = refl
path_free c (Stale s h) = refl
path_free c (Alone s h es) = refl
path_free c (Turned s t) = free_behind true (turn_course c t).steps
path_free c (AloneFailed s h) = refl
path_free c (AloneShort s h had got) = refl
path_free c (Apart s at) = refl

pub turn_noted : (c : Call) (x : HolderPath) → (turn_course c x).unnoted ≡ 0
turn_noted c (LookFailed n) = refl
turn_noted c (Rests t) = refl
turn_noted c (Parts t at) = refl
turn_noted c (Flies t x) = gather_noted x

pub path_noted : (c : Call) (p : Path) → (path_course c p).unnoted ≡ 0
path_noted c (FirstLookFailed n) = refl
path_noted c (AtOnce s) = refl
path_noted c (Stale s h) = refl
path_noted c (Alone s h es) = refl
path_noted c (Turned s t) = turn_noted c t
path_noted c (AloneFailed s h) = refl
path_noted c (AloneShort s h had got) = refl
path_noted c (Apart s at) = refl

-- a course behind which the turn is free, cut off there
pub free_cut : (d w : Course) → holds false d.steps ≡ false → IsFront d w → IsCutOff d w
free_cut d w h f = record { front = d; is = f; given = sym (rw h refl) }

module _ (c : Call) where
  -- no memory was found for the look
  pub turn_none : (n : ℕ) → Wants c n → TurnGives c (Err Memory) (stepped (Want n ∷ []))
  turn_none n h = turned (LookFailed n) h tt refl refl

  pub path_none : (n : ℕ) → Wants c n → PathGives c (Err Memory) (stepped (Want n ∷ []))
  path_none n h = went (FirstLookFailed n) h tt refl refl

module _ (c : Call) (t : Sight) (sees : Sees c t) where
  pub turn_flies : (r : Result RingOf Refusal) → Agree c.own t.ring.list → is_enough c t ≡ false → (d : Course) → FlightGives c.terms (base c t) t r d → TurnGives c r (after_sight t [] d)
  turn_flies r line n d (whole x is e q) = turned (Flies t x) (sees, n, is) line e (ap (after_sight t []) q)
  turn_flies r line n d (cut x is e f) = turn_stopped (Flies t x) (sees, n, is) line e (front_led (sight_steps t) (t.ring ∷ []) d _ f)

  pub turn_rests : Agree c.own t.ring.list → is_enough c t ≡ true → TurnGives c (Ok t.ring) (sight_course t [])
  turn_rests line e = turned (Rests t) (sees, e) line refl refl

  pub turn_apart : (at : ℕ) (left right : List Element) → IsFirstDifference c.own t.ring.list at → left ≡ c.own → right ≡ t.ring.list → TurnGives c (Err (Forked at left right)) (sight_course t [])
  turn_apart at left right f l r = rw (l, r) (turned (Parts t at) (sees, f) tt refl refl)

  pub turn_apart_lost : (at : ℕ) → IsFirstDifference c.own t.ring.list at → TurnGives c (Err Memory) (sight_course t [])
  turn_apart_lost at f = turn_stopped (Parts t at) (sees, f) tt refl (front_whole (sight_course t []) (omega arith))

  pub path_apart : (at : ℕ) (left right : List Element) → IsFirstDifference c.own t.ring.list at → left ≡ c.own → right ≡ t.ring.list → PathGives c (Err (Forked at left right)) (sight_course t [])
  path_apart at left right f l r = rw (l, r) (went (Apart t at) (sees, f) tt refl refl)

  pub path_apart_lost : (at : ℕ) → IsFirstDifference c.own t.ring.list at → PathGives c (Err Memory) (sight_course t [])
  path_apart_lost at f = stopped (Apart t at) (sees, f) tt refl (free_cut (sight_course t []) _ refl (front_whole (sight_course t []) (omega arith)))

  pub path_at_once : Agree c.own t.ring.list → is_enough c t ≡ true → PathGives c (Ok t.ring) (sight_course t [])
  path_at_once line e = went (AtOnce t) (sees, e) line refl refl

module _ (c : Call) (s : Sight) (sees : Sees c s) (line : Agree c.own s.ring.list) (n : is_enough c s ≡ false) where
  pub path_turned : (r : Result RingOf Refusal) (d : Course) → TurnGives c r d → PathGives c r (after_sight s (Take ∷ []) (closed d (Give ∷ [])))
  path_turned r d (turned x is l e q) = went (Turned s x) (sees, n, is) (line, l) e (ap (λ (y : Course). after_sight s (Take ∷ []) (closed y (Give ∷ []))) q)
  path_turned r d (turn_stopped x is l e f) =
      let held : holds true d.steps ≡ true = held_behind d.steps (all_leave-front d.steps f.steps.0 (sym (ap all_leave f.steps.1) ∙ turn_leaves c x)) in
      stopped (Turned s x) (sees, n, is) (line, l) e (record {
        front = after_sight s (Take ∷ []) d;
        is = front_led (sight_steps s ++ Take ∷ []) (s.ring ∷ []) d (closed (turn_course c x) (Give ∷ [])) (front_closed (Give ∷ []) d (turn_course c x) f);
        given = sym (rw held refl);
      })

  module _ (busy : c.single ≡ None) (h : ℕ) where
    pub path_stale : target c ≤ length s.ring.list → PathGives c (Ok s.ring) (sight_course s (Busy h ∷ []))
    path_stale l = went (Stale s h) (sees, busy, n, l) line refl refl

    pub path_alone : (es : List Element) → length s.ring.list < target c → (d : Course) → ReadGives true c.terms.told (base c s) (Ok es) d → PathGives c (Ok (ring_of es c.terms.now 0)) (after_sight s (Busy h ∷ []) d)
    path_alone es l d p = went (Alone s h es) (sees, busy, l, p.0) line refl (ap (after_sight s (Busy h ∷ [])) p.1)

    -- no memory was found for the ring
    pub path_alone_lost : (es : List Element) → length s.ring.list < target c → (d : Course) → ReadGives true c.terms.told (base c s) (Ok es) d → PathGives c (Err Memory) (after_sight s (Busy h ∷ []) d)
    path_alone_lost es l d p =
        let w = sight_course s (Busy h ∷ PrivateRead (length es) ∷ []) in
        rw p.1 (stopped (Alone s h es) (sees, busy, l, p.0) line refl (free_cut w w refl (front_whole w (omega arith))))

    pub path_alone_refused : (why : Refusal) → length s.ring.list < target c → (d : Course) → ReadGives true c.terms.told (base c s) (Err why) d → PathGives c (Err why) (after_sight s (Busy h ∷ []) d)
    path_alone_refused StoreFault l d p = went (AloneFailed s h) (sees, busy, l) line refl (ap (after_sight s (Busy h ∷ [])) p)
    path_alone_refused (Shorter had got) l d p = went (AloneShort s h had got) (sees, busy, l, p.0, p.1) line refl (ap (after_sight s (Busy h ∷ [])) p.2)
    path_alone_refused Memory l d (inl p) =
        let w = record (sight_course s (Busy h ∷ [])) { unnoted = 1 } in
        rw p (stopped (AloneFailed s h) (sees, busy, l) line refl (free_cut w (path_course c (AloneFailed s h)) refl (front_unnoted w (sight_steps s ++ Busy h ∷ []) (ReadFailed ∷ []) [] (s.ring ∷ []) [] None 0 refl)))
    path_alone_refused Memory l d (inr p) = path_alone_lost p.0 l d (p.1, p.2)
    path_alone_refused _ l d p = elim p [ ]

-- lists that agree: the longer extends the shorter
pub IsFrontOf-in_line : (a b : List Element) → Agree a b → length a ≤ length b → IsFrontOf a b
IsFrontOf-in_line a b h l = sym h ∙ take_all (length b) a l

le_true : (m n : ℕ) → nat_le m n ≡ true → m ≤ n
le_true m n h = grind (arith, nat_tests)

le_false : (m n : ℕ) → nat_le m n ≡ false → n < m
le_false m n h = grind (arith, nat_tests)

and_right : (a b : Bool) → (a && b) ≡ true → b ≡ true
and_right true b h = h
and_right false b h = cc

Agree-sym : (a b : List Element) → Agree a b → Agree b a
Agree-sym a b h = sym h

longer_own : (own list : List Element) (b : Bool) → nat_le (length list) (length own) ≡ b → Agree own list → IsFrontOf own (if b then own else list)
longer_own own list true e h = IsFrontOf-refl own
longer_own own list false e h = let l = le_false _ _ e in IsFrontOf-in_line own list h (omega (arith, l))

longer_list : (own list : List Element) (b : Bool) → nat_le (length list) (length own) ≡ b → Agree own list → IsFrontOf list (if b then own else list)
longer_list own list true e h = IsFrontOf-in_line list own (Agree-sym own list h) (le_true _ _ e)
longer_list own list false e h = IsFrontOf-refl list

-- the longer of the two extends both
pub longer_extends_own : (own list : List Element) → Agree own list → IsFrontOf own (longer own list)
longer_extends_own own list h = longer_own own list _ refl h

pub longer_extends_list : (own list : List Element) → Agree own list → IsFrontOf list (longer own list)
longer_extends_list own list h = longer_list own list _ refl h

-- an enough ring has the elements
pub enough-target : (now n : ℕ) (s : Sight) → is_enough_for now n s ≡ true → n ≤ length s.ring.list
enough-target now n s h = le_true n (length s.ring.list) (and_right _ _ h)

or_assoc : (a b c : Bool) → (a || (b || c)) ≡ ((a || b) || c)
or_assoc true b c = refl
or_assoc false b c = refl

private-append : (s t : List Step) → is_private (s ++ t) ≡ (is_private s || is_private t)
private-append [] t = refl
private-append (x ∷ s) t = rw (private-append s t) (or_assoc (private_step x) (is_private s) (is_private t))

or_front : (a b : Bool) → (a || b) ≡ false → a ≡ false
or_front true b h = cc
or_front false b h = refl

pub or_true : (a : Bool) → (a || true) ≡ true
or_true true = refl
or_true false = refl

pub private_front : (s t u : List Step) → u ≡ s ++ t → is_private u ≡ false → is_private s ≡ false
private_front s t u e h = or_front (is_private s) (is_private t) (sym (private-append s t) ∙ sym (ap is_private e) ∙ h)

pub private_read : (s u : List Step) (n : ℕ) → u ≡ s ++ PrivateRead n ∷ [] → is_private u ≡ true
private_read s u n e = ap is_private e ∙ private-append s (PrivateRead n ∷ []) ∙ or_true (is_private s)
