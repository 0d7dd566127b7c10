-- The second try, joined from its parts.
use Rattle.std.proofs.Common.{◌≡◌, ℕ, ◌+◌, Bool, true, false, ◌&&◌, List, [], ◌∷◌, refl, sym, ap, ◌∙◌, Option, Result, Err, subst, arith}
use Rattle.std.specs.Prelude.{not, nat_lt}
use Rattle.key_elements.specs.declared.element.Element.{Element}
use Rattle.key_elements.specs.Lists.{Agree, IsFirstDifference}
use Rattle.key_ring.specs.Ring.{RingOf}
use Rattle.ring_world.specs.declared.step.Step.{Step}
use Rattle.ring_world.specs.declared.step.Step.TheVariants.{Want, Take, Give}
use Rattle.ring_world.specs.declared.step.TheConstants.{SECOND_TRY_SPAN}
use Rattle.ring_world.specs.Course.{Course, stepped, led, closed, holds}
use Rattle.ring_world.specs.Flight.{Refusal, Forked, Memory, Sight, sight_steps, whole, cut, FlightGives}
use Rattle.ring_world.specs.Path.{Call, base, Sees, Wants, LookFailed, Parts, Flies, sight_course, after_sight, turn_course}
use Rattle.ring_world.specs.Settle.{any_reads, lacks_named, misses, Settle, Keeps, Stays, Again, settle_course, SecondGives, flew, fly_stopped, SettleGives, settled, settle_stopped}
use Rattle.node_calls.proofs.Fronts.{front_whole, front_led, front_closed, all_leave, all_leave-front, held_behind, free_behind}
use Rattle.node_calls.proofs.Courses.{turn_leaves, turn_noted}

-- behind a second try the turn is free
pub settle_free : (c : Call) (x : Settle) → holds false (settle_course c x).steps ≡ false
settle_free c Keeps = refl
settle_free c (Stays h) = refl
settle_free c (Again t) = free_behind true (turn_course c t).steps

pub settle_noted : (c : Call) (x : Settle) → (settle_course c x).unnoted ≡ 0
settle_noted c Keeps = refl
settle_noted c (Stays h) = refl
settle_noted c (Again t) = turn_noted c t

module _ (c : Call) where
  -- no memory was found for the look
  pub second_none : (n : ℕ) → Wants c n → SecondGives c (Err Memory) (stepped (Want n ∷ []))
  second_none n h = flew (LookFailed n) h tt refl refl

module _ (c : Call) (t : Sight) (sees : Sees c t) where
  pub second_flies : (r : Result RingOf Refusal) → Agree c.own t.ring.list → (d : Course) → FlightGives c.terms (base c t) t r d → SecondGives c r (after_sight t [] d)
  second_flies r line d (whole x is e q) = flew (Flies t x) (sees, is) line e (ap (after_sight t []) q)
  second_flies r line d (cut x is e f) = fly_stopped (Flies t x) (sees, is) line e (front_led (sight_steps t) (t.ring ∷ []) d _ f)

  pub second_apart : (at : ℕ) (left right : List Element) → IsFirstDifference c.own t.ring.list at → left ≡ c.own → right ≡ t.ring.list → SecondGives c (Err (Forked at left right)) (sight_course t [])
  second_apart at left right f l r = rw (l, r) (flew (Parts t at) (sees, f) tt refl refl)

  pub second_apart_lost : (at : ℕ) → IsFirstDifference c.own t.ring.list at → SecondGives c (Err Memory) (sight_course t [])
  second_apart_lost at f = fly_stopped (Parts t at) (sees, f) tt refl (front_whole (sight_course t []) (omega arith))

module _ (c : Call) (s : List Step) (r : RingOf) where
  -- the holder gives the turn back
  pub settle_again : misses c s r ≡ true → (result : Result RingOf Refusal) (d : Course) → SecondGives c result d → SettleGives c s r result (led (Take ∷ []) [] (closed d (Give ∷ [])))
  settle_again m result d (flew x is l e q) = settled (Again x) (m, is) l e (ap (λ (y : Course). led (Take ∷ []) [] (closed y (Give ∷ []))) q)
  settle_again m result d (fly_stopped x is l e f) =
      let held : holds true d.steps ≡ true = held_behind d.steps (all_leave-front d.steps f.steps.0 (sym (ap all_leave f.steps.1) ∙ turn_leaves c x)) in
      settle_stopped x (m, is) l e (record {
        front = led (Take ∷ []) [] d;
        is = front_led (Take ∷ []) [] d (closed (turn_course c x) (Give ∷ [])) (front_closed (Give ∷ []) d (turn_course c x) f);
        given = sym (rw held refl);
      })

and_reads : (a b reads : Bool) → (a && b && not reads) ≡ true → reads ≡ false
and_reads true true false h = refl
and_reads true true true h = cc
and_reads true false reads h = cc
and_reads false b reads h = cc

-- a call that tries once more has read nothing
pub misses-unread : (c : Call) (s : List Step) (r : RingOf) → misses c s r ≡ true → any_reads s ≡ false
misses-unread c s r h = and_reads (lacks_named c.missing r.list) (nat_lt c.terms.now (c.opened_at + SECOND_TRY_SPAN)) (any_reads s) h

-- what a pass that is alone sees matters to a second try alone
pub settle_single : (c : Call) (single : Option Sight) (s : List Step) (r : RingOf) (result : Result RingOf Refusal) (d : Course) → (misses c s r ≡ true → single ≡ c.single) → SettleGives (record c { single = single }) s r result d → SettleGives c s r result d
settle_single c single s r result d same (settled Keeps m l e q) = settled Keeps m l e q
settle_single c single s r result d same (settled (Stays h) m l e q) = settled (Stays h) (m.0, sym (same m.0) ∙ m.1) l e q
settle_single c single s r result d same (settled (Again t) m l e q) =
    subst (λ o. SettleGives (record c { single = o }) s r result d) (same m.0) (settled (Again t) m l e q)
settle_single c single s r result d same (settle_stopped t m l e g) =
    subst (λ o. SettleGives (record c { single = o }) s r result d) (same m.0) (settle_stopped t m l e g)
