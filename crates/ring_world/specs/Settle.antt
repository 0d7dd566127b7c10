-- The one more try of a call whose ring lacks a key that was named, in the first two minutes of a
-- node. Moments and spans are ticks.
use Rattle.std.specs.Prelude.{◌≡◌, ◌+◌, Bool, true, false, ◌&&◌, ◌==◌, not, nat_lt, ℕ, List, [], ◌∷◌, Option, Some, None, is_none, find, Result, Ok, Err}
use Rattle.std.specs.List.{list_any}
use Rattle.dp_base.specs.declared.key_id.KeyId.{KeyId}
use Rattle.key_elements.specs.declared.element.Element.{Element}
use Rattle.key_elements.specs.Lists.{IsFirstDifference}
use Rattle.key_ring.specs.Keys.{keys_of}
use Rattle.key_ring.specs.Ring.{RingOf}
use Rattle.ring_world.specs.declared.step.Step.{Step}
use Rattle.ring_world.specs.declared.step.Step.TheVariants.{Take, Busy, Give, Read, PrivateRead}
use Rattle.ring_world.specs.declared.step.TheConstants.{SECOND_TRY_SPAN}
use Rattle.ring_world.specs.Course.{Course, idle, stepped, led, closed, IsFront, IsCutOff}
use Rattle.ring_world.specs.Flight.{Refusal, Memory, IsFlight}
use Rattle.ring_world.specs.Path.{Call, HolderPath, LookFailed, Rests, Parts, Flies, Sees, Wants, base, InLineHolder, turn_course, turn_end}

-- whether a step read the repository's list
abbrev pub reads : Step → Bool
reads (Read f) = true
reads (PrivateRead f) = true
reads _ = false

abbrev pub any_reads : List Step → Bool
any_reads s = list_any reads s

-- whether no key of the list has the id
abbrev pub lacks : KeyId → List Element → Bool
lacks id es = is_none (find (λ k. k.id.0 == id.0) (keys_of es))

-- whether a key is named, and the list lacks it
abbrev pub lacks_named : Option KeyId → List Element → Bool
lacks_named None es = false
lacks_named (Some id) es = lacks id es

-- whether a call that made these steps and has this ring at hand tries once more
abbrev pub misses : Call → List Step → RingOf → Bool
misses c s r =
    lacks_named c.missing r.list && nat_lt c.terms.now (c.opened_at + SECOND_TRY_SPAN) && not (any_reads s)

-- what a call does with the ring at hand: it keeps to it; somebody else has the turn, and it stays
-- with it; the turn is taken once more
pub data Settle : Type 0 where
  Keeps : Settle
  Stays : ℕ → Settle
  Again : HolderPath → Settle

-- what the holder of the turn does then: it isn't asked whether the look is enough
abbrev pub IsSecond : Call → HolderPath → Type 0
IsSecond c (LookFailed n) = Wants c n
IsSecond c (Rests t) = ⊥
IsSecond c (Parts t at) = Sees c t × IsFirstDifference c.own t.ring.list at
IsSecond c (Flies t x) = Sees c t × IsFlight c.terms (base c t) x

-- a pass that is alone is never told Busy
abbrev pub IsSettled : Call → List Step → RingOf → Settle → Type 0
IsSettled c s r Keeps = misses c s r ≡ false
IsSettled c s r (Stays h) = (misses c s r ≡ true) × (c.single ≡ None)
IsSettled c s r (Again t) = (misses c s r ≡ true) × IsSecond c t

abbrev pub InLineSettle : Call → Settle → Type 0
InLineSettle c Keeps = Unit {0}
InLineSettle c (Stays h) = Unit {0}
InLineSettle c (Again t) = InLineHolder c t

abbrev pub settle_course : Call → Settle → Course
settle_course c Keeps = idle
settle_course c (Stays h) = stepped (Busy h ∷ [])
settle_course c (Again t) = led (Take ∷ []) [] (closed (turn_course c t) (Give ∷ []))

-- the ring that answers, or the refusal
abbrev pub settle_end : Call → RingOf → Settle → Result RingOf Refusal
settle_end c r Keeps = Ok r
settle_end c r (Stays h) = Ok r
settle_end c r (Again t) = turn_end c t

-- the course of what the holder does, which comes to the ring or the refusal; or, for want of memory,
-- a front of one
pub data SecondGives (c : Call) (result : Result RingOf Refusal) (d : Course) : Type 0 where
  flew : (x : HolderPath) → IsSecond c x → InLineHolder c x → turn_end c x ≡ result → d ≡ turn_course c x → SecondGives c result d
  fly_stopped : (x : HolderPath) → IsSecond c x → InLineHolder c x → result ≡ Err Memory → IsFront d (turn_course c x) → SecondGives c result d

-- the course from the ring at hand, after these steps, to the ring that answers or the refusal; or,
-- for want of memory, a front of one, and Give where the turn is held
pub data SettleGives (c : Call) (s : List Step) (r : RingOf) (result : Result RingOf Refusal) (d : Course) : Type 0 where
  settled : (x : Settle) → IsSettled c s r x → InLineSettle c x → settle_end c r x ≡ result → d ≡ settle_course c x → SettleGives c s r result d
  settle_stopped : (t : HolderPath) → IsSettled c s r (Again t) → InLineHolder c t → result ≡ Err Memory → IsCutOff d (settle_course c (Again t)) → SettleGives c s r result d
