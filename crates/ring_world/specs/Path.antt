-- The ways of a call to its first ring: a pass that has seen the list own asks at a moment for a ring
-- with at least need elements.
use Rattle.std.specs.Prelude.{◌≡◌, ℕ, ◌<◌, ◌≤◌, Bool, true, false, ◌&&◌, nat_le, max, is_none, List, [], ◌∷◌, ◌++◌, length, Option, None, Result, Ok, Err, IfSome}
use Rattle.dp_base.specs.declared.key_id.KeyId.{KeyId}
use Rattle.key_elements.specs.declared.element.Element.{Element}
use Rattle.key_elements.specs.Lists.{Agree, IsFirstDifference}
use Rattle.key_ring.specs.Ring.{RingOf, ring_of, due}
use Rattle.ring_world.specs.declared.step.Step.{Step}
use Rattle.ring_world.specs.declared.step.Step.TheVariants.{Want, Take, Busy, Give, PrivateRead, ReadFailed, WentBack}
use Rattle.ring_world.specs.Course.{Course, stepped, looking, led, closed, IsFront, IsCutOff}
use Rattle.ring_world.specs.Lists.{longer, IsReadFrom, FindsFewer}
use Rattle.ring_world.specs.Flight.{Refusal, StoreFault, Shorter, Forked, Memory, Sight, sight_steps, Terms, Flight, IsFlight, gather_end, flight_course}

-- what a call is asked, by which pass
pub record Call : Type 0 where
  pub terms : Terms
  pub need : ℕ
  -- the key that the ring should hold, where one is named
  pub missing : Option KeyId
  -- the moment at which the node was opened
  pub opened_at : ℕ
  -- the list that the pass has seen
  pub own : List Element
  -- what a pass that is alone at its node sees before the call; of others it isn't told
  pub single : Option Sight

-- how many elements the ring must have
abbrev pub target : Call → ℕ
target c = max c.need (length c.own)

-- the ring isn't due at the moment, and has as many elements
abbrev pub is_enough_for : ℕ → ℕ → Sight → Bool
is_enough_for now n s =
    is_none (due s.ring now s.want) && nat_le n (length s.ring.list)

abbrev pub is_enough : Call → Sight → Bool
is_enough c s = is_enough_for c.terms.now (target c) s

-- where a read begins: behind the longer of the own list and the ring's
abbrev pub base : Call → Sight → List Element
base c s = longer c.own s.ring.list

-- what the holder of the turn does: no memory is found for its look; that is enough, or differs from
-- the own list at a place; or it flies
pub data HolderPath : Type 0 where
  LookFailed : ℕ → HolderPath
  Rests : Sight → HolderPath
  Parts : Sight → ℕ → HolderPath
  Flies : Sight → Flight → HolderPath

-- what a call does: no memory is found for its first look; that is enough; somebody else has the
-- turn, and it is used though it is due; it is too short, and the call reads for itself; the turn is
-- taken; the private read fails, or finds fewer elements; the look differs from the own list at a place
pub data Path : Type 0 where
  FirstLookFailed : ℕ → Path
  AtOnce : Sight → Path
  Stale : Sight → ℕ → Path
  Alone : Sight → ℕ → List Element → Path
  Turned : Sight → HolderPath → Path
  AloneFailed : Sight → ℕ → Path
  AloneShort : Sight → ℕ → ℕ → ℕ → Path
  Apart : Sight → ℕ → Path

-- a pass that is alone sees what it was shown
abbrev pub Sees : Call → Sight → Type 0
Sees c s = IfSome c.single (λ one. s ≡ one)

-- a pass that is alone is told the want number that it was shown
abbrev pub Wants : Call → ℕ → Type 0
Wants c n = IfSome c.single (λ one. n ≡ one.want)

abbrev pub IsHolderPath : Call → HolderPath → Type 0
IsHolderPath c (LookFailed n) = Wants c n
IsHolderPath c (Rests t) = Sees c t × (is_enough c t ≡ true)
IsHolderPath c (Parts t at) = Sees c t × IsFirstDifference c.own t.ring.list at
IsHolderPath c (Flies t x) = Sees c t × (is_enough c t ≡ false) × IsFlight c.terms (base c t) x

-- a pass that is alone is never told Busy
abbrev pub IsPath : Call → Path → Type 0
IsPath c (FirstLookFailed n) = Wants c n
IsPath c (AtOnce s) = Sees c s × (is_enough c s ≡ true)
IsPath c (Stale s h) = Sees c s × (c.single ≡ None) × (is_enough c s ≡ false) × (target c ≤ length s.ring.list)
IsPath c (Alone s h es) =
    Sees c s × (c.single ≡ None) × (length s.ring.list < target c) × IsReadFrom c.terms.told (base c s) es
IsPath c (Turned s t) = Sees c s × (is_enough c s ≡ false) × IsHolderPath c t
IsPath c (AloneFailed s h) = Sees c s × (c.single ≡ None) × (length s.ring.list < target c)
IsPath c (AloneShort s h had got) =
    Sees c s × (c.single ≡ None) × (length s.ring.list < target c) × (had ≡ length (base c s))
    × FindsFewer c.terms.told had got
IsPath c (Apart s at) = Sees c s × IsFirstDifference c.own s.ring.list at

-- each ring that was looked at agrees with the list seen as far as both reach, but for the one that
-- is told as a fork
abbrev pub InLineHolder : Call → HolderPath → Type 0
InLineHolder c (LookFailed n) = Unit {0}
InLineHolder c (Rests t) = Agree c.own t.ring.list
InLineHolder c (Parts t at) = Unit {0}
InLineHolder c (Flies t x) = Agree c.own t.ring.list

abbrev pub InLine : Call → Path → Type 0
InLine c (FirstLookFailed n) = Unit {0}
InLine c (AtOnce s) = Agree c.own s.ring.list
InLine c (Stale s h) = Agree c.own s.ring.list
InLine c (Alone s h es) = Agree c.own s.ring.list
InLine c (Turned s t) = Agree c.own s.ring.list × InLineHolder c t
InLine c (AloneFailed s h) = Agree c.own s.ring.list
InLine c (AloneShort s h had got) = Agree c.own s.ring.list
InLine c (Apart s at) = Unit {0}

-- a look, and steps behind it
abbrev pub sight_course : Sight → List Step → Course
sight_course s more = looking (sight_steps s ++ more) (s.ring ∷ [])

-- the same in front of a course
abbrev pub after_sight : Sight → List Step → Course → Course
after_sight s more = led (sight_steps s ++ more) (s.ring ∷ [])

abbrev pub turn_course : Call → HolderPath → Course
turn_course c (LookFailed n) = stepped (Want n ∷ [])
turn_course c (Rests t) = sight_course t []
turn_course c (Parts t at) = sight_course t []
turn_course c (Flies t x) = after_sight t [] (flight_course c.terms t x)

abbrev pub path_course : Call → Path → Course
path_course c (FirstLookFailed n) = stepped (Want n ∷ [])
path_course c (AtOnce s) = sight_course s []
path_course c (Stale s h) = sight_course s (Busy h ∷ [])
path_course c (Alone s h es) = sight_course s (Busy h ∷ PrivateRead (length es) ∷ [])
path_course c (Turned s t) = after_sight s (Take ∷ []) (closed (turn_course c t) (Give ∷ []))
path_course c (AloneFailed s h) = sight_course s (Busy h ∷ ReadFailed ∷ [])
path_course c (AloneShort s h had got) = sight_course s (Busy h ∷ WentBack had got ∷ [])
path_course c (Apart s at) = sight_course s []

-- the ring to which a path comes, or its refusal; a private ring has no jitter
abbrev pub turn_end : Call → HolderPath → Result RingOf Refusal
turn_end c (LookFailed n) = Err Memory
turn_end c (Rests t) = Ok t.ring
turn_end c (Parts t at) = Err (Forked at c.own t.ring.list)
turn_end c (Flies t x) = gather_end c.terms x

abbrev pub path_end : Call → Path → Result RingOf Refusal
path_end c (FirstLookFailed n) = Err Memory
path_end c (AtOnce s) = Ok s.ring
path_end c (Stale s h) = Ok s.ring
path_end c (Alone s h es) = Ok (ring_of es c.terms.now 0)
path_end c (Turned s t) = turn_end c t
path_end c (AloneFailed s h) = Err StoreFault
path_end c (AloneShort s h had got) = Err (Shorter had got)
path_end c (Apart s at) = Err (Forked at c.own s.ring.list)

-- the course of what the holder does, which comes to the ring or the refusal; or, for want of memory,
-- a front of one
pub data TurnGives (c : Call) (result : Result RingOf Refusal) (d : Course) : Type 0 where
  turned : (x : HolderPath) → IsHolderPath c x → InLineHolder c x → turn_end c x ≡ result → d ≡ turn_course c x → TurnGives c result d
  turn_stopped : (x : HolderPath) → IsHolderPath c x → InLineHolder c x → result ≡ Err Memory → IsFront d (turn_course c x) → TurnGives c result d

-- the course of a lawful path that comes to the ring or the refusal; or, for want of memory, a front
-- of one, and Give where the turn is held
pub data PathGives (c : Call) (result : Result RingOf Refusal) (d : Course) : Type 0 where
  went : (p : Path) → IsPath c p → InLine c p → path_end c p ≡ result → d ≡ path_course c p → PathGives c result d
  stopped : (p : Path) → IsPath c p → InLine c p → result ≡ Err Memory → IsCutOff d (path_course c p) → PathGives c result d
