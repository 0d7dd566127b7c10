-- The whole of a call that needs a ring: its path to a ring, the one more try for a key that is
-- missing, and its answer.
use Rattle.std.specs.Prelude.{◌≡◌, ℕ, List, [], ◌∷◌, Result, Ok, Err, nat_le, length, if◌then◌else◌}
use Rattle.key_elements.specs.declared.element.Element.{Element}
use Rattle.key_ring.specs.Ring.{RingOf}
use Rattle.ring_world.specs.declared.step.Step.{Step}
use Rattle.ring_world.specs.declared.step.Step.TheVariants.{Answer}
use Rattle.ring_world.specs.Course.{Course, closed, joined, IsCutOff}
use Rattle.ring_world.specs.Flight.{Refusal, Behind, Memory}
use Rattle.ring_world.specs.Path.{Call, Path, IsPath, InLine, path_course, path_end}
use Rattle.ring_world.specs.Settle.{Settle, IsSettled, InLineSettle, settle_course, settle_end}

-- a call comes by a path to a ring and settles it, or is refused on its path
pub data Way : Type 0 where
  Comes : Path → RingOf → Settle → Way
  Fails : Path → Way

abbrev pub IsWay : Call → Way → Type 0
IsWay c (Comes p r x) = IsPath c p × (path_end c p ≡ Ok r) × IsSettled c (path_course c p).steps r x
IsWay c (Fails p) = IsPath c p × (why : Refusal) × (path_end c p ≡ Err why)

abbrev pub InLineWay : Call → Way → Type 0
InLineWay c (Comes p r x) = InLine c p × InLineSettle c x
InLineWay c (Fails p) = InLine c p

abbrev pub way_course : Call → Way → Course
way_course c (Comes p r x) = joined (path_course c p) (settle_course c x)
way_course c (Fails p) = path_course c p

-- the ring that answers, or the refusal
abbrev pub way_end : Call → Way → Result RingOf Refusal
way_end c (Comes p r x) = settle_end c r x
way_end c (Fails p) = path_end c p

-- by a ring that is long enough the call is answered
abbrev pub answered : ℕ → Result RingOf Refusal → Result RingOf Refusal
answered need (Ok r) = if nat_le need (length r.list) then Ok r else Err (Behind (length r.list) need)
answered need (Err why) = Err why

abbrev pub answer_steps : Result RingOf Refusal → List Step
answer_steps (Ok r) = Answer ∷ []
answer_steps (Err why) = []

-- the list that the pass has seen after a call: that of the ring that answers, also where it is
-- shorter than need
abbrev pub own_after : List Element → Result RingOf Refusal → List Element
own_after own (Ok r) = r.list
own_after own (Err why) = own

-- the steps of a call are those of a lawful way, and the answer and the list seen afterwards are
-- those to which it comes; or, for want of memory, it was cut off
pub data CallPath (c : Call) (result : Result RingOf Refusal) (own : List Element) (d : Course) : Type 0 where
  complete : (x : Way) → IsWay c x → InLineWay c x → answered c.need (way_end c x) ≡ result → own ≡ own_after c.own (way_end c x) → d ≡ closed (way_course c x) (answer_steps (way_end c x)) → CallPath c result own d
  cut_off : (x : Way) → IsWay c x → InLineWay c x → result ≡ Err Memory → own ≡ c.own → IsCutOff d (way_course c x) → CallPath c result own d
