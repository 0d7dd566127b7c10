-- What a course says of the host's acts, and of the counts of repository and draws.
use Rattle.std.specs.Prelude.{◌≡◌, ℕ, ◌+◌, ◌<◌, max, List, [], ◌∷◌, ◌++◌, length, Option, Some, None, option_map, is_some}
use Rattle.dp_base.specs.Draws.{DrawState, Draws}
use Rattle.key_elements.specs.Lists.{Extends}
use Rattle.key_ring.specs.Ring.{RingOf}
use Rattle.repo_keeper.specs.Store.{Store, Tally, Moved, no_calls, one_call}
use Rattle.ring_world.specs.declared.step.Step.{Step}
use Rattle.ring_world.specs.declared.step.Step.TheVariants.{Want, Look, Take, Busy, Give, Read, PrivateRead, ReadFailed, WentBack, DrawFailed, Appended, AppendFull, AppendFailed, Publish, Extend, RaiseWant}
use Rattle.ring_world.specs.Course.{Course, drawn_count, ring_count, last_of, any_publishes}
use Rattle.ring_world.specs.Flight.{Sight}
use Rattle.node_calls.specs.HostState.{HostState, AtTurn, turn_by, latest}

-- the acts of a step, where the ring last looked at or published has so many elements; an
-- extension is the publication of the extended ring
abbrev pub acts_of : ℕ → Step → List Step
acts_of front (Want n) = Want n ∷ []
acts_of front (Look f m u e) = Look f m u e ∷ []
acts_of front Take = Take ∷ []
acts_of front (Busy h) = Busy h ∷ []
acts_of front Give = Give ∷ []
acts_of front (Publish f u) = Publish f u ∷ []
acts_of front (Extend u e) = Publish front u ∷ []
acts_of front (RaiseWant n) = RaiseWant n ∷ []
acts_of front _ = []

-- how many elements it has after the step
abbrev pub front_after : ℕ → Step → ℕ
front_after front (Look f m u e) = f
front_after front (Publish f u) = f
front_after front _ = front

abbrev pub looked_count : ℕ → List Step → ℕ
looked_count front [] = front
looked_count front (x ∷ xs) = looked_count (front_after front x) xs

-- the acts of steps
abbrev pub acts : ℕ → List Step → List Step
acts front [] = []
acts front (x ∷ xs) = acts_of front x ++ acts (front_after front x) xs

-- the steps at the turn, and these more
abbrev pub turn_after : List Step → AtTurn → AtTurn
turn_after [] t = t
turn_after (x ∷ xs) t = turn_after xs (turn_by x t)

-- where the turn was taken, its holder is named
abbrev pub Named : Step → Type 0
Named (Busy h) = 0 < h
Named _ = Unit {0}

abbrev pub AreNamed : List Step → Type 0
AreNamed [] = Unit {0}
AreNamed (x ∷ xs) = Named x × AreNamed xs

-- the want number of a node of one thread after the step
abbrev pub want_by : ℕ → Step → ℕ
want_by n (RaiseWant m) = max n m
want_by n _ = n

abbrev pub want_after : ℕ → List Step → ℕ
want_after n [] = n
want_after n (x ∷ xs) = want_after (want_by n x) xs

-- the ring that it shows, after this one was published
abbrev pub ring_shown : Option RingOf → RingOf → RingOf
ring_shown None r = r
ring_shown (Some p) r = p

-- what it shows after a course
abbrev pub shown_by : Course → Sight → Sight
shown_by d one = record { want = want_after one.want d.steps; ring = ring_shown d.published one.ring }

-- what a step adds to the repository's counts
abbrev pub tally_of : Step → Tally
tally_of (Read f) = one_call
tally_of (PrivateRead f) = one_call
tally_of ReadFailed = record one_call { faults = 1 }
tally_of (WentBack h g) = record one_call { shorts = 1 }
tally_of (Appended p) = record one_call { places = p ∷ [] }
tally_of AppendFull = record one_call { fulls = 1 }
tally_of AppendFailed = record one_call { faults = 1 }
tally_of _ = no_calls

abbrev pub both : Tally → Tally → Tally
both a b = record {
  calls = a.calls + b.calls;
  faults = a.faults + b.faults;
  shorts = a.shorts + b.shorts;
  fulls = a.fulls + b.fulls;
  places = a.places ++ b.places;
}

abbrev pub tally : List Step → Tally
tally [] = no_calls
tally (x ∷ xs) = both (tally_of x) (tally xs)

-- and so many calls that have no step
abbrev pub with_unnoted : ℕ → Tally → Tally
with_unnoted k t = record t { calls = t.calls + k }

-- how many draws failed
abbrev pub draw_failed : Step → ℕ
draw_failed DrawFailed = 1
draw_failed _ = 0

abbrev pub draws_failed : List Step → ℕ
draws_failed [] = 0
draws_failed (x ∷ xs) = draw_failed x + draws_failed xs

-- all that a call may change
pub record Books : Type 0 where
  pub steps : List Step
  pub host : HostState
  pub store : Store
  pub draws : DrawState

abbrev pub books : List Step → HostState → Store → DrawState → Books
books steps host store draws = record { steps = steps; host = host; store = store; draws = draws }

-- the steps of the course were added, and all else moved as it says; a call of the repository that
-- found no memory is counted too, and has no step
pub record Recorded (d : Course) (old new : Books) : Type 0 where
  pub steps : new.steps ≡ old.steps ++ d.steps
  pub acts : latest new.host.acts ≡ latest (old.host.acts ++ acts (length old.host.looked.list) d.steps)
  pub front : length new.host.looked.list ≡ looked_count (length old.host.looked.list) d.steps
  pub looked : new.host.looked ≡ last_of old.host.looked d.rings
  pub rings : length d.rings ≡ ring_count d.steps
  pub line : Extends new.host.looked.list old.host.looked.list
  pub floor : Extends new.host.floor old.host.floor
  pub facts : new.host.facts ≡ old.host.facts
  pub single : new.host.single ≡ option_map (shown_by d) old.host.single
  pub turn : new.host.turn ≡ option_map (turn_after d.steps) old.host.turn
  pub named : AreNamed d.steps
  pub store : Moved (with_unnoted d.unnoted (tally d.steps)) old.store new.store
  pub draws : Draws (draws_failed d.steps) d.drawn old.draws new.draws
  pub drawn : length d.drawn ≡ drawn_count d.steps
  pub published : is_some d.published ≡ any_publishes d.steps

-- a course of the kind was taken, and all moved as it says
pub record Does (P : Course → Type 0) (old new : Books) : Type 0 where
  pub course : Course
  pub recorded : Recorded course old new
  pub is : P course
