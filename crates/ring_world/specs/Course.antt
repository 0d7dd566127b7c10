-- What a part of a call did: its steps, the bytes that it drew, the rings that it looked at and
-- published.
use Rattle.std.specs.Prelude.{◌≡◌, ℕ, ◌+◌, ◌≤◌, Bool, true, false, ◌||◌, if◌then◌else◌, List, [], ◌∷◌, ◌++◌, Option, None, ◌⊎◌}
use Rattle.std.specs.Option.{option_or}
use Rattle.key_ring.specs.Ring.{RingOf}
use Rattle.ring_world.specs.declared.step.Step.{Step}
use Rattle.ring_world.specs.declared.step.Step.TheVariants.{Look, Take, Give, Drawn, Publish, Extend}

pub record Course : Type 0 where
  pub steps : List Step
  -- the bytes drawn, in order
  pub drawn : List ℕ
  -- the rings looked at and published, in order
  pub rings : List RingOf
  -- the ring last published
  pub published : Option RingOf
  -- how many calls of the repository have no step, since they found no memory
  pub unnoted : ℕ

abbrev pub idle : Course
idle = record { steps = []; drawn = []; rings = []; published = None; unnoted = 0 }

-- steps alone
abbrev pub stepped : List Step → Course
stepped s = record idle { steps = s }

-- steps, and the rings that they look at
abbrev pub looking : List Step → List RingOf → Course
looking s rs = record idle { steps = s; rings = rs }

-- steps before, with the rings that they look at, and steps behind
abbrev pub led : List Step → List RingOf → Course → Course
led s rs d = record d { steps = s ++ d.steps; rings = rs ++ d.rings }

abbrev pub closed : Course → List Step → Course
closed d s = record d { steps = d.steps ++ s }

-- one after the other
abbrev pub joined : Course → Course → Course
joined a b = record {
  steps = a.steps ++ b.steps;
  drawn = a.drawn ++ b.drawn;
  rings = a.rings ++ b.rings;
  published = option_or b.published a.published;
  unnoted = a.unnoted + b.unnoted;
}

-- how many bytes the steps drew
abbrev pub drawn_by : Step → ℕ
drawn_by (Drawn n) = n
drawn_by _ = 0

abbrev pub drawn_count : List Step → ℕ
drawn_count [] = 0
drawn_count (x ∷ s) = drawn_by x + drawn_count s

-- at how many rings the steps look, and how many they publish
abbrev pub rings_by : Step → ℕ
rings_by (Look f m u e) = 1
rings_by (Publish f u) = 1
rings_by (Extend u e) = 1
rings_by _ = 0

abbrev pub ring_count : List Step → ℕ
ring_count [] = 0
ring_count (x ∷ s) = rings_by x + ring_count s

-- the last of the rings, where one was looked at or published
abbrev pub last_of : RingOf → List RingOf → RingOf
last_of r [] = r
last_of r (x ∷ rs) = last_of x rs

-- whether the steps publish a ring
abbrev pub publishes : Step → Bool
publishes (Publish f u) = true
publishes (Extend u e) = true
publishes _ = false

abbrev pub any_publishes : List Step → Bool
any_publishes [] = false
any_publishes (x ∷ s) = publishes x || any_publishes s

-- whether the turn is held after a step, and after steps
abbrev pub holds_after : Bool → Step → Bool
holds_after held Take = true
holds_after held Give = false
holds_after held _ = held

abbrev pub holds : Bool → List Step → Bool
holds held [] = held
holds held (x ∷ s) = holds (holds_after held x) s

-- a front of a course
pub record IsFront (d whole : Course) : Type 0 where
  pub steps : (rest : List Step) × (whole.steps ≡ d.steps ++ rest)
  pub drawn : (rest : List ℕ) × (whole.drawn ≡ d.drawn ++ rest)
  pub rings : (rest : List RingOf) × (whole.rings ≡ d.rings ++ rest)
  pub published : (d.published ≡ None) ⊎ (d.published ≡ whole.published)
  pub unnoted : d.unnoted ≤ 1

-- with the turn given back where it is held
abbrev pub given_back : Course → Course
given_back d = if holds false d.steps then closed d (Give ∷ []) else d

-- a front of a course, and Give where the turn is held
pub record IsCutOff (d whole : Course) : Type 0 where
  pub front : Course
  pub is : IsFront front whole
  pub given : d ≡ given_back front
