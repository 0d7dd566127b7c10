-- A flight: the holder of a node's turn reads the repository, makes a key where one is due, and
-- publishes the ring. Moments and spans are ticks, places count from 0, and bytes drawn are read
-- high byte first.
use Rattle.std.specs.Prelude.{◌≡◌, ℕ, ◌+◌, ◌-◌, ◌/◌, ◌%◌, Bool, true, false, ◌&&◌, nat_lt, List, [], ◌∷◌, ◌++◌, length, Option, Some, None, Result, Ok, Err}
use Rattle.std.specs.Int.{w64, from_be_bytes}
use Rattle.dp_base.specs.Codes.{code_of}
use Rattle.default_key.specs.declared.options.Options.{Options}
use Rattle.default_key.specs.declared.options.TheConstants.{PERIOD}
use Rattle.key_elements.specs.declared.element.Element.{Element}
use Rattle.key_elements.specs.declared.element.KeyRecord.{KeyRecord}
use Rattle.key_elements.specs.declared.list.TheConstants.{MAX_ELEMENTS}
use Rattle.key_ring.specs.Ring.{RingOf, ring_of, extended, policy_at, preferred_key}
use Rattle.repo_keeper.specs.Made.{key_of_draw}
use Rattle.ring_world.specs.declared.step.Step.{Step}
use Rattle.ring_world.specs.declared.step.Step.TheVariants.{Want, Look, Read, ReadFailed, WentBack, Drawn, DrawFailed, Appended, AppendFull, AppendFailed, Publish, Extend}
use Rattle.ring_world.specs.Course.{Course, idle, IsFront}
use Rattle.ring_world.specs.Lists.{IsReadFrom, IsReadUpTo, Reaches, FindsFewer, IsFilled, IsGrown}

-- why a call isn't answered by a ring or a place
pub data Refusal : Type 0 where
  StoreFault : Refusal
  DrawFault : Refusal
  Shorter : ℕ → ℕ → Refusal
  Behind : ℕ → ℕ → Refusal
  Forked : ℕ → List Element → List Element → Refusal
  Full : ℕ → Refusal
  BadDates : Refusal
  Memory : Refusal

-- the want number and the ring that a pass sees of its node at one asking
pub record Sight : Type 0 where
  pub want : ℕ
  pub ring : RingOf

abbrev pub look_step : RingOf → Step
look_step r = Look (length r.list) r.made_at r.until r.excused

abbrev pub publish_step : RingOf → Step
publish_step r = Publish (length r.list) r.until

abbrev pub extend_step : RingOf → Step
extend_step r = Extend r.until r.excused

abbrev pub sight_steps : Sight → List Step
sight_steps s = Want s.want ∷ look_step s.ring ∷ []

-- under which terms a flight is made
pub record Terms : Type 0 where
  pub now : ℕ
  pub options : Options
  -- whether it opens the node: then a repository that went back costs the new key alone
  pub opening : Bool
  -- the lists that the repository holds before the call and at its end, where they are told
  pub before : Option (List Element)
  pub told : Option (List Element)

-- the jitter of a new ring, of eight bytes drawn
abbrev pub jitter_of : List ℕ → ℕ
jitter_of word = from_be_bytes w64 word % (PERIOD / 5 + 1)

-- whether a flight that read the list makes a key
abbrev pub makes_key : Terms → List Element → Bool
makes_key t es = t.options.auto && (policy_at es t.now).renew && nat_lt (length es) MAX_ELEMENTS

-- a new key is activated where the preferred key expires, or at once where none is preferred
abbrev pub activation_of : ℕ → Option KeyRecord → ℕ
activation_of now None = now
activation_of now (Some k) = k.expiration

-- the key that eighty bytes drawn make of the list read
abbrev pub new_key : Terms → List Element → List ℕ → Element
new_key t es bytes =
    key_of_draw bytes t.now (activation_of t.now (preferred_key es t.now)) (t.now + t.options.lifetime) (code_of t.options.new_alg)

-- what a flight reads and appends: no key is due; a key of the bytes drawn is appended; the
-- repository is full; at an opening, it went back
pub data Fetch : Type 0 where
  Plain : List Element → Fetch
  Keyed : List Element → List ℕ → List Element → Fetch
  Filled : List Element → List ℕ → Fetch
  Shrunk : List Element → List ℕ → ℕ → Fetch

-- at which call a flight is refused, after what was read and drawn
pub data Break : Type 0 where
  NoRead : Break
  ShortRead : ℕ → ℕ → Break
  NoDraw : List Element → Break
  NoKeyDraw : List Element → List ℕ → Break
  NoAppend : List Element → List ℕ → List ℕ → Break
  ShortAppend : List Element → List ℕ → List ℕ → ℕ → Break

-- a flight comes to a list, with the eight bytes of its jitter, or is refused
pub data Flight : Type 0 where
  Flown : List ℕ → Fetch → Flight
  Broken : Break → Flight

abbrev pub fetch_course : List ℕ → Fetch → Course
fetch_course w (Plain es) = record idle { steps = Read (length es) ∷ Drawn 8 ∷ []; drawn = w }
fetch_course w (Keyed es k fs) =
    record idle { steps = Read (length es) ∷ Drawn 8 ∷ Drawn 80 ∷ Appended (length fs - 1) ∷ []; drawn = w ++ k }
fetch_course w (Filled es k) =
    record idle { steps = Read (length es) ∷ Drawn 8 ∷ Drawn 80 ∷ AppendFull ∷ []; drawn = w ++ k }
fetch_course w (Shrunk es k got) =
    record idle { steps = Read (length es) ∷ Drawn 8 ∷ Drawn 80 ∷ WentBack (length es) got ∷ []; drawn = w ++ k }

abbrev pub break_course : Break → Course
break_course NoRead = record idle { steps = ReadFailed ∷ [] }
break_course (ShortRead had got) = record idle { steps = WentBack had got ∷ [] }
break_course (NoDraw es) = record idle { steps = Read (length es) ∷ DrawFailed ∷ [] }
break_course (NoKeyDraw es w) =
    record idle { steps = Read (length es) ∷ Drawn 8 ∷ DrawFailed ∷ []; drawn = w }
break_course (NoAppend es w k) =
    record idle { steps = Read (length es) ∷ Drawn 8 ∷ Drawn 80 ∷ AppendFailed ∷ []; drawn = w ++ k }
break_course (ShortAppend es w k got) =
    record idle { steps = Read (length es) ∷ Drawn 8 ∷ Drawn 80 ∷ WentBack (length es) got ∷ []; drawn = w ++ k }

abbrev pub gather_course : Flight → Course
gather_course (Flown w f) = fetch_course w f
gather_course (Broken b) = break_course b

-- the list of the ring that is made
abbrev pub fetched : Fetch → List Element
fetched (Plain es) = es
fetched (Keyed es k fs) = fs
fetched (Filled es k) = es
fetched (Shrunk es k got) = es

abbrev pub break_end : Break → Refusal
break_end NoRead = StoreFault
break_end (ShortRead had got) = Shorter had got
break_end (NoDraw es) = DrawFault
break_end (NoKeyDraw es w) = DrawFault
break_end (NoAppend es w k) = StoreFault
break_end (ShortAppend es w k got) = Shorter (length es) got

-- the ring that a flight makes, or its refusal
abbrev pub gather_end : Terms → Flight → Result RingOf Refusal
gather_end t (Flown w f) = Ok (ring_of (fetched f) t.now (jitter_of w))
gather_end t (Broken b) = Err (break_end b)

-- the list was read during the call: it begins with the base, goes on as the repository does up to its
-- end, and has all that stood there before the call
abbrev pub IsRead : Terms → List Element → List Element → Type 0
IsRead t base es = IsReadUpTo t.told base es × Reaches es t.before

-- what a flight over the base may read and append
abbrev pub IsFetch : Terms → List Element → Fetch → Type 0
IsFetch t base (Plain es) = IsReadFrom t.told base es × (makes_key t es ≡ false)
IsFetch t base (Keyed es k fs) =
    IsRead t base es × (makes_key t es ≡ true) × (length k ≡ 80) × IsGrown es (new_key t es k) fs
    × IsReadFrom t.told base fs
IsFetch t base (Filled es k) =
    IsRead t base es × (makes_key t es ≡ true) × (length k ≡ 80) × IsFilled t.told
IsFetch t base (Shrunk es k got) =
    (t.opening ≡ true) × IsRead t base es × (makes_key t es ≡ true) × (length k ≡ 80)
    × FindsFewer t.told (length es) got

-- where a flight may be refused
abbrev pub IsBreak : Terms → List Element → Break → Type 0
IsBreak t base NoRead = Unit {0}
IsBreak t base (ShortRead had got) = (had ≡ length base) × FindsFewer t.told had got
IsBreak t base (NoDraw es) = IsRead t base es
IsBreak t base (NoKeyDraw es w) = IsRead t base es × (makes_key t es ≡ true) × (length w ≡ 8)
IsBreak t base (NoAppend es w k) =
    IsRead t base es × (makes_key t es ≡ true) × (length w ≡ 8) × (length k ≡ 80)
IsBreak t base (ShortAppend es w k got) =
    (t.opening ≡ false) × IsRead t base es × (makes_key t es ≡ true) × (length w ≡ 8) × (length k ≡ 80)
    × FindsFewer t.told (length es) got

abbrev pub IsFlight : Terms → List Element → Flight → Type 0
IsFlight t base (Flown w f) = (length w ≡ 8) × IsFetch t base f
IsFlight t base (Broken b) = IsBreak t base b

-- what is published at the end: the ring that was made, or after a refusal the ring that was looked
-- at, extended
abbrev pub last_ring : ℕ → Sight → Result RingOf Refusal → RingOf
last_ring now s (Ok r) = r
last_ring now s (Err why) = extended s.ring now s.want

abbrev pub last_step : ℕ → Sight → Result RingOf Refusal → Step
last_step now s (Ok r) = publish_step r
last_step now s (Err why) = extend_step (extended s.ring now s.want)

-- a course, and a publication at its end
abbrev pub publishing : Step → RingOf → Course → Course
publishing x r d =
    record d { steps = d.steps ++ x ∷ []; rings = d.rings ++ r ∷ []; published = Some r }

abbrev pub published_after : ℕ → Sight → Result RingOf Refusal → Course → Course
published_after now s r d = publishing (last_step now s r) (last_ring now s r) d

abbrev pub flight_course : Terms → Sight → Flight → Course
flight_course t s x = published_after t.now s (gather_end t x) (gather_course x)

-- the course of a lawful value that comes to the result; or, for want of memory, a front of one
pub data Gives {A T : Type 0} (Is : A → Type 0) (end : A → Result T Refusal) (course : A → Course) (result : Result T Refusal) (d : Course) : Type 0 where
  whole : (x : A) → Is x → end x ≡ result → d ≡ course x → Gives Is end course result d
  cut : (x : A) → Is x → result ≡ Err Memory → IsFront d (course x) → Gives Is end course result d

-- what a flight reads and appends gives the ring, or the refusal
abbrev pub Gathers : Terms → List Element → Result RingOf Refusal → Course → Type 0
Gathers t base = Gives (IsFlight t base) (gather_end t) gather_course

-- a flight after the sight
abbrev pub FlightGives : Terms → List Element → Sight → Result RingOf Refusal → Course → Type 0
FlightGives t base s = Gives (IsFlight t base) (gather_end t) (flight_course t s)
