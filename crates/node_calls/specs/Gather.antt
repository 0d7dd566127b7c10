-- What one call of the repository or of the draws leaves: its step, and what it gave.
use Rattle.std.specs.Prelude.{◌≡◌, ℕ, ◌-◌, Bool, true, false, List, [], ◌∷◌, length, Option, Result, Ok, Err, ◌⊎◌}
use Rattle.key_elements.specs.declared.element.Element.{Element}
use Rattle.key_elements.specs.declared.element.Element.TheVariants.{Key}
use Rattle.key_elements.specs.declared.element.KeyRecord.{KeyRecord}
use Rattle.key_elements.specs.declared.list.TheConstants.{MAX_ELEMENTS}
use Rattle.repo_keeper.specs.declared.repo.RepoError.{RepoError}
use Rattle.repo_keeper.specs.declared.repo.RepoError.TheVariants.{Failed, Short, Full as RepoFull, Memory as RepoMemory}
use Rattle.ring_world.specs.declared.step.Step.{Step}
use Rattle.ring_world.specs.declared.step.Step.TheVariants.{Read, PrivateRead, ReadFailed, WentBack, Drawn, DrawFailed, Appended, AppendFull, AppendFailed}
use Rattle.ring_world.specs.Course.{Course, idle, stepped}
use Rattle.ring_world.specs.Lists.{IsReadFrom, FindsFewer, IsFilled, IsGrown}
use Rattle.ring_world.specs.Flight.{Refusal, StoreFault, DrawFault, Shorter, Behind, Forked, Full, BadDates, Memory}
use Rattle.node_calls.specs.declared.error.NodeError.{NodeError}
use Rattle.node_calls.specs.declared.error.NodeError.TheVariants as errors

-- an error as the paths name it
abbrev pub refusal : NodeError → Refusal
refusal errors.StoreFault = StoreFault
refusal errors.DrawFault = DrawFault
refusal (errors.WentBack had got) = Shorter had got
refusal (errors.Behind have need) = Behind have need
refusal (errors.Forked f) = Forked f.at f.left f.right
refusal (errors.Full count) = Full count
refusal errors.BadDates = BadDates
refusal errors.Memory = Memory

abbrev pub in_paths : {A : Type 0} → Result A NodeError → Result A Refusal
in_paths (Ok x) = Ok x
in_paths (Err why) = Err (refusal why)

abbrev pub is_memory : Refusal → Bool
is_memory Memory = true
is_memory _ = false

-- whether a flight goes on without the key whose append was refused: where the repository is full,
-- and at an opening where it went back
abbrev pub goes_on : Bool → Refusal → Bool
goes_on opening (Full count) = true
goes_on opening (Shorter had got) = opening
goes_on opening _ = false

-- the refusal and the step of a repository that was handed the number of elements known
abbrev pub refused_as : ℕ → RepoError → Refusal
refused_as known Failed = StoreFault
refused_as known (Short have) = Shorter known have
refused_as known (RepoFull count) = Full count
refused_as known RepoMemory = Memory

abbrev pub refusal_steps : ℕ → Step → RepoError → List Step
refusal_steps known failed Failed = failed ∷ []
refusal_steps known failed (Short have) = WentBack known have ∷ []
refusal_steps known failed (RepoFull count) = AppendFull ∷ []
refusal_steps known failed RepoMemory = []

abbrev pub read_step : Bool → ℕ → Step
read_step true front = PrivateRead front
read_step false front = Read front

-- a call that found no memory
abbrev pub unnoted_call : Course
unnoted_call = record idle { unnoted = 1 }

-- what a read from the base gave
abbrev pub ReadGives : Bool → Option (List Element) → List Element → Result (List Element) Refusal → Course → Type 0
ReadGives private told base (Ok es) d =
    IsReadFrom told base es × (d ≡ stepped (read_step private (length es) ∷ []))
ReadGives private told base (Err StoreFault) d = d ≡ stepped (ReadFailed ∷ [])
ReadGives private told base (Err (Shorter had got)) d =
    (had ≡ length base) × FindsFewer told had got × (d ≡ stepped (WentBack had got ∷ []))
ReadGives private told base (Err Memory) d =
    (d ≡ unnoted_call)
    ⊎ ((es : List Element) × IsReadFrom told base es × (d ≡ stepped (read_step private (length es) ∷ [])))
ReadGives private told base (Err _) d = ⊥

-- what a draw of so many bytes gave
abbrev pub DrawGives : ℕ → Result (List ℕ) Refusal → Course → Type 0
DrawGives n (Ok bytes) d = (length bytes ≡ n) × (d ≡ record idle { steps = Drawn n ∷ []; drawn = bytes })
DrawGives n (Err DrawFault) d = d ≡ stepped (DrawFailed ∷ [])
DrawGives n (Err _) d = ⊥

-- what a draw of eighty bytes for an element gave
abbrev pub KeyGives : (List ℕ → Element) → Result Element Refusal → Course → Type 0
KeyGives make (Ok e) d =
    (bytes : List ℕ) × (e ≡ make bytes) × (length bytes ≡ 80)
    × (d ≡ record idle { steps = Drawn 80 ∷ []; drawn = bytes })
KeyGives make (Err DrawFault) d = d ≡ stepped (DrawFailed ∷ [])
KeyGives make (Err _) d = ⊥

-- the element is a key
abbrev pub IsKeyElement : Element → Type 0
IsKeyElement e = (k : KeyRecord) × (e ≡ Key k)

-- what an append to the list gave: the list that ends with the new element
abbrev pub AppendGives : Option (List Element) → List Element → Element → Result (List Element) Refusal → Course → Type 0
AppendGives told es e (Ok fs) d =
    IsReadFrom told es fs × IsGrown es e fs × (d ≡ stepped (Appended (length fs - 1) ∷ []))
AppendGives told es e (Err (Full count)) d =
    (count ≡ MAX_ELEMENTS) × IsFilled told × (d ≡ stepped (AppendFull ∷ []))
AppendGives told es e (Err StoreFault) d = d ≡ stepped (AppendFailed ∷ [])
AppendGives told es e (Err (Shorter had got)) d =
    (had ≡ length es) × FindsFewer told had got × (d ≡ stepped (WentBack had got ∷ []))
AppendGives told es e (Err Memory) d =
    (d ≡ unnoted_call)
    ⊎ ((fs : List Element) × IsReadFrom told es fs × IsGrown es e fs × (d ≡ stepped (Appended (length fs - 1) ∷ [])))
AppendGives told es e (Err _) d = ⊥
