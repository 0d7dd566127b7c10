-- The lawful words of the program (docs/FORMATS.md, "Words").
use Rattle.std.specs.Prelude.{◌≡◌, ◌≢◌, ℕ, ◌≤◌, List, [], ◌∷◌, length, flat_map, All, AllPairs, Bool, true, false, slice_index, codes, ⊤}
use Rattle.std.specs.Fmt.{decimal}
use Rattle.dp_base.specs.declared.ticks.TheConstants.{MAX_TICKS}
use Rattle.dp_answer.specs.declared.app.TheConstants.{MAX_APP}

-- a number in this text would have no sign (43 is '+'), and no zero (48) in front of more digits
abbrev pub IsPlain : List ℕ → Type 0
IsPlain text = (slice_index text 0 ≢ 43) × (slice_index text 0 ≡ 48 → length text ≤ 1)

-- the words are show and the decimal text of a moment, which is at most the greatest
abbrev pub IsShow : List (List ℕ) → ℕ → Type 0
IsShow words moment = (words ≡ codes "show" ∷ decimal moment ∷ []) × (moment ≤ MAX_TICKS)

-- an option of pipe: no keys are made automatically; the application has this name
pub data PipeOption : Type 0 where
  NoAuto : PipeOption
  App : List ℕ → PipeOption

-- the word that says which option it is
abbrev pub flag : PipeOption → List ℕ
flag NoAuto = codes "--no-auto"
flag (App name) = codes "--app"

-- the words of an option: its flag, and behind it its value, where it has one
abbrev pub words_of : PipeOption → List (List ℕ)
words_of NoAuto = flag NoAuto ∷ []
words_of (App name) = flag (App name) ∷ name ∷ []

-- a value isn't empty and doesn't begin with '-' (45)
abbrev pub IsValue : List ℕ → Type 0
IsValue text = (text ≢ []) × (slice_index text 0 ≢ 45)

-- the value of the option is one that it may have
abbrev pub IsOption : PipeOption → Type 0
IsOption NoAuto = ⊤
IsOption (App name) = IsValue name × (length name ≤ MAX_APP)

-- what options set: whether keys are made automatically, and the name of the application
pub record Settings : Type 0 where
  pub auto : Bool
  pub app : List ℕ

-- the settings with one option more
abbrev pub with_option : PipeOption → Settings → Settings
with_option NoAuto s = record s { auto = false }
with_option (App name) s = record s { app = name }

-- the settings by options; without any they are automatic keys and no name
abbrev pub settings_by : List PipeOption → Settings
settings_by [] = record { auto = true; app = [] }
settings_by (option ∷ rest) = with_option option (settings_by rest)

-- the words are those of options, no two of one kind, which set this
pub record AreOptions (words : List (List ℕ)) (settings : Settings) : Type 0 where
  pub options : List PipeOption
  pub spelt : words ≡ flat_map words_of options
  pub lawful : All IsOption options
  pub once : AllPairs (λ a b. flag a ≢ flag b) options
  pub settle : settings_by options ≡ settings

-- the words are pipe and options that set whether keys are made automatically, and the name
abbrev pub IsPipe : List (List ℕ) → Bool → List ℕ → Type 0
IsPipe words auto app =
    (options : List (List ℕ)) × (words ≡ codes "pipe" ∷ options) × AreOptions options (record { auto = auto; app = app })
