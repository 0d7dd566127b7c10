-- What words ask for.
use Rattle.std.specs.Prelude.{◌≡◌, ℕ, Bool, true, List, [], ◌++◌}
use Rattle.dp_server.specs.declared.words.Command.{Command}
use Rattle.dp_server.specs.declared.words.Command.TheVariants as commands
use Rattle.dp_server.specs.declared.words.PipeOptions.{PipeOptions}
use Rattle.dp_server.specs.declared.words.OptionView.{OptionView}
use Rattle.dp_server.specs.declared.words.OptionView.TheVariants as views
use Rattle.dp_server.specs.Words.{IsShow, IsPipe, PipeOption, NoAuto, App, words_of, IsOption, Settings}

-- the lawful forms, with what their words say
pub data Form : Type 0 where
  Show : ℕ → Form
  Pipe : Bool → List ℕ → Form

-- the form whose words ask for the command
abbrev pub form_of : Command → Form
form_of (commands.Show moment) = Show moment
form_of (commands.Pipe options) = Pipe options.auto options.app.now

-- the words are of the form
abbrev pub IsForm : List (List ℕ) → Form → Type 0
IsForm words (Show moment) = IsShow words moment
IsForm words (Pipe auto app) = IsPipe words auto app

-- the words are of a lawful form
abbrev pub IsLawful : List (List ℕ) → Type 0
IsLawful words = (form : Form) × IsForm words form

-- the option that is viewed
abbrev pub option_of : OptionView → PipeOption
option_of views.NoAuto = NoAuto
option_of (views.App name) = App name.now

-- what the options set
abbrev pub settings_of : PipeOptions → Settings
settings_of o = record { auto = o.auto; app = o.app.now }

-- the words begin with those of a lawful option, and the rest is behind them
abbrev pub IsNext : List (List ℕ) → PipeOption → List (List ℕ) → Type 0
IsNext words option rest = IsOption option × (words ≡ words_of option ++ rest)

-- no option of this kind is set
abbrev pub IsFree : Settings → PipeOption → Type 0
IsFree s NoAuto = s.auto ≡ true
IsFree s (App name) = s.app ≡ []
