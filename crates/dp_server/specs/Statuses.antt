-- The statuses of runs (docs/FORMATS.md, "Statuses").
use Rattle.std.specs.Prelude.{◌≡◌, ◌<◌, ◌-◌, ◌^◌, ℕ}
use Rattle.dp_session.specs.declared.status.Status.{Status}
use Rattle.dp_session.specs.declared.status.Status.TheVariants.{Done, BadWords, BadInput, ReadFault, WriteFault, StoreFault, DrawFault, NoMemory, Spent, Forked}

-- the statuses that an input may have that is a list
abbrev pub IsAccepting : Status → Type 0
IsAccepting Done = Unit {0}
IsAccepting BadWords = ⊥
IsAccepting BadInput = ⊥
IsAccepting ReadFault = Unit {0}
IsAccepting WriteFault = Unit {0}
IsAccepting StoreFault = ⊥
IsAccepting DrawFault = ⊥
IsAccepting NoMemory = Unit {0}
IsAccepting Spent = ⊥
IsAccepting Forked = ⊥

-- the statuses that an input may have that is none
abbrev pub IsRefusing : Status → Type 0
IsRefusing Done = ⊥
IsRefusing BadWords = ⊥
IsRefusing BadInput = Unit {0}
IsRefusing ReadFault = Unit {0}
IsRefusing WriteFault = ⊥
IsRefusing StoreFault = ⊥
IsRefusing DrawFault = ⊥
IsRefusing NoMemory = Unit {0}
IsRefusing Spent = ⊥
IsRefusing Forked = ⊥

-- the statuses with which show ends
abbrev pub IsShowStatus : Status → Type 0
IsShowStatus Done = Unit {0}
IsShowStatus BadWords = ⊥
IsShowStatus BadInput = Unit {0}
IsShowStatus ReadFault = Unit {0}
IsShowStatus WriteFault = Unit {0}
IsShowStatus StoreFault = ⊥
IsShowStatus DrawFault = ⊥
IsShowStatus NoMemory = Unit {0}
IsShowStatus Spent = ⊥
IsShowStatus Forked = ⊥

-- a count didn't rise, and isn't at its end, where it can't
abbrev pub StoodStill : ℕ → ℕ → Type 0
StoodStill old new = (new ≡ old) × (old < 2 ^ 64 - 1)
