-- How a run ends whose input is no list, and where it names the input to be wrong.
use Rattle.std.specs.Prelude.{ℕ, ◌+◌, List, take, Option, Some, None, IfSome}
use Rattle.key_elements.specs.declared.refused.ListRefused.{ListRefused}
use Rattle.key_elements.specs.declared.refused.ListRefused.TheVariants as refused
use Rattle.key_elements.specs.Reading.{IsRefusedAt, IsTooMany}
use Rattle.dp_session.specs.declared.status.Status.TheVariants.{BadInput, NoMemory}
use Rattle.dp_server.specs.declared.transfer.TheConstants.{MAX_INPUT}
use Rattle.dp_server.specs.declared.outcome.ShowEnd.{ShowEnd}
use Rattle.dp_session.specs.declared.end.BadPlace.{BadPlace}
use Rattle.dp_session.specs.declared.end.BadWhy.{BadWhy}
use Rattle.dp_session.specs.declared.end.BadWhy.TheVariants.{Element, TooMany}

-- bad input at a place
abbrev pub bad_input : ℕ → BadWhy → ShowEnd
bad_input place why = record { status = BadInput; bad = Some (record { place = place; why = why }) }

-- the end where the input was refused as a list
abbrev pub refusal_outcome : ListRefused → ShowEnd
refusal_outcome (refused.At place why) = bad_input place (Element why)
refusal_outcome (refused.TooMany place) = bad_input place TooMany
refusal_outcome refused.Memory = record { status = NoMemory; bad = None }

-- whole records stand before the place, and there the bytes are wrong for this reason
abbrev pub IsWrong : List ℕ → ℕ → BadWhy → Type 0
IsWrong bytes place (Element why) = IsRefusedAt bytes place why
IsWrong bytes place TooMany = IsTooMany bytes place
IsWrong bytes place _ = ⊥

-- the input that was read, where it is told, is wrong at the place
abbrev pub IsBadPlace : Option (List ℕ) → BadPlace → Type 0
IsBadPlace left bad = IfSome left (λ bytes. IsWrong (take (MAX_INPUT + 1) bytes) bad.place bad.why)
