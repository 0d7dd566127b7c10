-- What a reader's answer says.
use Rattle.std.specs.Prelude.{◌≡◌, ◌⊎◌, ℕ, List, Result, Ok, Err}
use Rattle.key_elements.specs.declared.refused.ElementRefused.{ElementRefused}
use Rattle.key_elements.specs.declared.refused.ElementRefused.TheVariants.{Cut, UnknownKind, BadDate, BadReason, Memory}
use Rattle.key_elements.specs.declared.refused.ListRefused.{ListRefused}
use Rattle.key_elements.specs.declared.refused.ListRefused.TheVariants as refused
use Rattle.key_elements.specs.Reading.{IsRefusedAt, IsTooMany}

-- the answer, with its value seen by view, is what was to be read; want of memory comes only in
-- place of a value
abbrev pub Answers : {X Y : Type 0} → (X → Y) → Result X ElementRefused → Result Y ElementRefused → Type 0
Answers view (Ok x) read = read ≡ Ok (view x)
Answers {Y = Y} view (Err why) read = (read ≡ Err why) ⊎ ((why ≡ Memory) × ((y : Y) × (read ≡ Ok y)))

-- what is told of a list where the element that begins at the place is refused
abbrev pub refused_at : ℕ → ElementRefused → ListRefused
refused_at place Memory = refused.Memory
refused_at place Cut = refused.At place Cut
refused_at place UnknownKind = refused.At place UnknownKind
refused_at place BadDate = refused.At place BadDate
refused_at place BadReason = refused.At place BadReason

-- the refusal has its cause; want of memory has none
abbrev pub Explains : List ℕ → ListRefused → Type 0
Explains bytes (refused.At place why) = IsRefusedAt bytes place why
Explains bytes (refused.TooMany place) = IsTooMany bytes place
Explains bytes refused.Memory = Unit {0}
