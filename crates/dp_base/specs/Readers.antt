-- What a reader's answer says, seen without where things lie in memory.
use Rattle.std.specs.Prelude.{Result, Ok, Err}

-- the answer with its value seen by view
abbrev pub seen : {X Y E : Type 0} → (X → Y) → Result X E → Result Y E
seen view (Ok x) = Ok (view x)
seen view (Err why) = Err why
