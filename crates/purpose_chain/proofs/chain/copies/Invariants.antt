-- the texts so far were copied
use Rattle.std.proofs.Common.{◌≡◌, map, take}
use Rattle.std.specs.Prelude.{string_bytes}
use Rattle.purpose_chain.proofs.chain.copies.Given as goal

abbrev pub invariant-loop-text : goal.invariant-loop-text
invariant-loop-text l = map string_bytes l.purposes.items ≡ map string_bytes (take l.text-index l.texts)
