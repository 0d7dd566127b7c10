-- the fields of the purposes so far were added
use Rattle.std.proofs.Common.{◌≡◌, ◌++◌, map, take}
use Rattle.std.specs.Prelude.{string_bytes}
use Rattle.std.specs.List.{flat_map}
use Rattle.purpose_chain.specs.Chain.{purpose_field}
use Rattle.purpose_chain.proofs.chain.put_purposes.Given as goal

abbrev pub invariant-loop-purpose : goal.invariant-loop-purpose
invariant-loop-purpose l =
    l.out.items ≡ l.fn.out.items ++ flat_map purpose_field (map string_bytes (take l.purpose-index l.purposes))
