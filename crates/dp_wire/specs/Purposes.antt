-- The purposes that an iterator has left.
use Rattle.std.specs.Prelude.{ℕ, List}
use Rattle.dp_wire.specs.Chains.{purposes_of}
use Rattle.dp_wire.specs.declared.purposes.PurposeIter.{PurposeIter}

abbrev pub purposes_left : PurposeIter → List (List ℕ)
purposes_left it = purposes_of it.count it.rest.now
