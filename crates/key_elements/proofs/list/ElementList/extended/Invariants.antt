-- the elements of the tail so far stand behind those of the list
use Rattle.std.proofs.Common.{◌≡◌, ◌++◌, map}
use Rattle.std.specs.Arc.{arc_value}
use Rattle.key_elements.proofs.list.ElementList.extended.Given as goal

abbrev pub invariant-loop-element : goal.invariant-loop-element
invariant-loop-element l = map arc_value l.items.items ≡ l.self ++ l.yielded
