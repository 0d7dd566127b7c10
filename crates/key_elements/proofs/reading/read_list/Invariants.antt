-- the bytes before `at` are the records of the elements so far
use Rattle.std.proofs.Common.{◌≤◌, ◌-◌, length, map, take}
use Rattle.std.specs.Arc.{arc_value}
use Rattle.key_elements.specs.declared.list.TheConstants.{MAX_ELEMENTS}
use Rattle.key_elements.specs.Record.{AreRecords}
use Rattle.key_elements.proofs.reading.read_list.Given as goal

abbrev pub invariant-loop-at : goal.invariant-loop-at
invariant-loop-at l = record {
  within : l.at ≤ length l.bytes;
  few : length l.items.items ≤ MAX_ELEMENTS;
  records : AreRecords (take l.at l.bytes) (map arc_value l.items.items);
}

abbrev pub decreases-loop-at : goal.decreases-loop-at
decreases-loop-at l = length l.bytes - l.at
