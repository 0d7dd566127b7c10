-- the groups before `count` are those of the number, and the others are those of what is left
use Rattle.std.proofs.Common.{◌≡◌, ◌-◌, ◌<◌, ◌≤◌, ◌++◌, length, take}
use Rattle.dp_base.specs.SevenBit.{groups}
use Rattle.dp_base.proofs.Sevens.{reach}
use Rattle.dp_base.proofs.seven_bit.put_7bit.Given as goal

abbrev pub invariant-loop-left : goal.invariant-loop-left
invariant-loop-left l = record {
  within : l.count ≤ 4;
  room : length l.groups ≡ 5;
  below : l.left < reach (4 - l.count);
  same : groups 4 l.fn.n ≡ take l.count l.groups ++ groups (4 - l.count) l.left;
}

abbrev pub decreases-loop-left : goal.decreases-loop-left
decreases-loop-left l = l.left
