-- the bytes before `place` are groups before the last, and have the value
use Rattle.std.proofs.Common.{◌≡◌, ◌-◌, ◌^◌, ◌<◌, ◌≤◌, length, drop}
use Rattle.dp_base.specs.SevenBit.{groups_at, seven_at}
use Rattle.dp_base.proofs.Sevens.{above}
use Rattle.dp_base.proofs.seven_bit.number_at.Given as goal

abbrev pub invariant-loop-place : goal.invariant-loop-place
invariant-loop-place l = record {
  within : l.place ≤ length l.bytes;
  power : l.unit ≡ 128 ^ l.place;
  below : l.value < 128 ^ l.place;
  same : seven_at l.bytes ≡ above l.value l.unit (groups_at (5 - l.place) (drop l.place l.bytes));
}
