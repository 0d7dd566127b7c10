-- the lists are the same before the place
use Rattle.std.proofs.Common.{◌≡◌, take}
use Rattle.key_elements.proofs.list.ElementList.first_difference.Given as goal

abbrev pub invariant-loop-place : goal.invariant-loop-place
invariant-loop-place l = take l.place l.self ≡ take l.place l.other
