-- the part up to the place is there
use Rattle.std.proofs.Common.{◌≡◌, drop, take}
use Rattle.repo_keeper.proofs.mem_keeper.part_of.Given as goal

abbrev pub invariant-loop-place : goal.invariant-loop-place
invariant-loop-place l = l.part.items ≡ drop l.from (take l.place l.list)
