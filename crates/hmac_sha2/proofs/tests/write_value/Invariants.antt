-- the bytes before the place were fed
use Rattle.std.proofs.Common.{◌-◌, ◌≤◌, length, take}
use Rattle.hmac_sha2.proofs.tests.write_value.Given as goal

abbrev pub invariant-loop-at : goal.invariant-loop-at
invariant-loop-at g l =
    (l.at ≤ length l.text) × g.P.Prf.holds l.prf l.key (take l.at l.text)

abbrev pub decreases-loop-at : goal.decreases-loop-at
decreases-loop-at g l = length l.text - l.at
