-- the turns so far are summed
use Rattle.std.proofs.Common.{slice_index}
use Rattle.gcm_mode.proofs.Turns.{IsCombed}
use Rattle.gcm_mode.proofs.key.combed.Given as goal

abbrev pub invariant-loop : goal.invariant-loop
invariant-loop l = IsCombed l.x (slice_index l.m 8) l.y1 l.y0 l.high l.low l.counter
