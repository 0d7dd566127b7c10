use Rattle.default_key.proofs.Maxima.{Found}
use Rattle.default_key.proofs.choice.first_of.Given as goal

abbrev pub invariant-loop-place : goal.invariant-loop-place
invariant-loop-place g l = Found (g.C.Choice.passes l.choice) g.C.Choice.before l.keys l.place l.found
