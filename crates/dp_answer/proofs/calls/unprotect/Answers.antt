use Rattle.std.proofs.Common.{Ok}
use Rattle.dp_answer.proofs.calls.unprotect.Goals as goal

pub returns-in-Ok-clause-unprotects : goal.returns-in-Ok-clause-unprotects
returns-in-Ok-clause-unprotects g c =
    (Ok c.in-Ok.ring, rw c.named_in-missing.ensures at c.in-Ok.ensures.path, c.opened_by.ensures)
