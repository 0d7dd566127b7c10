use Rattle.std.proofs.Common.{◌∙◌, length, refl, ap}
use Rattle.dp_answer.proofs.calls.opened_by.Goals as goal

pub returns-in-Ok : goal.returns-in-Ok
returns-in-Ok c = (c.args.ring.now, refl, rw c.by.ensures (refl, refl), rw c.by.ensures c.in-Ok.ensures)

pub returns-in-Err : goal.returns-in-Err
returns-in-Err c =
    (c.args.ring.now, refl, c.len.ensures.value ∙ ap length c.list.ensures, c.in-Err.ensures)
