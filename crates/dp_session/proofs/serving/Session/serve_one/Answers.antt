use Rattle.std.proofs.Common.{◌+◌, ap, refl}
use Rattle.dp_base.specs.Transfer.{Writes, WritesFront}
use Rattle.dp_session.proofs.Exchanges.{one_more}
use Rattle.dp_session.proofs.serving.Session.serve_one.Goals as goal

pub returns-in-Ok-serve_frame-clause-ok : goal.returns-in-Ok-serve_frame-clause-ok
returns-in-Ok-serve_frame-clause-ok g c =
    let f = rw c.in-Ok-Whole.field-0-is at c.in-Ok-Whole.ensures.frame in
    one_more _ Writes _ _ _ _ _ _ _ _ _ _ _ c.in-Ok-Whole.body.len _ f.0 f.1 f.2.0 f.3 (ap (λ n. 4 + n) c.from.ensures) c.in-Ok.ensures.entries (c.in-Ok-serve_frame.ensures.ok f.0 f.2)

pub returns-clause-err : goal.returns-clause-err
returns-clause-err g c =
    let f = rw c.in-Ok-Whole.field-0-is at c.in-Ok-Whole.ensures.frame in
    rw c.ended-in-Err-serve_frame.ensures (4 + c.in-Ok-Whole.body.len, one_more _ WritesFront _ _ _ _ _ _ _ _ _ _ _ c.in-Ok-Whole.body.len _ f.0 f.1 f.2.0 f.3 refl c.in-Ok.ensures.entries (c.in-Err-serve_frame.ensures.err f.0 f.2), refl)
