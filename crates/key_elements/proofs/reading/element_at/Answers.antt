use Rattle.std.proofs.lemmas.Result.{err_from_is_err_and}
use Rattle.key_elements.proofs.Answered.{key_never}
use Rattle.key_elements.proofs.reading.element_at.Goals as goal

pub returns-in_err-key-in-1-clause-key : goal.returns-in_err-key-in-1-clause-key
returns-in_err-key-in-1-clause-key c = λ first e.
    let p = err_from_is_err_and c.from_residual.result c.from_residual.ensures.1 in
    key_never _ _ p.0 c.from_residual.result c.in_err-key-in-1.ensures p.1 p.2 e
