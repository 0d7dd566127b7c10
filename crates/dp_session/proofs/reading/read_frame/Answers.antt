use Rattle.std.proofs.Common.{◌≡◌, length, arith}
use Rattle.std.proofs.lemmas.Result.{err_from_is_err_and}
use Rattle.dp_session.proofs.Taking.{part_of_head, whole_head, frame_of_body, cut_behind, bad_head}
use Rattle.dp_session.proofs.reading.read_frame.Goals as goal

pub returns-in_ok-read_body-in-Ok-clause-frame : goal.returns-in_ok-read_body-in-Ok-clause-frame
returns-in_ok-read_body-in-Ok-clause-frame g c =
    let head = c.read_full.new.buffer in
    let four : length head ≡ 4 = omega (arith, c.read_full.auto.buffer) in
    let taken = whole_head _ _ head c.in_ok-count.count four c.if-count-lt4.false c.in_ok-count.ensures.value in
    frame_of_body _ _ _ head c.in-Ok.len c.in-Ok.ensures.len.1 c.in-Ok.ensures.len.0 taken _ c.in_ok-read_body-in-Ok.ensures.body

pub returns-in_err-read_body-in-Ok-clause-frame : goal.returns-in_err-read_body-in-Ok-clause-frame
returns-in_err-read_body-in-Ok-clause-frame g c =
    let head = c.read_full.new.buffer in
    let four : length head ≡ 4 = omega (arith, c.read_full.auto.buffer) in
    let taken = whole_head _ _ head c.in_ok-count.count four c.if-count-lt4.false c.in_ok-count.ensures.value in
    let p = err_from_is_err_and c.from_residual-in_err-read_body-in-Ok.result c.from_residual-in_err-read_body-in-Ok.ensures.1 in
    rw (p.1, p.2) (cut_behind _ _ _ head c.in-Ok.len c.in-Ok.ensures.len.1 c.in-Ok.ensures.len.0 taken c.in_err-read_body-in-Ok.field-0.0 c.in_err-read_body-in-Ok.ensures.body)

pub returns-in-Err-clause-frame : goal.returns-in-Err-clause-frame
returns-in-Err-clause-frame g c =
    let head = c.read_full.new.buffer in
    let four : length head ≡ 4 = omega (arith, c.read_full.auto.buffer) in
    let taken = whole_head _ _ head c.in_ok-count.count four c.if-count-lt4.false c.in_ok-count.ensures.value in
    bad_head _ _ head c.in-Err.why four taken c.in-Err.ensures.bad

pub returns-in_err-count-clause-frame : goal.returns-in_err-count-clause-frame
returns-in_err-count-clause-frame g c =
    let head = c.read_full.new.buffer in
    let four : length head ≡ 4 = omega (arith, c.read_full.auto.buffer) in
    let p = err_from_is_err_and c.from_residual.result c.from_residual.ensures.1 in
    rw (p.1, p.2) (part_of_head _ _ (length head) (omega (arith, four)) c.in_err-count.ensures.fewer)
