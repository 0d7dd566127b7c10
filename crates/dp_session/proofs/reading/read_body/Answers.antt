use Rattle.std.proofs.Common.{◌≡◌, length, take, arith}
use Rattle.std.proofs.lemmas.List.{length-take}
use Rattle.dp_session.proofs.Taking.{short_body_read}
use Rattle.dp_session.proofs.reading.read_body.Goals as goal

pub returns-then-found-count-clause-body : goal.returns-then-found-count-clause-body
returns-then-found-count-clause-body g c =
    let found = c.in_ok-found-in-Ok.found in
    let buffer = c.read_full.new.buffer in
    let len : length buffer ≡ c.args.len = omega (arith, c.read_full.auto.buffer, c.as_mut_slice.ensures.len, c.in-Ok.ensures.len) in
    let front = rw len at c.in_ok-found-in-Ok.ensures.value in
    rw c.cut.ensures (short_body_read _ _ (take found buffer) found c.args.len front (omega (arith, length-take found buffer, c.in_ok-found-in-Ok.ensures.bound)) c.if-found-count.true)
