use Rattle.std.proofs.Common.{◌≡◌, ◌++◌, length, take, drop, ◌∙◌, arith}
use Rattle.std.proofs.lemmas.List.{length-append, length-take, length-drop}
use Rattle.std.proofs.lemmas.Result.{err_from_is_err_and}
use Rattle.dp_base.proofs.KnownBytes.{Consumes-both}
use Rattle.dp_session.proofs.Taking.{TakesFewer-after, TakesFront-after, Consumes-front}
use Rattle.dp_session.proofs.reading.pass_over.Goals as goal

pub returns-in_err-more-clause-fewer : goal.returns-in_err-more-clause-fewer
returns-in_err-more-clause-fewer g c =
    let i = c.loop-done.invariant.read in
    let room : length c.read_full.new.buffer ≡ c.min-room.result = omega (arith, c.read_full.auto.buffer, c.min-room.ensures, c.loop-done.invariant.room, length-take c.min-room.result c.loop-done.piece) in
    let p = err_from_is_err_and c.from_residual.result c.from_residual.ensures.1 in
    rw p.1 (TakesFewer-after _ _ _ i.0 (length c.read_full.new.buffer) c.args.count i.2 c.in_err-more.ensures.fewer (omega (arith, i.1, room, c.min-room.ensures, c.loop-done.invariant.within)))

pub returns-then-more-room-clause-value : goal.returns-then-more-room-clause-value
returns-then-more-room-clause-value g c =
    let i = c.loop-done.invariant.read in
    let more = c.in_ok-more.more in
    let buffer = c.read_full.new.buffer in
    let room : length buffer ≡ c.min-room.result = omega (arith, c.read_full.auto.buffer, c.min-room.ensures, c.loop-done.invariant.room, length-take c.min-room.result c.loop-done.piece) in
    let ys : length (take more buffer) ≡ more = omega (arith, length-take more buffer, c.in_ok-more.ensures.bound) in (
      i.0 ++ take more buffer,
      omega (arith, length-append i.0 (take more buffer), i.1, ys),
      TakesFront-after _ _ _ i.0 (take more buffer) (length buffer) c.args.count i.2 c.in_ok-more.ensures.value (omega (arith, i.1, room, c.min-room.ensures, c.loop-done.invariant.within)) (omega (arith, ys, room, c.if-more-room.true)),
    )

pub loop-done-preserved : goal.loop-done-preserved
loop-done-preserved g c =
    let i = c.loop-done.invariant.read in
    let more = c.in_ok-more.more in
    let buffer = c.read_full.new.buffer in
    let room : length buffer ≡ c.min-room.result = omega (arith, c.read_full.auto.buffer, c.min-room.ensures, c.loop-done.invariant.room, length-take c.min-room.result c.loop-done.piece) in
    let ys : length (take more buffer) ≡ more = omega (arith, length-take more buffer, c.in_ok-more.ensures.bound) in
    let front = Consumes-front _ _ (take more buffer) (length buffer) c.in_ok-more.ensures.value in
    record {
      within = omega (arith, c.min-room.ensures, room, c.in_ok-more.ensures.bound);
      room = omega (arith, room, length-append buffer (drop c.min-room.result c.loop-done.piece), length-drop c.min-room.result c.loop-done.piece, c.loop-done.invariant.room, c.min-room.ensures);
      read = (i.0 ++ take more buffer, omega (arith, length-append i.0 (take more buffer), i.1, ys), Consumes-both _ _ _ i.0 (take more buffer) i.2 front);
      no_fault = c.in_ok-more.ensures.no_fault ∙ c.loop-done.invariant.no_fault;
    }
