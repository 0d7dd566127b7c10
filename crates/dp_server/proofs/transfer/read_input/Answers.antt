use Rattle.std.proofs.Common.{◌+◌, ◌-◌, ◌<◌, ◌≤◌, ◌++◌, length, take, refl, arith}
use Rattle.std.proofs.lemmas.List.{length-append, length-take, append-nil}
use Rattle.dp_server.specs.declared.transfer.TheConstants.{MAX_INPUT}
use Rattle.dp_base.proofs.KnownBytes.{Consumes-both, Consumes-kept, TakesFront-full, TakesFront-end, TakesAtMost-consumes, TakesAtMost-front}
use Rattle.dp_server.proofs.transfer.read_input.Goals as goal

pub returns-in_err-count-clause-takes : goal.returns-in_err-count-clause-takes
returns-in_err-count-clause-takes g c =
    TakesAtMost-consumes _ _ c.loop-buffer.bytes.items (MAX_INPUT + 1) c.loop-buffer.invariant.within (Consumes-kept _ _ _ _ c.loop-buffer.invariant.read c.in_err-count.ensures.bytes)

pub returns-then-count-eq0-clause-value : goal.returns-then-count-eq0-clause-value
returns-then-count-eq0-clause-value g c =
    let some : 0 < length c.read.new.buffer = omega (arith, c.read.auto.buffer, c.min-room.ensures, length-take c.min-room.result c.loop-buffer.buffer, c.loop-buffer.invariant.room) in
    let last = rw c.if-count-eq0.true at c.in_ok-count.ensures.bytes in
    let all = Consumes-both _ _ _ _ _ c.loop-buffer.invariant.read last.0 in
    TakesFront-end _ _ _ (MAX_INPUT + 1) c.loop-buffer.invariant.within (rw append-nil at all) (last.1 refl some)

pub returns-then-count-eq0-clause-takes : goal.returns-then-count-eq0-clause-takes
returns-then-count-eq0-clause-takes g c =
    TakesAtMost-front _ _ c.loop-buffer.bytes.items (MAX_INPUT + 1) (returns-then-count-eq0-clause-value g c)

pub returns-in_err-extend_from_slice-clause-takes : goal.returns-in_err-extend_from_slice-clause-takes
returns-in_err-extend_from_slice-clause-takes g c =
    let reads = Consumes-both _ _ _ _ _ c.loop-buffer.invariant.read c.in_ok-count.ensures.bytes.0 in
    let few : length c.read.new.buffer ≤ MAX_INPUT + 1 - length c.loop-buffer.bytes.items =
    omega (arith, c.read.auto.buffer, c.min-room.ensures, length-take c.min-room.result c.loop-buffer.buffer, c.loop-buffer.invariant.room) in
    let le : length (c.loop-buffer.bytes.items ++ take c.in_ok-count.count c.read.new.buffer) ≤ MAX_INPUT + 1 =
    omega (arith, c.loop-buffer.invariant.within, length-append c.loop-buffer.bytes.items (take c.in_ok-count.count c.read.new.buffer), length-take c.in_ok-count.count c.read.new.buffer, c.in_ok-count.ensures.bound, few) in
    TakesAtMost-consumes _ _ _ _ le reads

pub returns-clause-value : goal.returns-clause-value
returns-clause-value g c =
    TakesFront-full _ _ c.loop-buffer.bytes.items (MAX_INPUT + 1) (omega (arith, c.loop-buffer.invariant.within)) c.loop-buffer.invariant.read
