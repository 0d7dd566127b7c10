use Rattle.std.proofs.Common.{Err}
use Rattle.repo_shared.proofs.Calls.{called_grown, called_appended, seen_is, refusal_told}
use Rattle.repo_shared.proofs.calling.append_locked.Goals as goal

pub returns-in-Ok-clause-called : goal.returns-in-Ok-clause-called
returns-in-Ok-clause-called g c = let x = c.append_into in
    (called_appended c.args.seat.now c.lock-shelf.new.seat c.put_appended-have.new.seat c.lock-shelf.result x.new.self c.args.seen.now x.new.seen c.put_appended-have.result
    c.lock-shelf.ensures c.requires.held x.ensures.grows c.in-Ok.tail c.put_appended-have.ensures c.in-Ok.ensures.seen c.in-Ok.ensures.longer).0

pub returns-in-Err-clause-called : goal.returns-in-Err-clause-called
returns-in-Err-clause-called g c = let x = c.append_into in let s = c.in-Err.ensures.seen in
    (called_grown c.args.seat.now c.lock-shelf.new.seat c.put_grown-have.new.seat c.lock-shelf.result x.new.self c.args.seen.now x.new.seen c.put_grown-have.result
    c.lock-shelf.ensures c.requires.held x.ensures.grows (Err c.in-Err.why) c.put_grown-have.ensures (seen_is (Err c.in-Err.why) _ _ _ s)
    (refusal_told c.in-Err.why c.args.known c.put_grown-have.result _ _ _ s c.in-Err.ensures.cause)).0
