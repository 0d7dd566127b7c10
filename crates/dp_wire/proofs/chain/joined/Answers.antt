use Rattle.std.proofs.Common.{◌∷◌, arith}
use Rattle.dp_wire.specs.Purposes.{purposes_left}
use Rattle.dp_wire.proofs.Rooms.{room}
use Rattle.dp_wire.proofs.chain.joined.Goals as goal

pub memory_alone-requires-in-Err-push-clause-few : goal.memory_alone-requires-in-Err-push-clause-few
memory_alone-requires-in-Err-push-clause-few c = λ e.
    let has = room c.loop-purpose.chain (purposes_left c.loop-purpose.purpose-iterator) (c.args.first.now ∷ purposes_left c.args.others) (purposes_left c.next.new.self) c.in-Some.purpose.now c.loop-purpose.invariant c.in-Some.ensures.steps c.requires.few c.requires.short in
    let many = c.in-Err-push.ensures.too_many.0 (cc e) in
    omega (arith, has.few, many)

pub memory_alone-requires-in-Err-push-clause-short : goal.memory_alone-requires-in-Err-push-clause-short
memory_alone-requires-in-Err-push-clause-short c = λ e.
    let has = room c.loop-purpose.chain (purposes_left c.loop-purpose.purpose-iterator) (c.args.first.now ∷ purposes_left c.args.others) (purposes_left c.next.new.self) c.in-Some.purpose.now c.loop-purpose.invariant c.in-Some.ensures.steps c.requires.few c.requires.short in
    let long = c.in-Err-push.ensures.too_long.0 (cc e) in
    omega (arith, has.short, long.1)
