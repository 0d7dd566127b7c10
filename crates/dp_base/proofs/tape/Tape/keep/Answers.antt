use Rattle.std.proofs.Common.{◌≡◌, ◌+◌, length, arith}
use Rattle.dp_base.proofs.Draws.{kept}
use Rattle.dp_base.proofs.tape.Tape.keep.Goals as goal

pub returns-then-end-le-MAX_TAPE : goal.returns-then-end-le-MAX_TAPE
returns-then-end-le-MAX_TAPE c =
    let end = c.saturating_add-end.result in
    let sum : end ≡ c.self.inside.count + length c.args.bytes.now = omega (arith, c.saturating_add-end.ensures, c.if-end-le-MAX_TAPE.true) in
    rw (← c.self.view_is, c.copy_from_slice.ensures.after) (kept c.self.inside.count end c.self.inside.room c.args.bytes.now _ c.self.told c.if-self-gt-MAX_TAPE.false sum c.if-end-le-MAX_TAPE.true)
