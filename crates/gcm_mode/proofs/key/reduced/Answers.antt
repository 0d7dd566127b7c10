use Rattle.std.proofs.Common.{◌≡◌, ◌*◌, ◌%◌, ◌^◌, ◌<◌, arith}
use Rattle.gcm_mode.proofs.Combing.{reduced-element}
use Rattle.gcm_mode.proofs.key.reduced.Goals as goal

pub returns : goal.returns
returns c =
    let high = c.args.high in
    let low = c.args.low in
    let fits : low < 2 ^ 128 = omega arith in
    let kept : low * 2 ^ 121 % 2 ^ 128 ≡ low % 128 * 2 ^ 121 = omega arith in
    rw kept (reduced-element high low fits c.requires)
