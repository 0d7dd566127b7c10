use Rattle.std.proofs.Common.{◌≡◌, ◌+◌, ◌-◌, ◌≤◌, take, length, arith}
use Rattle.std.proofs.lemmas.List.{drop-take, take-append-drop, take-take}
use Rattle.hmac_sha2.proofs.tests.write_value.Goals as goal

pub loop-at-preserved : goal.loop-at-preserved
loop-at-preserved g c =
    let text = c.args.text.now in
    let at = c.loop-at.at in
    let n = c.min.result in
    let within : at + n ≤ length text = omega arith in
    let count : at + n - at ≡ n = omega arith in
    let fed = c.update.ensures c.args.key.now (take at text) c.loop-at.invariant.1 in
    let whole = take-append-drop at (take (at + n) text) in
    (within, rw (← whole, take-take at (at + n) text (omega arith), drop-take at n text, ← count) fed)
