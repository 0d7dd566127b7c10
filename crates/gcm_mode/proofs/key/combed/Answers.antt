use Rattle.std.proofs.Common.{◌≡◌, ◌/◌, ◌%◌, ◌^◌, ◌<◌, slice_index, ◌∙◌, arith, refl}
use Rattle.gcm_mode.proofs.Combing.{cut, combed-all}
use Rattle.gcm_mode.proofs.Turns.{combed-none, combed-turn}
use Rattle.gcm_mode.proofs.key.combed.Goals as goal

pub loop-init : goal.loop-init
loop-init c = combed-none c.args.x (slice_index c.args.m.now 8)

pub loop-preserved : goal.loop-preserved
loop-preserved c =
    let m = c.args.m.now in
    let high = c.loop.high in
    let a = slice_index m (c.loop.y1 / 2 ^ 32 % 16) in
    let b = slice_index m (c.loop.y1 % 16) in
    let e = slice_index m (c.loop.y0 / 2 ^ 32 % 16) in
    let d = slice_index m (c.loop.y0 % 16) in
    let lt : c.loop.counter < 8 = c.loop-test.true in
    rw (cut high 124 4 refl, cut b 96 32 refl, cut e 64 64 refl, cut d 32 96 refl)
    (combed-turn m c.args.x (slice_index m 8) c.loop.y1 c.loop.y0 high c.loop.low c.loop.counter a b e d c.requires lt c.loop.invariant refl refl refl refl)

pub reduced-requires : goal.reduced-requires
reduced-requires c =
    let done : c.loop.counter ≡ 8 = omega arith in
    rw done at c.loop.invariant.clear

pub returns : goal.returns
returns c =
    let done : c.loop.counter ≡ 8 = omega arith in
    c.reduced.ensures ∙ rw done at c.loop.invariant.summed ∙ combed-all c.args.x (slice_index c.args.m.now 8)
