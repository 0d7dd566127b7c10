use Rattle.std.proofs.Common.{◌≡◌, ◌-◌, ◌<◌, length, take, drop, refl, ◌∙◌, arith, length-drop}
use Rattle.std.proofs.lemmas.List.{length-take}
use Rattle.kdf_ctr.specs.Kdf.{fixed_data, block, kdf}
use Rattle.kdf_ctr.proofs.Blocks.{take-blocks, take-front, written}
use Rattle.kdf_ctr.proofs.counter.derive.Goals as goal

pub loop-at-init : goal.loop-at-init
unfolding kdf
loop-at-init g c =
    let none : length c.args.out.now - 0 ≡ length c.args.out.now = omega arith in
    record { within = omega arith; few = omega arith; whole = rw none refl }

pub loop-at-preserved : goal.loop-at-preserved
loop-at-preserved g c =
    let prf = g.P.Prf.value in
    let h = g.P.Prf.value_len in
    let some : 0 < h = g.met.P.Prf.some in
    let key = c.args.key.now in
    let n = length c.args.out.now in
    let fixed = fixed_data c.args.label.now c.args.context.now n in
    let at = c.loop-at.at in
    let number = c.loop-at.number in
    let out = c.loop-at.out in
    let e = c.min-end.result in
    let kept = c.loop-at.auto.out in
    let size = c.size.ensures in
    let end = c.min-end.ensures in
    let more : at < n = omega arith in
    let len = g.met.P.Prf.has_len key _ in
    let rest = length-drop at out in
    let room : length (take (e - at) (drop at out)) ≡ e - at = omega (arith, length-take (e - at) (drop at out), rest) in
    let step = take-blocks prf key fixed h number (n - at) some (omega arith) len in
    let left : n - at - h ≡ n - e = omega arith in
    let front = take-front n at e h (block prf key fixed number) len (rw (← size, ← kept) end) in
    let ys : c.write_block.new.out ≡ take (n - at) (block prf key fixed number) = c.write_block.ensures ∙ rw (room, front) refl in
    let full : length c.write_block.new.out ≡ e - at = c.write_block.auto.out ∙ room in
    record {
      within = omega arith;
      few = omega arith;
      whole = written _ out c.write_block.new.out _ _ at e (omega arith) (omega arith) full c.loop-at.invariant.whole (rw (ys, ← left) step);
    }
