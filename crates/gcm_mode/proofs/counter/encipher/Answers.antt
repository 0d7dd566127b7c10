use Rattle.std.proofs.Common.{◌≡◌, ◌+◌, ◌-◌, ◌*◌, ◌/◌, ◌≤◌, length, refl, sym, arith, length-append, length-take, length-drop}
use Rattle.std.proofs.lemmas.List.{append-nil, take_all, drop_all}
use borrow.Rule.Slice.PartMut.{put_mid}
use Rattle.gcm_mode.specs.Ctr.{counter_block, ctr}
use Rattle.gcm_mode.proofs.Counting.{IsBlock-counter_block, gctr-piece}
use Rattle.gcm_mode.proofs.counter.encipher.Goals as goal

pub loop-i-init : goal.loop-i-init
unfolding ctr
loop-i-init g c = refl

pub loop-i-preserved : goal.loop-i-preserved
loop-i-preserved g c =
    let f = g.B.BlockCipher.cipher c.args.cipher.now in
    let keeps = g.met.B.BlockCipher.enciphers c.args.cipher.now in
    let nonce = c.args.nonce.now in
    let i = c.loop-i.i in
    let bytes = c.loop-i.bytes in
    let before = c.loop-i-test.true in
    let long = c.loop-i.auto.bytes in
    let full = (keeps (counter_block nonce (2 + i)) (IsBlock-counter_block f keeps nonce c.told-nonce c.fits-nonce (2 + i))).0 in
    let ys = rw c.stream_block-stream.ensures at c.xor_into.ensures in
    gctr-piece f nonce (ctr f nonce c.args.bytes.now) bytes c.xor_into.new.bytes i (16 * i + 16) (16 * i + 16 - 16 * i)
    full (omega arith) refl (omega arith) ys c.loop-i.invariant

pub returns-then-whole-bytes : goal.returns-then-whole-bytes
returns-then-whole-bytes g c =
    let f = g.B.BlockCipher.cipher c.args.cipher.now in
    let keeps = g.met.B.BlockCipher.enciphers c.args.cipher.now in
    let nonce = c.args.nonce.now in
    let i = length c.args.bytes.now / 16 in
    let bytes = c.loop-i.bytes in
    let done : c.loop-i.i ≡ i = omega arith in
    let long = c.loop-i.auto.bytes in
    let full = (keeps (counter_block nonce (2 + i)) (IsBlock-counter_block f keeps nonce c.told-nonce c.fits-nonce (2 + i))).0 in
    let ys = rw c.stream_block-stream-then-whole-bytes.ensures at c.xor_into-then-whole-bytes.ensures in
    let written = put_mid (16 * i) (length bytes - 16 * i) bytes c.xor_into-then-whole-bytes.new.bytes in
    let so_far = rw done at c.loop-i.invariant in
    let step = gctr-piece f nonce (ctr f nonce c.args.bytes.now) bytes c.xor_into-then-whole-bytes.new.bytes i (length bytes) (length bytes - 16 * i)
    full (omega arith) refl c.if-whole-bytes.true ys so_far in
    let len : length written ≤ 16 * (i + 1) = simp (length-append, length-take, length-drop) (omega arith) in
    let front = take_all (16 * (i + 1)) written len in
    let back = drop_all (16 * (i + 1)) written len in
    sym (rw (front, back, append-nil) at step)

pub returns-else-whole-bytes : goal.returns-else-whole-bytes
returns-else-whole-bytes g c =
    let long = c.loop-i.auto.bytes in
    let all : length c.loop-i.bytes ≤ 16 * c.loop-i.i = omega arith in
    let front = take_all (16 * c.loop-i.i) c.loop-i.bytes all in
    let back = drop_all (16 * c.loop-i.i) c.loop-i.bytes all in
    sym (rw (front, back, append-nil) at c.loop-i.invariant)
