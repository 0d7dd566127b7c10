use Rattle.std.proofs.Common.{◌≡◌, ◌+◌, ◌-◌, ◌*◌, ◌≤◌, length, drop, arith, length-drop}
use Rattle.cbc_mode.specs.Cbc.{ciphertext}
use Rattle.cbc_mode.proofs.Advance.{advanced}
use Rattle.cbc_mode.proofs.Inverse.{ciphertext-cons}
use Rattle.cbc_mode.proofs.chain.encrypt_blocks.Goals as goal

pub loop-i-preserved : goal.loop-i-preserved
loop-i-preserved g c =
    let f = g.B.BlockCipher.cipher c.args.cipher.now in
    let i = c.loop-i.i in
    let bytes = c.loop-i.bytes in
    let within : 16 * i + 16 ≤ length bytes = omega arith in
    let wide : 16 * i + 16 - 16 * i ≡ 16 = omega arith in
    let rest : 16 ≤ length (drop (16 * i) bytes) = simp length-drop (omega arith) in
    let block = rw wide at c.encrypt_next.ensures.block in
    let full : length c.encrypt_next.new.block ≡ 16 = omega arith in
    let step = rw (← block) at (ciphertext-cons f c.loop-i.before (drop (16 * i) bytes) rest) in
    rw c.encrypt_next.ensures.before
    (advanced (ciphertext f c.loop-i.before) (ciphertext f c.encrypt_next.new.block)
    (ciphertext f c.args.iv.now c.args.bytes.now) bytes c.encrypt_next.new.block i
    (16 * i + 16 - 16 * i) wide full within c.loop-i.invariant step)
