use Rattle.std.proofs.Common.{◌≡◌, ◌+◌, ◌-◌, ◌*◌, ◌≤◌, length, drop, arith, length-drop}
use Rattle.cbc_mode.specs.Cbc.{plaintext}
use Rattle.cbc_mode.proofs.Advance.{advanced}
use Rattle.cbc_mode.proofs.Inverse.{plaintext-cons}
use Rattle.cbc_mode.proofs.chain.decrypt_blocks.Goals as goal

pub loop-i-preserved : goal.loop-i-preserved
loop-i-preserved g c =
    let h = g.B.BlockCipher.decipher c.args.cipher.now in
    let i = c.loop-i.i in
    let bytes = c.loop-i.bytes in
    let within : 16 * i + 16 ≤ length bytes = omega arith in
    let wide : 16 * i + 16 - 16 * i ≡ 16 = omega arith in
    let rest : 16 ≤ length (drop (16 * i) bytes) = simp length-drop (omega arith) in
    let block = rw wide at c.decrypt_next.ensures.block in
    let before = rw wide at c.decrypt_next.ensures.before in
    let full : length c.decrypt_next.new.block ≡ 16 = omega arith in
    let step = rw (← block, ← before) at (plaintext-cons h c.loop-i.before (drop (16 * i) bytes) rest) in
    advanced (plaintext h c.loop-i.before) (plaintext h c.decrypt_next.new.before)
    (plaintext h c.args.iv.now c.args.bytes.now) bytes c.decrypt_next.new.block i
    (16 * i + 16 - 16 * i) wide full within c.loop-i.invariant step
