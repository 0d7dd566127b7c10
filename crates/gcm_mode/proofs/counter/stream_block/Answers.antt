use Rattle.std.proofs.Common.{◌≡◌, ◌∙◌, ◌∷◌, [], length, ap, refl}
use Rattle.gcm_mode.proofs.Counting.{counter_block-made}
use Rattle.gcm_mode.proofs.counter.stream_block.Goals as goal

pub returns : goal.returns
returns g c =
    let f = g.B.BlockCipher.cipher c.args.cipher.now in
    let front = c.copy_from_slice.ensures.after in
    let back = c.copy_from_slice-2.ensures.after ∙ c.be32.ensures in
    let len : length c.copy_from_slice.new.self ≡ 12 = ap length front ∙ c.told-nonce in
    let made = counter_block-made c.copy_from_slice.new.self c.copy_from_slice-2.new.self (0 ∷ 0 ∷ 0 ∷ 0 ∷ []) len refl in
    c.encrypt_block.ensures ∙ ap f (made ∙ rw (front, back) refl)
