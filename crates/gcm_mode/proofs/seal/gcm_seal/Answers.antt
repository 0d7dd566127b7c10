use Rattle.std.proofs.Common.{length, ap, ◌∙◌, arith}
use Rattle.gcm_mode.proofs.Counting.{length-ctr}
use Rattle.gcm_mode.proofs.seal.gcm_seal.Goals as goal

pub gcm_tag-tag-requires-clause-text : goal.gcm_tag-tag-requires-clause-text
gcm_tag-tag-requires-clause-text g c =
    let keeps = g.met.B.BlockCipher.enciphers c.args.cipher.now in
    let same = ap length (c.deref.ensures.value ∙ c.in_ok-text.ensures) in
    let kept = length-ctr _ keeps c.args.nonce.now c.told-nonce c.fits-nonce c.args.plain.now in
    omega arith
