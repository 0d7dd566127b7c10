use Rattle.std.proofs.Common.{sym, ap, ◌∙◌}
use Rattle.dp_base.proofs.Parts.{AreBytes-from_fits}
use Rattle.gcm_mode.specs.Ctr.{ctr}
use Rattle.gcm_mode.proofs.Counting.{AreBytes-ctr, ctr-ctr}
use Rattle.gcm_mode.proofs.seal.gcm_open.Goals as goal

pub returns-clause-found : goal.returns-clause-found
returns-clause-found g c =
    let keeps = g.met.B.BlockCipher.enciphers c.args.cipher.now in
    rw c.in_ok-copy_enciphered.ensures (sym (ctr-ctr _ keeps c.args.nonce.now c.told-nonce c.fits-nonce c.args.enciphered.now))

pub returns-clause-bytes : goal.returns-clause-bytes
returns-clause-bytes g c =
    let keeps = g.met.B.BlockCipher.enciphers c.args.cipher.now in
    let are = AreBytes-from_fits c.args.enciphered.now c.type_inv.enciphered in
    rw c.in_ok-copy_enciphered.ensures (AreBytes-ctr _ keeps c.args.nonce.now c.told-nonce c.fits-nonce c.args.enciphered.now are)

pub returns-clause-only : goal.returns-clause-only
returns-clause-only g c text sealed tag =
    let f = g.B.BlockCipher.cipher c.args.cipher.now in
    let keeps = g.met.B.BlockCipher.enciphers c.args.cipher.now in
    c.in_ok-copy_enciphered.ensures ∙ ap (ctr f c.args.nonce.now) sealed ∙ ctr-ctr f keeps c.args.nonce.now c.told-nonce c.fits-nonce text
