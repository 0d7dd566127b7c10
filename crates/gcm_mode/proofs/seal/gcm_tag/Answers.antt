use Rattle.std.proofs.Common.{◌∙◌, refl}
use Rattle.gcm_mode.specs.Gcm.{gcm_tag}
use Rattle.gcm_mode.proofs.seal.gcm_tag.Goals as goal

pub returns : goal.returns
unfolding gcm_tag
returns g c = c.xor_into.ensures ∙ rw (c.ghash-tag.ensures, c.stream_block.ensures, c.encrypt_block.ensures) refl
