use Rattle.gcm_mode.specs.Product.{block_of}
use Rattle.gcm_mode.proofs.product.block_of.Goals as goal

pub returns : goal.returns
unfolding block_of
returns c = c.to_be_bytes.ensures
