use Rattle.gcm_mode.specs.Product.{number_of}
use Rattle.gcm_mode.proofs.product.number_of.Goals as goal

pub returns : goal.returns
unfolding number_of
returns c = c.from_be_bytes.ensures
