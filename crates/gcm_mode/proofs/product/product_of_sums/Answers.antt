use Rattle.gcm_mode.proofs.Multiples.{product-xor, product-xor_left}
use Rattle.gcm_mode.proofs.product.product_of_sums.Goals as goal

pub returns-clause-first : goal.returns-clause-first
returns-clause-first c = product-xor_left

pub returns-clause-second : goal.returns-clause-second
returns-clause-second c = product-xor
