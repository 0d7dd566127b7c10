use Rattle.std.proofs.Common.{one-mul, zero-mul}
use Rattle.std.specs.Int.Bits.{xor_assoc, xor_zero_l, xor_zero_r}
use Rattle.gcm_mode.specs.Product.{sum_of_multiples}
use Rattle.gcm_mode.proofs.key.table.Goals as goal

pub returns : goal.returns
unfolding sum_of_multiples
returns c = rw (c.requires.d, c.requires.c, c.requires.b) (simp (one-mul, zero-mul, xor_zero_l, xor_zero_r, xor_assoc))
