use Rattle.std.proofs.Common.{arith}
use Rattle.aes_block.specs.Columns.{products_word}
use Rattle.aes_block.specs.Field.{xtime, times_bits, times, even_power, inverse, inv_affine, inv_sub_byte}
use Rattle.aes_block.proofs.Rows.{in_first}
use Rattle.aes_block.proofs.inv_tables.inv_mix_0.Goals as goal

pub returns : goal.returns
unfolding xtime times_bits times even_power inverse inv_affine inv_sub_byte
returns c =
    in_first (λ b. products_word 14 9 13 11 (inv_sub_byte b)) (λ b. products_word 11 14 9 13 (inv_sub_byte b)) (λ b. products_word 13 11 14 9 (inv_sub_byte b)) (λ b. products_word 9 13 11 14 (inv_sub_byte b))
    256 c.args.b (omega arith)
