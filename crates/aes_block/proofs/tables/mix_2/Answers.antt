use Rattle.std.proofs.Common.{◌+◌, arith}
use Rattle.aes_block.specs.Columns.{products_word}
use Rattle.aes_block.specs.Field.{xtime, times_bits, times, even_power, inverse, affine, sub_byte}
use Rattle.aes_block.proofs.Rows.{in_third}
use Rattle.aes_block.proofs.tables.mix_2.Goals as goal

pub returns : goal.returns
unfolding xtime times_bits times even_power inverse affine sub_byte
returns c =
    in_third (λ b. products_word 2 1 1 3 (sub_byte b)) (λ b. products_word 3 2 1 1 (sub_byte b)) (λ b. products_word 1 3 2 1 (sub_byte b)) (λ b. products_word 1 1 3 2 (sub_byte b))
    256 c.args.b (512 + c.args.b) (omega arith) (omega arith)
