use Rattle.std.proofs.Common.{arith}
use Rattle.aes_block.specs.Field.{xtime, times_bits, times, even_power, inverse, affine, sub_byte, inv_affine, inv_sub_byte}
use Rattle.aes_block.specs.Laws.Tables.{slice_index-table_of}
use Rattle.aes_block.proofs.s_box.inv_sub_byte.Goals as goal

pub returns : goal.returns
unfolding xtime times_bits times even_power inverse affine sub_byte inv_affine inv_sub_byte
returns c = slice_index-table_of inv_sub_byte 256 c.args.b (omega arith)
