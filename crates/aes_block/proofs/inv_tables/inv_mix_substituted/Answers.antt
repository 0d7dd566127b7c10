use Rattle.std.proofs.Common.{◌∙◌, arith}
use Rattle.std.specs.Prelude.{bit_xor}
use Rattle.std.specs.Int.{w32, to_be_bytes}
use Rattle.aes_block.specs.Field.{inv_sub_byte}
use Rattle.aes_block.specs.Laws.Steps.{inv_sub_byte-lt}
use Rattle.aes_block.proofs.Words.{column_by_table}
use Rattle.aes_block.proofs.inv_tables.inv_mix_substituted.Goals as goal

pub returns : goal.returns
returns c =
    let a = c.args in
    (λ i. to_be_bytes w32 (bit_xor (bit_xor (c.inv_mix_3.ensures i) (c.inv_mix_2.ensures i)) (bit_xor (c.inv_mix_1.ensures i) (c.inv_mix_0.ensures i))))
    ∙ column_by_table 14 9 13 11 (inv_sub_byte a.a) (inv_sub_byte a.b) (inv_sub_byte a.c) (inv_sub_byte a.d)
    (inv_sub_byte-lt a.a (omega arith)) (inv_sub_byte-lt a.b (omega arith)) (inv_sub_byte-lt a.c (omega arith)) (inv_sub_byte-lt a.d (omega arith))
