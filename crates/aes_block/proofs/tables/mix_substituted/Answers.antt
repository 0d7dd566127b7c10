use Rattle.std.proofs.Common.{◌∙◌, arith}
use Rattle.std.specs.Prelude.{bit_xor}
use Rattle.std.specs.Int.{w32, to_be_bytes}
use Rattle.aes_block.specs.Field.{sub_byte}
use Rattle.aes_block.specs.Laws.Steps.{sub_byte-lt}
use Rattle.aes_block.proofs.Words.{column_by_table}
use Rattle.aes_block.proofs.tables.mix_substituted.Goals as goal

pub returns : goal.returns
returns c =
    let a = c.args in
    (λ i. to_be_bytes w32 (bit_xor (bit_xor (c.mix_3.ensures i) (c.mix_2.ensures i)) (bit_xor (c.mix_1.ensures i) (c.mix_0.ensures i))))
    ∙ column_by_table 2 1 1 3 (sub_byte a.a) (sub_byte a.b) (sub_byte a.c) (sub_byte a.d)
    (sub_byte-lt a.a (omega arith)) (sub_byte-lt a.b (omega arith)) (sub_byte-lt a.c (omega arith)) (sub_byte-lt a.d (omega arith))
