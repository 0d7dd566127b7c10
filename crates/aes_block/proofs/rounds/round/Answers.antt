use Rattle.std.proofs.Common.{ℕ, List, [], ◌∷◌, ◌++◌, slice_index, ap, ◌∙◌}
use Rattle.aes_block.specs.Cipher.{sub_bytes, shift_rows, mix_columns}
use Rattle.aes_block.specs.Columns.{column_product}
use Rattle.aes_block.specs.Field.{sub_byte}
use Rattle.aes_block.proofs.rounds.round.Goals as goal

-- a column of the new state, from the columns that its rows are taken from
abbrev column : List ℕ → List ℕ → List ℕ → List ℕ → List ℕ
column x y z t = column_product 2 1 1 3 (sub_byte (slice_index x 0) ∷ sub_byte (slice_index y 1) ∷ sub_byte (slice_index z 2) ∷ sub_byte (slice_index t 3) ∷ [])

pub returns : goal.returns
unfolding sub_bytes shift_rows mix_columns
returns c =
    (λ i. c.mix_substituted-first.ensures i ++ c.mix_substituted-second.ensures i ++ c.mix_substituted-third.ensures i ++ c.mix_substituted-last.ensures i)
    ∙ (λ i. let a = c.to_be_bytes-a.ensures i in let b = c.to_be_bytes-b.ensures i in
    let p = c.to_be_bytes-c.ensures i in let d = c.to_be_bytes-d.ensures i in
    column a b p d ++ column b p d a ++ column p d a b ++ column d a b p)
    ∙ ap (λ (x : List ℕ). mix_columns (shift_rows (sub_bytes x))) c.add_round_key-keyed.ensures
