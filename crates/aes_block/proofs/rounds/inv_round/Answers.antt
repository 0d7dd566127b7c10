use Rattle.std.proofs.Common.{ℕ, List, [], ◌∷◌, ◌++◌, slice_index, ap, ◌∙◌}
use Rattle.aes_block.specs.Cipher.{inv_sub_bytes, inv_shift_rows, inv_mix_columns}
use Rattle.aes_block.specs.Columns.{column_product}
use Rattle.aes_block.specs.Field.{inv_sub_byte}
use Rattle.aes_block.proofs.rounds.inv_round.Goals as goal

-- a column of the new state, from the columns that its rows are taken from
abbrev column : List ℕ → List ℕ → List ℕ → List ℕ → List ℕ
column x y z t = column_product 14 9 13 11 (inv_sub_byte (slice_index x 0) ∷ inv_sub_byte (slice_index y 1) ∷ inv_sub_byte (slice_index z 2) ∷ inv_sub_byte (slice_index t 3) ∷ [])

pub returns : goal.returns
unfolding inv_sub_bytes inv_shift_rows inv_mix_columns
returns c =
    (λ i. c.inv_mix_substituted-first.ensures i ++ c.inv_mix_substituted-second.ensures i ++ c.inv_mix_substituted-third.ensures i ++ c.inv_mix_substituted-last.ensures i)
    ∙ (λ i. let a = c.to_be_bytes-a.ensures i in let b = c.to_be_bytes-b.ensures i in
    let p = c.to_be_bytes-c.ensures i in let d = c.to_be_bytes-d.ensures i in
    column a d p b ++ column b a d p ++ column p b a d ++ column d p b a)
    ∙ ap (λ (x : List ℕ). inv_mix_columns (inv_shift_rows (inv_sub_bytes x))) c.add_round_key-keyed.ensures
