use Rattle.std.proofs.Common.{ℕ, List, [], ◌∷◌, ◌++◌, slice_index, ap, ◌∙◌}
use Rattle.aes_block.specs.Cipher.{inv_sub_bytes, inv_shift_rows}
use Rattle.aes_block.specs.Field.{inv_sub_byte}
use Rattle.aes_block.proofs.rounds.last_inv_round.Goals as goal

-- a column of the new state, from the columns that its rows are taken from
abbrev column : List ℕ → List ℕ → List ℕ → List ℕ → List ℕ
column x y z t = (inv_sub_byte (slice_index x 0) ∷ inv_sub_byte (slice_index y 1) ∷ inv_sub_byte (slice_index z 2) ∷ inv_sub_byte (slice_index t 3) ∷ [])

pub returns : goal.returns
unfolding inv_sub_bytes inv_shift_rows
returns c =
    (λ i. c.inv_substituted.ensures i ++ c.inv_substituted-2.ensures i ++ c.inv_substituted-3.ensures i ++ c.inv_substituted-4.ensures i)
    ∙ (λ i. let a = c.to_be_bytes-a.ensures i in let b = c.to_be_bytes-b.ensures i in
    let p = c.to_be_bytes-c.ensures i in let d = c.to_be_bytes-d.ensures i in
    column a d p b ++ column b a d p ++ column p b a d ++ column d p b a)
    ∙ ap (λ (x : List ℕ). inv_shift_rows (inv_sub_bytes x)) c.add_round_key-keyed.ensures
