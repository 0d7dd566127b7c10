use Rattle.std.proofs.Common.{ℕ, List, [], ◌∷◌, ◌++◌, slice_index, ap, ◌∙◌}
use Rattle.aes_block.specs.Cipher.{sub_bytes, shift_rows}
use Rattle.aes_block.specs.Field.{sub_byte}
use Rattle.aes_block.proofs.rounds.last_round.Goals as goal

-- a column of the new state, from the columns that its rows are taken from
abbrev column : List ℕ → List ℕ → List ℕ → List ℕ → List ℕ
column x y z t = (sub_byte (slice_index x 0) ∷ sub_byte (slice_index y 1) ∷ sub_byte (slice_index z 2) ∷ sub_byte (slice_index t 3) ∷ [])

pub returns : goal.returns
unfolding sub_bytes shift_rows
returns c =
    (λ i. c.substituted.ensures i ++ c.substituted-2.ensures i ++ c.substituted-3.ensures i ++ c.substituted-4.ensures i)
    ∙ (λ i. let a = c.to_be_bytes-a.ensures i in let b = c.to_be_bytes-b.ensures i in
    let p = c.to_be_bytes-c.ensures i in let d = c.to_be_bytes-d.ensures i in
    column a b p d ++ column b p d a ++ column p d a b ++ column d a b p)
    ∙ ap (λ (x : List ℕ). shift_rows (sub_bytes x)) c.add_round_key-keyed.ensures
