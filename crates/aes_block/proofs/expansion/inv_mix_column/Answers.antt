use Rattle.std.proofs.Common.{◌≡◌, ℕ, [], ◌∷◌, slice_index, ◌∙◌}
use Rattle.std.specs.Int.{w32, to_be_bytes}
use Rattle.aes_block.specs.Columns.{column_product}
use Rattle.aes_block.specs.Field.{sub_byte, inv_sub_byte}
use Rattle.aes_block.specs.Laws.Bytes.{AreBytes-to_be_bytes}
use Rattle.aes_block.specs.Laws.Steps.{inv_sub_byte-sub_byte}
use Rattle.aes_block.proofs.expansion.inv_mix_column.Goals as goal

pub returns : goal.returns
returns c =
    let bytes = AreBytes-to_be_bytes c.args.word in
    let b : ℕ → ℕ = λ k. slice_index (to_be_bytes w32 c.args.word) k in
    let undone : (k : ℕ) → inv_sub_byte (sub_byte (b k)) ≡ b k = λ k. inv_sub_byte-sub_byte (b k) (bytes k) in
    c.inv_mix_substituted.ensures
    ∙ (λ i. column_product 14 9 13 11 (inv_sub_byte (c.sub_byte.ensures i) ∷ inv_sub_byte (c.sub_byte-2.ensures i)
    ∷ inv_sub_byte (c.sub_byte-3.ensures i) ∷ inv_sub_byte (c.sub_byte-4.ensures i) ∷ []))
    ∙ (λ i. let s = c.to_be_bytes-b.ensures i in column_product 14 9 13 11 (inv_sub_byte (sub_byte (slice_index s 0))
    ∷ inv_sub_byte (sub_byte (slice_index s 1)) ∷ inv_sub_byte (sub_byte (slice_index s 2)) ∷ inv_sub_byte (sub_byte (slice_index s 3)) ∷ []))
    ∙ (λ i. column_product 14 9 13 11 (undone 0 i ∷ undone 1 i ∷ undone 2 i ∷ undone 3 i ∷ []))
