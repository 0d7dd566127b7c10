-- The equivalent inverse cipher over the inverse schedule is the inverse cipher (FIPS 197, 5.3.5).
use Rattle.std.proofs.Common.{◌≡◌, ℕ, zero, suc, ◌-◌, ◌<◌, ◌≤◌, List, refl, sym, ap, ◌∙◌, arith}
use Rattle.dp_base.specs.Blocks.{IsBlock, xor_bytes}
use Rattle.aes_block.specs.Cipher.{round_key, add_round_key, inv_shift_rows, inv_sub_bytes, inv_mix_columns, inv_rounds, inv_cipher}
use Rattle.aes_block.specs.Equivalent.{IsInverseSchedule, eq_inv_rounds, eq_inv_cipher}
use Rattle.aes_block.specs.Laws.Undoing.{IsBlock-inv_rounds}
use Rattle.aes_block.specs.Laws.Steps.{IsBlock-add_round_key, IsBlock-inv_mix_columns, IsBlock-inv_shift_rows, IsBlock-inv_sub_bytes, IsBlock-round_key, inv_mix_columns-xor_bytes, inv_sub_bytes-inv_shift_rows}

module _ (w dw : List ℕ) (nr : ℕ) (inverse : IsInverseSchedule w dw nr) where
  -- InvMixColumns goes past AddRoundKey, whose key it mixes
  mixed_before : (s : List ℕ) (r : ℕ) → 1 ≤ r → r < nr → IsBlock s
      → inv_mix_columns (add_round_key s w r) ≡ add_round_key (inv_mix_columns s) dw r
  unfolding add_round_key
  mixed_before s r low high h =
      inv_mix_columns-xor_bytes s (round_key w r) h (IsBlock-round_key w r)
      ∙ ap (xor_bytes (inv_mix_columns s)) (sym (inverse.mixed r low high))

  -- one round after the other
  eq_inv_rounds-same : (s : List ℕ) (r : ℕ) → r < nr → IsBlock s → inv_rounds s w r ≡ eq_inv_rounds s dw r
  unfolding inv_rounds eq_inv_rounds
  eq_inv_rounds-same s zero below h = refl
  eq_inv_rounds-same s (suc r) below h =
      let t : List ℕ = inv_sub_bytes (inv_shift_rows s) in
      let block : IsBlock t = IsBlock-inv_sub_bytes (inv_shift_rows s) (IsBlock-inv_shift_rows s h) in
      let next : List ℕ = inv_mix_columns (add_round_key t w (suc r)) in
      let is : IsBlock next = IsBlock-inv_mix_columns (add_round_key t w (suc r)) (IsBlock-add_round_key t w (suc r) block) in
      eq_inv_rounds-same next r (omega arith) is
      ∙ ap (λ (x : List ℕ). eq_inv_rounds x dw r) (mixed_before t (suc r) (omega arith) below block)
      ∙ ap (λ (x : List ℕ). eq_inv_rounds (add_round_key (inv_mix_columns x) dw (suc r)) dw r) (inv_sub_bytes-inv_shift_rows s h)

  pub inv_cipher-eq_inv_cipher : (b : List ℕ) → 1 ≤ nr → IsBlock b → eq_inv_cipher b nr dw ≡ inv_cipher b nr w
  unfolding add_round_key inv_cipher eq_inv_cipher
  inv_cipher-eq_inv_cipher b some h =
      let start : List ℕ = xor_bytes b (round_key w nr) in
      let block : IsBlock start = IsBlock-add_round_key b w nr h in
      let s : List ℕ = inv_rounds start w (nr - 1) in
      let is : IsBlock s = IsBlock-inv_rounds w start (nr - 1) block in
      sym (
      ap (λ (x : List ℕ). xor_bytes x (round_key w 0)) (inv_sub_bytes-inv_shift_rows s is)
      ∙ ap (λ (x : List ℕ). xor_bytes (inv_shift_rows (inv_sub_bytes x)) (round_key w 0)) (eq_inv_rounds-same start (nr - 1) (omega arith) block)
      ∙ (λ i. xor_bytes (inv_shift_rows (inv_sub_bytes (eq_inv_rounds (xor_bytes b (sym inverse.last i)) dw (nr - 1)))) (sym inverse.first i))
      )
