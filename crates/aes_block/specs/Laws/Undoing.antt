-- The inverse cipher undoes the cipher, and the cipher undoes the inverse cipher, under every schedule.
use Rattle.std.proofs.Common.{◌≡◌, ℕ, zero, suc, ◌-◌, List, refl, ap, ◌∙◌}
use Rattle.dp_base.specs.Blocks.{IsBlock}
use Rattle.aes_block.specs.Cipher.{sub_bytes, shift_rows, mix_columns, add_round_key, rounds, cipher, inv_shift_rows, inv_sub_bytes, inv_mix_columns, inv_rounds, inv_cipher}
use Rattle.aes_block.specs.Laws.Steps.{IsBlock-sub_bytes, IsBlock-shift_rows, IsBlock-mix_columns, IsBlock-add_round_key, IsBlock-inv_sub_bytes, IsBlock-inv_shift_rows, IsBlock-inv_mix_columns, inv_sub_bytes-sub_bytes, sub_bytes-inv_sub_bytes, inv_shift_rows-shift_rows, shift_rows-inv_shift_rows, inv_mix_columns-mix_columns, mix_columns-inv_mix_columns, add_round_key-add_round_key}

module _ (w : List ℕ) where
  -- the steps before MixColumns, and back
  abbrev spread : List ℕ → List ℕ
  spread s = shift_rows (sub_bytes s)

  abbrev gather : List ℕ → List ℕ
  gather s = inv_sub_bytes (inv_shift_rows s)

  IsBlock-spread : (s : List ℕ) → IsBlock s → IsBlock (spread s)
  IsBlock-spread s h = IsBlock-shift_rows (sub_bytes s) (IsBlock-sub_bytes s h)

  IsBlock-gather : (s : List ℕ) → IsBlock s → IsBlock (gather s)
  IsBlock-gather s h = IsBlock-inv_sub_bytes (inv_shift_rows s) (IsBlock-inv_shift_rows s h)

  gather-spread : (s : List ℕ) → IsBlock s → gather (spread s) ≡ s
  gather-spread s h = ap inv_sub_bytes (inv_shift_rows-shift_rows (sub_bytes s) (IsBlock-sub_bytes s h)) ∙ inv_sub_bytes-sub_bytes s h

  spread-gather : (s : List ℕ) → IsBlock s → spread (gather s) ≡ s
  spread-gather s h = ap shift_rows (sub_bytes-inv_sub_bytes (inv_shift_rows s) (IsBlock-inv_shift_rows s h)) ∙ shift_rows-inv_shift_rows s h

  -- round r of the cipher from a spread state, and of the inverse cipher
  abbrev forth : List ℕ → ℕ → List ℕ
  forth s r = add_round_key (mix_columns s) w r

  abbrev back : List ℕ → ℕ → List ℕ
  back s r = inv_mix_columns (add_round_key s w r)

  IsBlock-forth : (s : List ℕ) (r : ℕ) → IsBlock s → IsBlock (forth s r)
  IsBlock-forth s r h = IsBlock-add_round_key (mix_columns s) w r (IsBlock-mix_columns s h)

  IsBlock-back : (s : List ℕ) (r : ℕ) → IsBlock s → IsBlock (back s r)
  IsBlock-back s r h = IsBlock-inv_mix_columns (add_round_key s w r) (IsBlock-add_round_key s w r h)

  back-forth : (s : List ℕ) (r : ℕ) → IsBlock s → back (forth s r) r ≡ s
  back-forth s r h = ap inv_mix_columns (add_round_key-add_round_key (mix_columns s) w r (IsBlock-mix_columns s h)) ∙ inv_mix_columns-mix_columns s h

  forth-back : (s : List ℕ) (r : ℕ) → IsBlock s → forth (back s r) r ≡ s
  forth-back s r h =
      ap (λ (x : List ℕ). add_round_key x w r) (mix_columns-inv_mix_columns (add_round_key s w r) (IsBlock-add_round_key s w r h))
      ∙ add_round_key-add_round_key s w r h

  IsBlock-rounds : (b : List ℕ) (r : ℕ) → IsBlock b → IsBlock (rounds b w r)
  unfolding rounds
  IsBlock-rounds b zero h = IsBlock-add_round_key b w 0 h
  IsBlock-rounds b (suc r) h = IsBlock-forth (spread (rounds b w r)) (suc r) (IsBlock-spread (rounds b w r) (IsBlock-rounds b r h))

  pub IsBlock-inv_rounds : (s : List ℕ) (r : ℕ) → IsBlock s → IsBlock (inv_rounds s w r)
  unfolding inv_rounds
  IsBlock-inv_rounds s zero h = h
  IsBlock-inv_rounds s (suc r) h = IsBlock-inv_rounds (back (gather s) (suc r)) r (IsBlock-back (gather s) (suc r) (IsBlock-gather s h))

  inv_rounds-rounds : (b : List ℕ) (r : ℕ) → IsBlock b → inv_rounds (spread (rounds b w r)) w r ≡ spread (add_round_key b w 0)
  unfolding rounds inv_rounds
  inv_rounds-rounds b zero h = refl
  inv_rounds-rounds b (suc r) h =
      let s : List ℕ = spread (rounds b w r) in
      let block : IsBlock s = IsBlock-spread (rounds b w r) (IsBlock-rounds b r h) in
      let gathered = gather-spread (forth s (suc r)) (IsBlock-forth s (suc r) block) in
      ap (λ (x : List ℕ). inv_rounds (back x (suc r)) w r) gathered
      ∙ ap (λ (x : List ℕ). inv_rounds x w r) (back-forth s (suc r) block)
      ∙ inv_rounds-rounds b r h

  rounds-inv_rounds : (s : List ℕ) (r : ℕ) → IsBlock s → rounds (add_round_key (gather (inv_rounds s w r)) w 0) w r ≡ gather s
  unfolding rounds inv_rounds
  rounds-inv_rounds s zero h = add_round_key-add_round_key (gather s) w 0 (IsBlock-gather s h)
  rounds-inv_rounds s (suc r) h =
      let t : List ℕ = back (gather s) (suc r) in
      let block : IsBlock t = IsBlock-back (gather s) (suc r) (IsBlock-gather s h) in
      ap (λ (x : List ℕ). forth (spread x) (suc r)) (rounds-inv_rounds t r block)
      ∙ ap (λ (x : List ℕ). forth x (suc r)) (spread-gather t block)
      ∙ forth-back (gather s) (suc r) (IsBlock-gather s h)

  pub IsBlock-cipher : (b : List ℕ) (nr : ℕ) → IsBlock b → IsBlock (cipher b nr w)
  unfolding cipher
  IsBlock-cipher b nr h =
      let s : List ℕ = rounds b w (nr - 1) in
      IsBlock-add_round_key (spread s) w nr (IsBlock-spread s (IsBlock-rounds b (nr - 1) h))

  pub IsBlock-inv_cipher : (b : List ℕ) (nr : ℕ) → IsBlock b → IsBlock (inv_cipher b nr w)
  unfolding inv_cipher
  IsBlock-inv_cipher b nr h =
      let s : List ℕ = inv_rounds (add_round_key b w nr) w (nr - 1) in
      IsBlock-add_round_key (gather s) w 0 (IsBlock-gather s (IsBlock-inv_rounds (add_round_key b w nr) (nr - 1) (IsBlock-add_round_key b w nr h)))

  pub inv_cipher-cipher : (b : List ℕ) (nr : ℕ) → IsBlock b → inv_cipher (cipher b nr w) nr w ≡ b
  unfolding cipher inv_cipher
  inv_cipher-cipher b nr h =
      let s : List ℕ = rounds b w (nr - 1) in
      let first : List ℕ = add_round_key b w 0 in
      let undone = add_round_key-add_round_key (spread s) w nr (IsBlock-spread s (IsBlock-rounds b (nr - 1) h)) in
      ap (λ (x : List ℕ). add_round_key (gather (inv_rounds x w (nr - 1))) w 0) undone
      ∙ ap (λ (x : List ℕ). add_round_key (gather x) w 0) (inv_rounds-rounds b (nr - 1) h)
      ∙ ap (λ (x : List ℕ). add_round_key x w 0) (gather-spread first (IsBlock-add_round_key b w 0 h))
      ∙ add_round_key-add_round_key b w 0 h

  pub cipher-inv_cipher : (b : List ℕ) (nr : ℕ) → IsBlock b → cipher (inv_cipher b nr w) nr w ≡ b
  unfolding cipher inv_cipher
  cipher-inv_cipher b nr h =
      let s : List ℕ = add_round_key b w nr in
      let block : IsBlock s = IsBlock-add_round_key b w nr h in
      ap (λ (x : List ℕ). add_round_key (spread x) w nr) (rounds-inv_rounds s (nr - 1) block)
      ∙ ap (λ (x : List ℕ). add_round_key x w nr) (spread-gather s block)
      ∙ add_round_key-add_round_key b w nr h
