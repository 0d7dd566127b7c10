-- An array that begins with the schedule of a key serves as that schedule, and gives the key back.
use Rattle.std.proofs.Common.{◌≡◌, ℕ, zero, suc, ◌+◌, ◌-◌, ◌*◌, ◌%◌, ◌≤◌, List, length, take, refl, sym, ap, subst, ◌∙◌, arith, inl, inr}
use Rattle.std.specs.Int.{w32, to_be_bytes}
use Rattle.std.specs.List.{flat_map}
use Rattle.std.proofs.lemmas.List.{get_or-take, take-take, take_all}
use Rattle.dp_base.specs.Blocks.{AreBytes, IsBlock, xor_bytes}
use Rattle.aes_block.specs.Aes.{IsExpanded, key_of}
use Rattle.aes_block.specs.Cipher.{sub_bytes, shift_rows, mix_columns, round_key, add_round_key, rounds, cipher, inv_shift_rows, inv_sub_bytes, inv_mix_columns, inv_rounds, inv_cipher, aes_cipher, aes_decipher}
use Rattle.aes_block.specs.Equivalent.{IsInverseSchedule, eq_inv_cipher}
use Rattle.aes_block.specs.KeyExpansion.{IsKeyLength, key_expansion, key_words, round_count}
use Rattle.aes_block.proofs.Equivalent.{inv_cipher-eq_inv_cipher}
use Rattle.aes_block.proofs.Schedule.{flat_map-first_words, take-first_words}

pub round_count-known : (key : List ℕ) (nr : ℕ) → IsKeyLength (length key) → nr ≡ round_count key → (nr % 2 ≡ 0) × (10 ≤ nr) × (nr ≤ 14)
round_count-known key nr (inl short) e = (omega arith, omega arith, omega arith)
round_count-known key nr (inr (inl middle)) e = (omega arith, omega arith, omega arith)
round_count-known key nr (inr (inr long)) e = (omega arith, omega arith, omega arith)

-- two schedules with the same round keys up to n
module _ (w v : List ℕ) (n : ℕ) (same : (r : ℕ) → r ≤ n → round_key w r ≡ round_key v r) where
  add_round_key-same : (s : List ℕ) (r : ℕ) → r ≤ n → add_round_key s w r ≡ add_round_key s v r
  unfolding add_round_key
  add_round_key-same s r h = ap (xor_bytes s) (same r h)

  rounds-same : (b : List ℕ) (r : ℕ) → r ≤ n → rounds b w r ≡ rounds b v r
  unfolding rounds
  rounds-same b zero h = add_round_key-same b 0 h
  rounds-same b (suc r) h =
      ap (λ (s : List ℕ). add_round_key (mix_columns (shift_rows (sub_bytes s))) w (suc r)) (rounds-same b r (omega arith))
      ∙ add_round_key-same (mix_columns (shift_rows (sub_bytes (rounds b v r)))) (suc r) h

  inv_rounds-same : (s : List ℕ) (r : ℕ) → r ≤ n → inv_rounds s w r ≡ inv_rounds s v r
  unfolding inv_rounds
  inv_rounds-same s zero h = refl
  inv_rounds-same s (suc r) h =
      inv_rounds-same (inv_mix_columns (add_round_key (inv_sub_bytes (inv_shift_rows s)) w (suc r))) r (omega arith)
      ∙ ap (λ (t : List ℕ). inv_rounds (inv_mix_columns t) v r) (add_round_key-same (inv_sub_bytes (inv_shift_rows s)) (suc r) h)

  cipher-same : (b : List ℕ) → cipher b n w ≡ cipher b n v
  unfolding cipher
  cipher-same b =
      ap (λ (s : List ℕ). add_round_key (shift_rows (sub_bytes s)) w n) (rounds-same b (n - 1) (omega arith))
      ∙ add_round_key-same (shift_rows (sub_bytes (rounds b v (n - 1)))) n (omega arith)

  inv_cipher-same : (b : List ℕ) → inv_cipher b n w ≡ inv_cipher b n v
  unfolding inv_cipher
  inv_cipher-same b =
      let last : List ℕ → List ℕ = λ s. inv_sub_bytes (inv_shift_rows s) in
      ap (λ (s : List ℕ). add_round_key (last s) w 0) (inv_rounds-same (add_round_key b w n) (n - 1) (omega arith))
      ∙ ap (λ (s : List ℕ). add_round_key (last (inv_rounds s v (n - 1))) w 0) (add_round_key-same b n (omega arith))
      ∙ add_round_key-same (last (inv_rounds (add_round_key b v n) v (n - 1))) 0 (omega arith)

round_key-take : (w : List ℕ) (n r : ℕ) → r ≤ n → round_key w r ≡ round_key (take (4 * (n + 1)) w) r
round_key-take w n r h =
    let m : ℕ = 4 * (n + 1) in
    rw (get_or-take m w (4 * r) 0 (omega arith), get_or-take m w (4 * r + 1) 0 (omega arith), get_or-take m w (4 * r + 2) 0 (omega arith), get_or-take m w (4 * r + 3) 0 (omega arith))
    refl

pub cipher-expanded : (words inverse : List ℕ) (nr : ℕ) (b : List ℕ) → IsExpanded words inverse nr → cipher b nr words ≡ aes_cipher (key_of words nr) b
unfolding aes_cipher
cipher-expanded words inverse nr b e =
    cipher-same words (take (4 * (nr + 1)) words) nr (λ r h. round_key-take words nr r h) b
    ∙ (λ i. cipher b (e.counted i) (e.scheduled i))

pub inv_cipher-expanded : (words inverse : List ℕ) (nr : ℕ) (b : List ℕ) → IsExpanded words inverse nr → IsBlock b
    → eq_inv_cipher b nr inverse ≡ aes_decipher (key_of words nr) b
unfolding aes_decipher
inv_cipher-expanded words inverse nr b e block =
    inv_cipher-eq_inv_cipher words inverse nr e.inverted b (omega (arith, e.counted)) block
    ∙ inv_cipher-same words (take (4 * (nr + 1)) words) nr (λ r h. round_key-take words nr r h) b
    ∙ (λ i. inv_cipher b (e.counted i) (e.scheduled i))

-- 10, 12 or 14 rounds
pub rounds-known : (words inverse : List ℕ) (nr : ℕ) → IsExpanded words inverse nr → (nr % 2 ≡ 0) × (10 ≤ nr) × (nr ≤ 14)
rounds-known words inverse nr e = round_count-known (key_of words nr) nr e.sized e.counted

key_length : (key : List ℕ) → IsKeyLength (length key) → length key ≡ 4 * key_words key
key_length key (inl short) = omega arith
key_length key (inr (inl middle)) = omega arith
key_length key (inr (inr long)) = omega arith

-- the key of a schedule
pub key_of-schedule : (key words : List ℕ) → IsKeyLength (length key) → AreBytes key
    → take (4 * (round_count key + 1)) words ≡ key_expansion key → key_of words (round_count key) ≡ key
unfolding key_expansion
key_of-schedule key words sized bytes held =
    let n : ℕ = key_words key in
    let at : round_count key - 6 ≡ n = omega arith in
    let whole = key_length key sized in
    ap (λ (k : ℕ). flat_map (to_be_bytes w32) (take k words)) at
    ∙ ap (flat_map (to_be_bytes w32))
    (sym (take-take n (4 * (round_count key + 1)) words (omega arith)) ∙ ap (take n) held ∙ take-first_words key n (4 * (round_count key + 1)) (omega arith))
    ∙ flat_map-first_words key n bytes (omega arith)
    ∙ take_all (4 * n) key (omega arith)

pub IsExpanded-schedule : (key words inverse : List ℕ) → IsKeyLength (length key) → AreBytes key
    → take (4 * (round_count key + 1)) words ≡ key_expansion key → IsInverseSchedule words inverse (round_count key)
    → IsExpanded words inverse (round_count key)
IsExpanded-schedule key words inverse sized bytes held inverted =
    let same = key_of-schedule key words sized bytes held in
    record {
      sized = subst (λ (k : List ℕ). IsKeyLength (length k)) (sym same) sized;
      counted = ap round_count (sym same);
      scheduled = held ∙ ap key_expansion (sym same);
      inverted = inverted;
    }
