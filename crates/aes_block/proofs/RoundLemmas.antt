-- One more round of the cipher and of the equivalent inverse cipher.
use Rattle.std.proofs.Common.{◌≡◌, ℕ, zero, suc, List, refl}
use Rattle.aes_block.specs.Cipher.{sub_bytes, shift_rows, mix_columns, add_round_key, rounds, inv_shift_rows, inv_sub_bytes, inv_mix_columns}
use Rattle.aes_block.specs.Equivalent.{eq_inv_rounds}

pub rounds_step : (b w : List ℕ) (before r : ℕ) → r ≡ suc before
    → rounds b w r ≡ add_round_key (mix_columns (shift_rows (sub_bytes (rounds b w before)))) w r
unfolding rounds
rounds_step b w before r e = rw e refl

pub eq_inv_rounds_step : (s dw : List ℕ) (before r : ℕ) → r ≡ suc before
    → eq_inv_rounds s dw r ≡ eq_inv_rounds (add_round_key (inv_mix_columns (inv_shift_rows (inv_sub_bytes s))) dw r) dw before
unfolding eq_inv_rounds
eq_inv_rounds_step s dw before r e = rw e refl

pub eq_inv_rounds_none : (s dw : List ℕ) (r : ℕ) → r ≡ zero → eq_inv_rounds s dw r ≡ s
unfolding eq_inv_rounds
eq_inv_rounds_none s dw r e = rw e refl
