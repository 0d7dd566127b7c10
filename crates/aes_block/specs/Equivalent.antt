-- The equivalent inverse cipher (FIPS 197, 5.3.5) on lists, which takes the steps in the order of the
-- cipher. A schedule of it is a list of words as a schedule of the cipher is.
use Rattle.std.specs.Prelude.{◌≡◌, ℕ, zero, suc, ◌-◌, ◌<◌, ◌≤◌, List}
use Rattle.aes_block.specs.Cipher.{round_key, add_round_key, inv_shift_rows, inv_sub_bytes, inv_mix_columns}

-- KeyExpansionEIC: the round keys of w, of which those between the first and the last, of number nr,
-- are mixed by InvMixColumns (5.3.5)
pub record IsInverseSchedule (w dw : List ℕ) (nr : ℕ) : Type 0 where
  pub first : round_key dw 0 ≡ round_key w 0
  pub mixed : (r : ℕ) → 1 ≤ r → r < nr → round_key dw r ≡ inv_mix_columns (round_key w r)
  pub last : round_key dw nr ≡ round_key w nr

-- a state after the rounds r, …, 1 of the equivalent inverse cipher (5.3.5)
unfoldable pub eq_inv_rounds : List ℕ → List ℕ → ℕ → List ℕ
eq_inv_rounds s dw zero = s
eq_inv_rounds s dw (suc r) =
    eq_inv_rounds (add_round_key (inv_mix_columns (inv_shift_rows (inv_sub_bytes s))) dw (suc r)) dw r

-- EqInvCipher, whose last round has no InvMixColumns (5.3.5)
unfoldable pub eq_inv_cipher : List ℕ → ℕ → List ℕ → List ℕ
eq_inv_cipher block nr dw =
    add_round_key (inv_shift_rows (inv_sub_bytes (eq_inv_rounds (add_round_key block dw nr) dw (nr - 1)))) dw 0
