use Rattle.std.proofs.Common.{◌≡◌, ℕ, ◌+◌, ◌-◌, ◌<◌, refl, subst, arith}
use Rattle.aes_block.specs.Field.{xtime, times_bits, times, even_power, inverse}
use Rattle.aes_block.specs.Laws.Tables.{same_in_table}
use Rattle.aes_block.proofs.s_box.bytes_have_inverses.Goals as goal

-- a test over the bytes from 1 on
times-inverse : (b : ℕ) → b < 255 → times (b + 1) (inverse (b + 1)) ≡ 1
unfolding xtime times_bits times even_power inverse
times-inverse b h = same_in_table (λ b. times (b + 1) (inverse (b + 1))) (λ b. 1) 255 refl b h

pub returns : goal.returns
returns c b some below =
    let at : b - 1 + 1 ≡ b = omega arith in
    subst (λ (x : ℕ). times x (inverse x) ≡ 1) at (times-inverse (b - 1) (omega arith))
