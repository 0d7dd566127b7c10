use Rattle.std.proofs.Common.{refl, zero-mul, ◌≡◌, ◌%◌, arith}
use Rattle.std.specs.Int.Bits.{xor_zero_r}
use Rattle.gcm_mode.specs.Product.{next_multiple}
use Rattle.gcm_mode.proofs.product.next_multiple.Goals as goal

pub returns-then-v-eq1 : goal.returns-then-v-eq1
unfolding next_multiple
returns-then-v-eq1 c = rw (c.if-v-eq1.true) refl

pub returns-else-v-eq1 : goal.returns-else-v-eq1
unfolding next_multiple
returns-else-v-eq1 c =
    let even : c.args.v % 2 ≡ 0 = omega (arith, c.if-v-eq1.false) in
    rw (even, zero-mul, xor_zero_r) refl
