use Rattle.std.proofs.Common.{◌<◌, length, arith, sym, refl, ◌∙◌, add-one}
use Rattle.std.proofs.lemmas.List.{take_rest}
use Rattle.std.proofs.Math.Nat.{pow-suc}
use Rattle.dp_base.specs.SevenBit.{groups_at, seven_at}
use Rattle.dp_base.proofs.Sevens.{above-none, last_at, more_at, below-more}
use Rattle.dp_base.proofs.seven_bit.number_at.Goals as goal

pub loop-place-init : goal.loop-place-init
unfolding seven_at
loop-place-init c = record {
  within = omega arith;
  power = refl;
  below = omega arith;
  same = sym (above-none (groups_at 5 c.args.bytes.now));
}

pub returns-then-group-lt128 : goal.returns-then-group-lt128
returns-then-group-lt128 c =
    let lt : c.loop-place.place < length c.args.bytes.now = omega arith in
    rw take_rest
    (sym (c.loop-place.invariant.same ∙ last_at c.args.bytes.now c.loop-place.place c.loop-place.value c.loop-place.unit (omega arith) lt c.if-group-lt128.true (λ e. grind arith) (λ h e. grind arith)))

pub loop-place-preserved : goal.loop-place-preserved
loop-place-preserved c =
    let lt : c.loop-place.place < length c.args.bytes.now = omega arith in
    record {
      within = omega arith;
      power = rw (c.loop-place.invariant.power, add-one, pow-suc) refl;
      below = rw (c.loop-place.invariant.power) (below-more c.loop-place.place c.loop-place.value _ c.loop-place.invariant.below c.if-group-lt128.false (omega (arith, c.type_inv.bytes c.loop-place.place)));
      same = c.loop-place.invariant.same ∙ more_at c.args.bytes.now c.loop-place.place c.loop-place.value c.loop-place.unit c.loop-place-test.true lt c.if-group-lt128.false;
    }
