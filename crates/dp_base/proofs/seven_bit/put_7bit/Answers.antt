use Rattle.std.proofs.Common.{◌≡◌, ◌+◌, ◌-◌, ◌/◌, ◌%◌, ◌++◌, ◌∷◌, [], ℕ, List, take, set, sym, ap, ◌∙◌, append_assoc, refl, arith}
use Rattle.std.proofs.lemmas.List.{take_more_set, length-set}
use Rattle.dp_base.specs.SevenBit.{groups, seven}
use Rattle.dp_base.proofs.Sevens.{groups_more, groups-end}
use Rattle.dp_base.proofs.seven_bit.put_7bit.Goals as goal

pub loop-left-preserved : goal.loop-left-preserved
loop-left-preserved c =
    let more = groups_more c.loop-left.count c.loop-left.left c.loop-left.invariant.within c.loop-left-test.true c.loop-left.invariant.below in
    let done : List ℕ = take c.loop-left.count c.loop-left.groups in
    let rest : List ℕ = groups (4 - (c.loop-left.count + 1)) (c.loop-left.left / 128) in
    let byte : ℕ = c.loop-left.left % 128 + 128 in
    record {
      within = omega arith;
      room = rw (length-set, c.loop-left.invariant.room) refl;
      below = more.2;
      same = c.loop-left.invariant.same ∙ ap (λ (t : List ℕ). done ++ t) more.1 ∙ sym (append_assoc done (byte ∷ []) rest)
          ∙ ap (λ (t : List ℕ). t ++ rest) (sym (take_more_set c.loop-left.groups c.loop-left.count byte (omega arith)));
    }

pub returns-clause-ok : goal.returns-clause-ok
unfolding seven
returns-clause-ok c =
    let done : List ℕ = take c.loop-left.count c.loop-left.groups in
    let last : groups (4 - c.loop-left.count) c.loop-left.left ≡ c.loop-left.left ∷ [] = groups-end _ _ c.loop-left-test.false in
    let whole : groups 4 c.args.n ≡ take (c.loop-left.count + 1) (set c.loop-left.groups c.loop-left.count c.loop-left.left) =
    c.loop-left.invariant.same ∙ ap (λ (t : List ℕ). done ++ t) last ∙ sym (take_more_set c.loop-left.groups c.loop-left.count c.loop-left.left (omega arith)) in
    c.in_ok-extend_from_slice.ensures.items ∙ ap (λ (t : List ℕ). c.args.out.now.items ++ t) (sym whole)
