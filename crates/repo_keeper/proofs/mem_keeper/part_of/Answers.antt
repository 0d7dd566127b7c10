use Rattle.std.proofs.Common.{◌∷◌, [], ◌++◌, sym, ap, ◌∙◌, arith}
use Rattle.repo_keeper.proofs.Parts.{part-next, slice_get-some}
use Rattle.repo_keeper.proofs.mem_keeper.part_of.Goals.{in-Some+in_ok-clone+in_ok-push, in_default}
use Rattle.repo_keeper.proofs.mem_keeper.part_of.Goals as goal

pub loop-place-preserved : goal.loop-place-preserved
loop-place-preserved c =
    elim c.match-get.branch [
      | in-Some+in_ok-clone+in_ok-push w ↦
          ap (λ v. v.items) w.part-is ∙ w.in_ok-push.ensures.items ∙ ap (λ e. c.loop-place.part.items ++ e ∷ []) w.in_ok-clone.ensures.cases
          ∙ ap (λ es. es ++ w.in-Some.element.now ∷ []) c.loop-place.invariant
          ∙ sym (part-next c.args.from c.loop-place.place _ c.args.list.now _ c.loop-place.auto.place (omega arith) (sym w.in-Some.ensures))
      | in_default w ↦ absurd (slice_get-some c.args.list.now c.loop-place.place (omega (arith, c.loop-place-test.true, c.min-end.ensures, c.requires.end)) w.in_default.ensures)
    ]
