use Rattle.std.proofs.Common.{◌∙◌, length, refl, ap, inl, inr, ⊎_elim}
use Rattle.dp_answer.proofs.Unsealed.{unsealed}
use Rattle.dp_answer.proofs.calls.sealed_by.Goals as goal

pub returns-in-Err : goal.returns-in-Err
returns-in-Err g c =
    let e = c.in-Err.ensures in (
      c.args.ring.now,
      refl,
      c.len.ensures.value ∙ ap length c.list.ensures,
      unsealed c.args.ring.now c.args.plain.now (g.D.Draw.draws c.args.draw.now) (g.D.Draw.draws c.protect_with.new.draw) c.in-Err.why e.too_long e.no_default_key (λ h. ap g.D.Draw.draws (e.untouched h)) e.draw_fault
          (λ h. ⊎_elim (λ s. inl (ap g.D.Draw.draws s)) (λ d. inr d) (e.memory h)),
    )
