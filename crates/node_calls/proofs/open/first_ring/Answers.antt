use Rattle.std.proofs.Common.{rules, refl, [], ◌∷◌, Ok, Err, None}
use Rattle.std.proofs.lemmas.Result.{err_from_is_err_and}
use Rattle.ring_world.specs.declared.step.Step.TheVariants.{ReadFailed}
use Rattle.ring_world.specs.Course.{idle}
use Rattle.ring_world.specs.Flight.{Memory, NoRead, Broken, cut}
use Rattle.node_calls.specs.Gather.{refusal}
use Rattle.node_calls.specs.Opening.{IsRing}
use Rattle.node_calls.proofs.Books.{exactly, nothing, Grows-refl}
use Rattle.node_calls.proofs.Fronts.{front}
use Rattle.node_calls.proofs.Openings.{opens_refused, handed_back}
use Rattle.node_calls.proofs.open.first_ring.Goals as goal

pub returns-in_err-steps : goal.returns-in_err-steps
returns-in_err-steps g c =
    let p = err_from_is_err_and c.from_residual.result c.from_residual.ensures.1 in
    record {
      opened = (
        Err Memory,
        [],
        rw (p.1, p.2) tt,
        λ host. exactly idle (nothing [] host _ _) (cut (Broken NoRead) tt refl (front idle [] (ReadFailed ∷ []) [] [] None 0 refl)),
      );
    }

pub returns-in-Ok : goal.returns-in-Ok
returns-in-Ok g c = record {
  opened = (
    Ok c.in-Ok.ring,
    c.gather.new.self.steps.now,
    (c.in-Ok.ring, refl, refl),
    λ host. handed_back c.args.now c.args.options (Ok c.in-Ok.ring) host _ _ _ (search rules) (search rules) (rw (c.in_ok-steps.ensures, c.empty-base.ensures) at (c.in-Ok.ensures.did host (g.R.Repo.store c.args.repo.now).list (Grows-refl _))),
  );
}

pub returns : goal.returns
returns g c = record {
  opened = (
    Err (refusal c.in-Err.why),
    c.gather.new.self.steps.now,
    rw c.refused_as.ensures (opens_refused IsRing c.in-Err.why),
    λ host. handed_back c.args.now c.args.options (Err (refusal c.in-Err.why)) host _ _ _ (search rules) (search rules) (rw (c.in_ok-steps.ensures, c.empty-base.ensures) at (c.in-Err.ensures.did host (g.R.Repo.store c.args.repo.now).list (Grows-refl _))),
  );
}
