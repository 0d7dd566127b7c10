use Rattle.std.proofs.Common.{refl, [], ◌∷◌}
use Rattle.ring_world.specs.declared.step.Step.TheVariants.{Drawn}
use Rattle.node_calls.proofs.Fronts.{bare}
use Rattle.node_calls.proofs.Books.{outside, exactly, Moved-refl}
use Rattle.repo_keeper.specs.Made.{key_of_draw}
use Rattle.node_calls.proofs.gather.draw_key.Goals as goal

pub returns-in-Ok-clause-did : goal.returns-in-Ok-clause-did
returns-in-Ok-clause-did g c = λ good host store.
    let e = c.in-Ok.ensures.made in
    exactly (bare (Drawn 80 ∷ []) e.0)
    (outside (Drawn 80) e.0 _ _ host store store _ _ (λ _. refl) (λ _. refl) (λ _. refl) refl refl e.1 c.push.ensures (Moved-refl store) e.2)
    (e.0, e.3, e.1, refl)

pub returns-in-Ok-clause-key : goal.returns-in-Ok-clause-key
unfolding key_of_draw
returns-in-Ok-clause-key g c = let e = c.in-Ok.ensures.made in (_, e.3)
