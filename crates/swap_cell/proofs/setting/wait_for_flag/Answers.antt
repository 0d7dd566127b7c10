use Rattle.std.proofs.Common.{◌<◌, subst, ◌∙◌}
use Rattle.swap_cell.proofs.Keeps.{flags, flag_within}
use Rattle.swap_cell.proofs.setting.wait_for_flag.Goals as goal

pub load-requires : goal.load-requires
load-requires g c = let t = c.requires.table in
    (c.loop.invariant.0 ∙ t.0.0, flag_within _ _ _ t.0.0 t.0.1 t.1, flags g.T.Grows.extends _ _ _ (λ n. n) _ (subst (λ z. c.args.index < z.slots) t.0.0 t.1))
