use Rattle.std.proofs.Common.{◌<◌, subst, ◌∙◌, arith}
use Rattle.swap_cell.proofs.Keeps.{flags, flag_within}
use Rattle.swap_cell.proofs.viewing.refresh_any.Goals as goal

pub store-requires : goal.store-requires
store-requires g c = let t = c.requires.table in let e = c.refresh.ensures.table ∙ t.0.0 in let lt = t.1 in
    (e, flag_within _ _ _ t.0.0 t.0.1 (omega arith), flags g.T.Grows.extends _ _ _ (λ _. 1) _ (subst (λ z. c.args.index < z.slots) t.0.0 (omega arith)))

pub store-requires-2 : goal.store-requires-2
store-requires-2 g c = let t = c.requires.table in let e = c.refresh_either.ensures.table ∙ (c.store.ensures.0 ∙ (c.refresh.ensures.table ∙ t.0.0)) in let lt = t.1 in
    (e, flag_within _ _ _ t.0.0 t.0.1 (omega arith), flags g.T.Grows.extends _ _ _ (λ _. 0) _ (subst (λ z. c.args.index < z.slots) t.0.0 (omega arith)))
