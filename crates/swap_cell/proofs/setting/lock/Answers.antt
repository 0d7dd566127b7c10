use Rattle.std.proofs.Common.{arith, ◌≡◌, ◌<◌, ap, subst, refl, ◌∙◌}
use Rattle.swap_cell.proofs.Keeps.{locks, has_locked}
use Rattle.swap_cell.proofs.setting.lock.Goals as goal

pub compare_exchange-requires : goal.compare_exchange-requires
compare_exchange-requires g c = let t = c.requires.table in let e : c.args.place.now.table_id.words ≡ c.args.board.now.shared.table_id.words = ap (λ z. z.words) t.0.0 in (
  c.loop.invariant.0 ∙ t.0.0,
  omega (arith, t.0.1, t.1),
  locks g.T.Grows.extends _ _ _ _ (subst (λ z. c.args.index < z.slots) t.0.0 t.1),
)

pub returns-then-compare_exchange-eq0 : goal.returns-then-compare_exchange-eq0
returns-then-compare_exchange-eq0 g c = let inv = c.loop.invariant in let e = c.compare_exchange.ensures in let t = e.2.0 c.if-compare_exchange-eq0.true c.args.index refl in
    (e.0 ∙ inv.0, has_locked _ _ _ _ _ t.1 inv.1 c.requires.free)
