use Rattle.std.proofs.Common.{arith, ◌≡◌, ◌<◌, ◌∷◌, ap, subst, inr, ◌∙◌}
use Rattle.atomic_table.specs.Table.{rest}
use Rattle.swap_cell.proofs.Keeps.{frees, front}
use Rattle.swap_cell.proofs.setting.hand.Goals as goal

pub exchange-old-requires : goal.exchange-old-requires
exchange-old-requires g c = let l = c.lock.ensures in (l.0 ∙ c.requires.table.0.0, (l.1.0, front _ _ _ (ap (λ m. m.1) l.1.1)))

pub store-requires : goal.store-requires
store-requires g c = let l = c.lock.ensures in let x = c.exchange-old.ensures in let v = c.lock.new.place.me.0 in let t = c.requires.table in
    let e : c.args.place.now.table_id.words ≡ c.args.board.now.shared.table_id.words = ap (λ z. z.words) t.0.0 in (
      x.0 ∙ (l.0 ∙ t.0.0),
      omega (arith, t.0.1, t.1),
      frees g.T.Grows.extends _ _ c.args.index v c.args.item _ (x.3 ∙ ap (λ m. (v, (c.args.index, c.args.item) ∷ rest m.1)) l.1.1) (ap (λ m. m.0.slot) l.1.1)
          (subst (λ z. c.args.index < z.slots) t.0.0 t.1) (inr (ap (λ m. m.0.mine) l.1.1 ∙ c.requires.has)),
    )
