use Rattle.std.proofs.Common.{ap, ◌∙◌, ◌∷◌, sym, subst, map, arith}
use Rattle.swap_cell.specs.Rule.{Each}
use Rattle.swap_cell.specs.Cells.{value_of}
use Rattle.swap_cell.proofs.Keeps.{looks, each_of_map, word_within}
use Rattle.swap_cell.proofs.handles.Viewer.look.Goals as goal

pub load-requires : goal.load-requires
load-requires g c = let me = c.args.self.now in let r = c.refresh_any.ensures in let e = me.seated ∙ ap (λ z. z.shared.table_id) (sym c.deref-2.ensures) in
    let a = r.same.1 in let b = me.most_is in let d = c.if-self.false in
    (r.table ∙ e, word_within _ _ _ e me.sized.0 (let w = me.within in omega arith), looks g.T.Grows.extends _ _ _ _ c.refresh_any.new.mine r.has (omega arith))

pub returns-clause-looked : goal.returns-clause-looked
returns-clause-looked g c = let r = c.refresh_any.ensures in let t = c.load.ensures.2 c.refresh_any.new.mine r.has in let x = c.in_ok-value.value in let is = sym c.in_ok-value.ensures in (
  subst (λ k. Each (g.T.Grows.extends x) (map value_of k)) r.same.0
      (subst (λ z. Each (g.T.Grows.extends z) (map value_of c.refresh_any.new.place.me.0.known)) is
      (each_of_map value_of (g.T.Grows.extends c.refresh_any.new.mine.value) c.refresh_any.new.place.me.0.known t.0)),
  ap (λ m. map value_of m.0.known) t.1 ∙ (λ i. is i ∷ map value_of (r.same.0 i)),
)
