use Rattle.std.proofs.Common.{ap, ◌∙◌, sym, subst, map, arith}
use Rattle.swap_cell.specs.Rule.{InLine}
use Rattle.swap_cell.specs.Cells.{value_of}
use Rattle.swap_cell.proofs.Keeps.{lines, line_of_items, word_within}
use Rattle.swap_cell.proofs.handles.Viewer.learn.Goals as goal

pub load-requires : goal.load-requires
load-requires g c = let me = c.take_in.new.self in let e = me.seated ∙ ap (λ z. z.shared.table_id) (sym c.deref.ensures) in
    (e, word_within _ _ _ e me.sized.0 (let w = me.within in omega arith), lines g.T.Grows.extends _ _ _ _)

pub returns-clause-in_line : goal.returns-clause-in_line
returns-clause-in_line g c = let t = c.load.ensures.2 in
    subst (λ m. InLine g.T.Grows.extends (map value_of m.0.known)) (sym t.0) (line_of_items g.T.Grows.extends _ t.1)
