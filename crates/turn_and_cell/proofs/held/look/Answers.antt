use Rattle.std.proofs.Common.{◌∙◌, sym}
use Rattle.turn_and_cell.proofs.Knowing.{looked_extends, looked_knows}
use Rattle.turn_and_cell.proofs.held.look.Goals as goal

pub returns-clause-held : goal.returns-clause-held
returns-clause-held g c = let h = c.requires.held in let e = c.look.ensures in
    (h.0 ∙ sym e.cell, looked_knows g.T.Grows.extends c.args.viewer.now c.look.new.self _ c.look.result e.looked e.memory h.1)

pub returns-clause-extends : goal.returns-clause-extends
returns-clause-extends g c = looked_extends g.T.Grows.extends c.args.viewer.now c.look.new.self _ c.look.result c.look.ensures.looked c.requires.held.1
