use Rattle.std.proofs.Common.{List, ℕ, length, refl, ap, arith, rules}
use Rattle.dp_base.specs.Draws.{DrawState}
use Rattle.dp_base.specs.Readers.{seen}
use Rattle.dp_wire.specs.Request.{request_of}
use Rattle.dp_session.proofs.Drawing.{tape_tells, told_served}
use Rattle.dp_session.proofs.serving.Session.answer_told.Goals as goal

pub of-drawn-requires : goal.of-drawn-requires
of-drawn-requires g c =
    let s = c.answer_taped-answered.ensures.served in
    let none = ap (λ (d : DrawState). d.given) c.new-taped.ensures.draws in
    let tells = tape_tells _ (seen request_of c.args.request) c.args.now c.answer_taped-answered.result s.0 c.bytes.result.now _ _ s.1 none c.bytes.ensures in
    omega (arith, ap length tells.1, tells.2)

pub returns-clause-served : goal.returns-clause-served
returns-clause-served g c =
    let s = c.answer_taped-answered.ensures.served in
    let bytes : List ℕ = c.bytes.result.now in
    rw c.of-drawn.ensures (told_served _ (seen request_of c.args.request) c.args.now c.answer_taped-answered.result s.0 bytes _ _ _ _ _ _ _ (g.D.Draw.draws c.args.self.now.draw.now) (g.D.Draw.draws c.answer_taped-answered.new.draw.draw.now) _ _ c.answer_taped-answered.new.draw.draw.ghost_name c.answer_taped-answered.new.draw.tape c.new-taped.ensures.draws refl (search rules) s.1 c.bytes.ensures)
