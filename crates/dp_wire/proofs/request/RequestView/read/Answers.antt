use Rattle.std.proofs.Common.{ap, ◌∙◌}
use Rattle.dp_base.proofs.Parts.{AreBytes-from_fits}
use Rattle.dp_wire.specs.Reading.{request_at}
use Rattle.dp_wire.proofs.Bodies.{found_view, again}
use Rattle.dp_wire.proofs.request.RequestView.read.Goals as goal

pub returns-clause-found : goal.returns-clause-found
returns-clause-found c = found_view c.args.body.now c.request_at.result (AreBytes-from_fits c.args.body.now c.type_inv.body) c.request_at.ensures

pub returns-clause-only : goal.returns-clause-only
returns-clause-only c = λ q is. c.request_at.ensures ∙ ap request_at is.1 ∙ again q is.0
