use Rattle.std.proofs.Common.{sym, ap, ◌∙◌, Ok}
use Rattle.std.proofs.lemmas.Result.{err_from_is_err_and}
use Rattle.node_calls.specs.Opening.{IsRing}
use Rattle.dp_node.specs.NodeOpening.{IsNode, facts_of}
use Rattle.node_calls.proofs.Openings.{same_refused}
use Rattle.dp_node.proofs.node.Node.open.Goals as goal

pub returns-in_err-ring : goal.returns-in_err-ring
returns-in_err-ring g c =
    let p = err_from_is_err_and c.from_residual.result c.from_residual.ensures.1 in
    let o = c.in_err-ring.ensures.opened in
    record { opened = (o.0, o.1, rw (p.1, p.2) (same_refused IsRing (IsNode (facts_of c.args.node c.args.now c.args.options) c.args.passes) c.in_err-ring.field-0.0 o.0 o.2), o.3) }

pub returns-in_err-passes_over : goal.returns-in_err-passes_over
returns-in_err-passes_over g c =
    let p = err_from_is_err_and c.from_residual-in_err-passes_over.result c.from_residual-in_err-passes_over.ensures.1 in
    let o = c.in_ok-ring.ensures.opened in
    record { opened = (o.0, o.1, rw (p.1, p.2) tt, o.3) }

pub returns : goal.returns
returns g c =
    let o = c.in_ok-ring.ensures.opened in
    record { opened = (o.0, o.1, (c.in_ok-ring.ring, o.2.1 ∙ ap Ok (sym o.2.2), c.in_ok-passes_over.ensures), o.3) }
