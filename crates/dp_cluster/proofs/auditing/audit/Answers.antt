use Rattle.std.proofs.Common.{refl, subst, arith}
use Rattle.std.proofs.lemmas.List.{take_all}
use Rattle.dp_cluster.specs.Audit.{AreFronts}
use Rattle.dp_cluster.proofs.Fronts.{AreFronts-more, fronts_of_entries}
use Rattle.dp_cluster.proofs.auditing.audit.Goals as goal

pub loop-number-preserved : goal.loop-number-preserved
loop-number-preserved c =
    AreFronts-more c.args.history.now c.args.traces.now c.loop-number.number c.index-traces-number.result (omega arith) c.index-traces-number.is c.loop-number.invariant c.in_default.ensures

pub returns-clause-ok : goal.returns-clause-ok
returns-clause-ok c =
    (λ _. subst (AreFronts c.args.history.now) (take_all c.loop-number.number c.args.traces.now (omega arith)) c.loop-number.invariant, λ _. refl)

pub returns-clause-entries : goal.returns-clause-entries
returns-clause-entries c =
    fronts_of_entries c.args.history.now c.args.traces.now
    (subst (AreFronts c.args.history.now) (take_all c.loop-number.number c.args.traces.now (omega arith)) c.loop-number.invariant)
