use Rattle.std.proofs.Common.{◌≡◌, ◌∷◌, [], ◌++◌, rules}
use Rattle.dp_base.specs.Transfer.{Writes, WritesFront}
use Rattle.dp_session.proofs.Exchanges.{served_one, done, failed}
use Rattle.dp_session.proofs.serving.Session.serve_frame.Goals as goal

pub returns-clause-ok : goal.returns-clause-ok
returns-clause-ok g c =
    let added : c.push.new.self.items ≡ c.args.log.now.entries.items ++ c.serve_body-turn.result.entry ∷ [] = search rules in
    rw c.serve_body-turn.ensures.clock (done c.put_frame.result c.put_frame.ensures.ok (λ written. λ bytes reads.
    served_one _ Writes bytes _ _ _ _ _ _ _ _ c.now.result c.min-now.result c.serve_body-turn.result _ _ _ _ _ _ c.now.ensures c.min-now.ensures (c.serve_body-turn.ensures.turn bytes reads.1) added c.grow.ensures written))

pub returns-clause-err : goal.returns-clause-err
returns-clause-err g c =
    let added : c.push.new.self.items ≡ c.args.log.now.entries.items ++ c.serve_body-turn.result.entry ∷ [] = search rules in
    rw c.serve_body-turn.ensures.clock (failed c.put_frame.result c.put_frame.ensures.err (λ written. λ bytes reads.
    served_one _ WritesFront bytes _ _ _ _ _ _ _ _ c.now.result c.min-now.result c.serve_body-turn.result _ _ _ _ _ _ c.now.ensures c.min-now.ensures (c.serve_body-turn.ensures.turn bytes reads.1) added c.grow.ensures written))
