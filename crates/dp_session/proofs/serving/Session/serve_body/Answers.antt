use Rattle.std.proofs.Common.{◌≡◌, ◌∙◌, length, ap}
use Rattle.dp_base.specs.Readers.{seen}
use Rattle.dp_wire.specs.Reading.{request_at}
use Rattle.dp_wire.specs.Request.{request_of}
use Rattle.dp_answer.specs.Needs.{need_of}
use Rattle.dp_session.proofs.Exchanges.{answered_exchange}
use Rattle.dp_session.proofs.serving.Session.serve_body.Goals as goal

pub returns-in-Some-clause-turn : goal.returns-in-Some-clause-turn
returns-in-Some-clause-turn g c = λ bytes stands.
    let body : c.in-Some.body.items ≡ bytes = rw c.in-Some.is at stands in
    let read : seen request_of c.read-request.result ≡ request_at bytes = c.read-request.ensures.exact ∙ ap request_at (c.as_slice.ensures.value ∙ body) in
    let served = rw read at c.answer_told-answered.ensures.served in
    rw c.exchange_of.ensures (answered_exchange _ bytes c.args.now c.need_of-need.result c.len-seen.result _ _ _ _ c.answer_told-answered.result.0 served (c.need_of-need.ensures ∙ ap need_of read) (c.len-seen.ensures.value ∙ ap length c.own.ensures) c.answer_told-answered.ensures.grows)
