use Rattle.std.proofs.Common.{[]}
use Rattle.dp_wire.specs.Chains.{chain_of}
use Rattle.dp_wire.specs.Request.{ProtectTimed}
use Rattle.dp_answer.proofs.Answers.{misdated_refused}
use Rattle.dp_answer.proofs.request.answer_view.Goals as goal

pub returns-in-Revoke-clause-served : goal.returns-in-Revoke-clause-served
returns-in-Revoke-clause-served g c = rw c.in-Revoke.is (c.place_revocation.ensures.served c.args.setting.app.now)

pub returns-in-RevokeBefore-clause-served : goal.returns-in-RevokeBefore-clause-served
returns-in-RevokeBefore-clause-served g c = rw c.in-RevokeBefore.is (c.place_mass_revocation.ensures.served c.args.setting.app.now)

pub returns-in-Roll-clause-served : goal.returns-in-Roll-clause-served
returns-in-Roll-clause-served g c = rw c.in-Roll.is (c.place_key.ensures.served c.args.setting.app.now)

pub returns-in-ProtectTimed-clause-served : goal.returns-in-ProtectTimed-clause-served
returns-in-ProtectTimed-clause-served g c =
    let p = ProtectTimed c.in-ProtectTimed.need (chain_of c.in-ProtectTimed.chain.bytes.now) c.in-ProtectTimed.expiry c.in-ProtectTimed.plain.now in
    rw (c.in-ProtectTimed.is, c.requires.room) ([], misdated_refused c.args.setting.app.now p c.args.now _ c.refused.result c.if-expiry-gt-MAX_TICKS.true c.refused.ensures.answer)
