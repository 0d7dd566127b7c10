use Rattle.std.proofs.Common.{sym}
use Rattle.dp_answer.proofs.request.respond.Goals as goal

pub opened-requires : goal.opened-requires
opened-requires g c = rw c.in-Unprotect.is at c.requires.short

pub opened_timed-requires : goal.opened_timed-requires
opened_timed-requires g c = rw c.in-UnprotectTimed.is at c.requires.short

pub returns-in-Ring : goal.returns-in-Ring
returns-in-Ring g c = rw c.in-Ring.is (c.listed.ensures c.args.setting.app.now c.args.now c.in-Ring.need (g.D.Draw.draws c.args.draw.now))

pub returns-in-Protect : goal.returns-in-Protect
returns-in-Protect g c = rw c.in-Protect.is (c.protected.ensures c.args.now c.in-Protect.need)

pub returns-in-Unprotect : goal.returns-in-Unprotect
returns-in-Unprotect g c = rw c.in-Unprotect.is (c.opened.ensures c.args.now c.in-Unprotect.need (g.D.Draw.draws c.args.draw.now))

pub returns-in-ProtectText : goal.returns-in-ProtectText
returns-in-ProtectText g c = rw c.in-ProtectText.is (c.protected_text.ensures c.args.now c.in-ProtectText.need)

pub returns-in-UnprotectText : goal.returns-in-UnprotectText
returns-in-UnprotectText g c =
    let known = rw c.in-UnprotectText.is at c.requires.sought.payload in
    rw c.in-UnprotectText.is (c.opened_text.ensures c.args.now c.in-UnprotectText.need c.in-UnprotectText.text.now (g.D.Draw.draws c.args.draw.now) (sym known))

pub returns-in-ProtectTimed : goal.returns-in-ProtectTimed
returns-in-ProtectTimed g c = rw c.in-ProtectTimed.is (c.protected_timed.ensures c.args.now c.in-ProtectTimed.need)

pub returns-in-UnprotectTimed : goal.returns-in-UnprotectTimed
returns-in-UnprotectTimed g c = rw c.in-UnprotectTimed.is (c.opened_timed.ensures c.in-UnprotectTimed.need (g.D.Draw.draws c.args.draw.now))
