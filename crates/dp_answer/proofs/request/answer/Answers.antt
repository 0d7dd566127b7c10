use Rattle.std.proofs.Common.{[]}
use Rattle.dp_answer.proofs.Answers.{unread_refused}
use Rattle.dp_answer.proofs.request.answer.Goals as goal

pub returns-in-Err-clause-served : goal.returns-in-Err-clause-served
returns-in-Err-clause-served g c = rw (c.in-Err.is, c.requires.room) ([], unread_refused c.args.setting.app.now c.in-Err.why c.args.now _ _ c.bad_request.ensures)
