use Rattle.dp_answer.proofs.Answers.{short_body}
use Rattle.dp_answer.proofs.response.framed.Goals as goal

pub put_reply-requires : goal.put_reply-requires
put_reply-requires c = short_body c.args.reply.now c.requires
