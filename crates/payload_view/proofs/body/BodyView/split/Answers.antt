use Rattle.std.proofs.Common.{◌-◌, ◌+◌, length, arith}
use Rattle.payload_view.proofs.Joining.{four_parts}
use Rattle.payload_view.proofs.body.BodyView.split.Goals as goal

pub returns-clause-whole : goal.returns-clause-whole
returns-clause-whole c =
    four_parts c.args.body.now 16 (16 + c.iv_len-front.result) (length c.args.body.now - c.tag_len-2.result) (omega arith) (omega arith)
