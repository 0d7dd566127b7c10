use Rattle.dp_wire.proofs.Frames.{frames}
use Rattle.dp_wire.proofs.frame.no_frame_begins_another.Goals as goal

pub returns : goal.returns
returns c = frames
