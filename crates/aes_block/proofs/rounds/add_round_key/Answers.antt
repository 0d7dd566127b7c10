use Rattle.std.proofs.Common.{slice_index}
use Rattle.aes_block.proofs.Words.{state_bytes-xor}
use Rattle.aes_block.proofs.rounds.add_round_key.Goals as goal

pub returns : goal.returns
returns c =
    state_bytes-xor (slice_index c.args.state 0) (slice_index c.args.state 1) (slice_index c.args.state 2) (slice_index c.args.state 3) c.args.words.now c.args.r
