-- two rounds a turn are done, but for the last AddRoundKey
use Rattle.std.proofs.Common.{◌≡◌, ◌*◌}
use Rattle.aes_block.specs.Cipher.{add_round_key, rounds}
use Rattle.aes_block.specs.Columns.{state_bytes}
use Rattle.aes_block.proofs.rounds.cipher.Given as goal

abbrev pub invariant-loop-turn : goal.invariant-loop-turn
invariant-loop-turn l = add_round_key (state_bytes l.state) l.words (2 * l.turn) ≡ rounds l.fn.block l.words (2 * l.turn)
