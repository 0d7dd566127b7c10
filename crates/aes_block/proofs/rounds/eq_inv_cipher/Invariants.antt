-- the rounds that are left, after the next AddRoundKey
use Rattle.std.proofs.Common.{◌≡◌, ◌-◌, ◌*◌}
use Rattle.aes_block.specs.Cipher.{add_round_key}
use Rattle.aes_block.specs.Columns.{state_bytes}
use Rattle.aes_block.specs.Equivalent.{eq_inv_rounds}
use Rattle.aes_block.proofs.rounds.eq_inv_cipher.Given as goal

abbrev pub invariant-loop-turn : goal.invariant-loop-turn
invariant-loop-turn l =
    eq_inv_rounds (add_round_key (state_bytes l.state) l.inverse (l.rounds - 2 * l.turn)) l.inverse (l.rounds - 2 * l.turn - 1)
    ≡ eq_inv_rounds (add_round_key l.fn.block l.inverse l.rounds) l.inverse (l.rounds - 1)
