use Rattle.std.proofs.Common.{◌≡◌, ◌+◌, ◌-◌, ◌*◌, arith}
use Rattle.aes_block.specs.Cipher.{add_round_key}
use Rattle.aes_block.specs.Columns.{state_bytes}
use Rattle.aes_block.specs.Equivalent.{eq_inv_cipher, eq_inv_rounds}
use Rattle.aes_block.proofs.RoundLemmas.{eq_inv_rounds_none, eq_inv_rounds_step}
use Rattle.aes_block.proofs.rounds.eq_inv_cipher.Goals as goal

pub loop-turn-init : goal.loop-turn-init
loop-turn-init c =
    let dw = c.args.inverse.now in
    let nr = c.args.rounds in
    let at : nr - 0 ≡ nr = omega arith in
    let next : nr - 0 - 1 ≡ nr - 1 = omega arith in
    λ i. eq_inv_rounds (add_round_key (c.columns-state.ensures i) dw (at i)) dw (next i)

pub loop-turn-preserved : goal.loop-turn-preserved
loop-turn-preserved c =
    let dw = c.args.inverse.now in
    let above = c.args.rounds - 2 * c.loop-turn.turn in
    let one = eq_inv_rounds_step (add_round_key (state_bytes c.loop-turn.state) dw above) dw (above - 2) (above - 1) (omega arith) in
    let two = eq_inv_rounds_step (add_round_key (state_bytes c.inv_round.result) dw (above - 1)) dw (above - 3) (above - 2) (omega arith) in
    let at : c.args.rounds - 2 * (c.loop-turn.turn + 1) ≡ above - 2 = omega arith in
    let next : c.args.rounds - 2 * (c.loop-turn.turn + 1) - 1 ≡ above - 3 = omega arith in
    cc

pub returns : goal.returns
unfolding eq_inv_cipher
returns c =
    let dw = c.args.inverse.now in
    let at : c.args.rounds - 2 * c.loop-turn.turn ≡ 2 = omega arith in
    let next : c.args.rounds - 2 * c.loop-turn.turn - 1 ≡ 1 = omega arith in
    let step = eq_inv_rounds_step (add_round_key (state_bytes c.loop-turn.state) dw 2) dw 0 1 (omega arith) in
    let done = eq_inv_rounds_none (add_round_key (state_bytes c.inv_round-mixed.result) dw 1) dw 0 (omega arith) in
    cc
