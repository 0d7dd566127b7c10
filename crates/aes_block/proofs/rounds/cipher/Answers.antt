use Rattle.std.proofs.Common.{◌≡◌, ℕ, List, ◌+◌, ◌-◌, ◌*◌, ap, arith}
use Rattle.aes_block.specs.Cipher.{add_round_key, cipher, rounds}
use Rattle.aes_block.proofs.RoundLemmas.{rounds_step}
use Rattle.aes_block.proofs.rounds.cipher.Goals as goal

pub loop-turn-init : goal.loop-turn-init
unfolding rounds
loop-turn-init c = ap (λ (b : List ℕ). add_round_key b c.args.words.now 0) c.columns-state.ensures

pub loop-turn-preserved : goal.loop-turn-preserved
loop-turn-preserved c =
    let t = c.loop-turn.turn in
    let one = rounds_step c.args.block.now c.args.words.now (2 * t) (2 * t + 1) (omega arith) in
    let two = rounds_step c.args.block.now c.args.words.now (2 * t + 1) (2 * t + 2) (omega arith) in
    let at : 2 * t + 2 ≡ 2 * (t + 1) = omega arith in
    cc

pub returns : goal.returns
unfolding cipher
returns c =
    let nr = c.args.rounds in
    let at : 2 * c.loop-turn.turn ≡ nr - 2 = omega arith in
    let step = rounds_step c.args.block.now c.args.words.now (nr - 2) (nr - 1) (omega arith) in
    cc
