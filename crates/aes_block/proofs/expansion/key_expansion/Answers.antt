use Rattle.std.proofs.Common.{◌≡◌, ℕ, ◌+◌, ◌*◌, ◌∙◌, ap, arith, refl}
use Rattle.std.proofs.lemmas.List.{length-set}
use Rattle.aes_block.specs.KeyExpansion.{first_words, key_expansion}
use Rattle.aes_block.proofs.Schedule.{first_words_more, key_words-few, key_words-some}
use Rattle.aes_block.proofs.expansion.key_expansion.Goals as goal

pub loop-i-init : goal.loop-i-init
unfolding first_words
loop-i-init c = (refl, refl)

pub loop-i-preserved : goal.loop-i-preserved
loop-i-preserved c =
    let key = c.args.key.now in
    let long = c.loop-i.invariant.0 in
    let few = key_words-few key c.requires.sized in (
      length-set c.loop-i.words c.loop-i.i c.next_word.result ∙ long,
      rw c.next_word.ensures
          (first_words_more key c.loop-i.words c.loop-i.i (omega (arith, key_words-some key c.requires.sized)) (omega arith) c.loop-i.invariant.1),
    )

pub returns : goal.returns
unfolding key_expansion
returns c =
    let all : c.loop-i.i ≡ 4 * (c.args.rounds + 1) = omega arith in
    let held = rw all at c.loop-i.invariant.1 in
    held ∙ ap (λ (n : ℕ). first_words c.args.key.now (4 * (n + 1))) c.requires.counted
