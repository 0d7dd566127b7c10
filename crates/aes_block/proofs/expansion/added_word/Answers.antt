use Rattle.std.proofs.Common.{arith}
use Rattle.std.proofs.lemmas.Bool.Decides.{nat_tests}
use Rattle.aes_block.specs.KeyExpansion.{added_word, rot_word}
use Rattle.aes_block.proofs.expansion.added_word.Goals as goal

pub returns-then-i-key_words-eq0 : goal.returns-then-i-key_words-eq0
unfolding added_word rot_word
returns-then-i-key_words-eq0 c = grind (arith, nat_tests)

pub returns-then-i-key_words-eq4 : goal.returns-then-i-key_words-eq4
unfolding added_word
returns-then-i-key_words-eq4 c = grind (arith, nat_tests)

pub returns-else-key_words-gt6 : goal.returns-else-key_words-gt6
unfolding added_word
returns-else-key_words-gt6 c = grind (arith, nat_tests)
