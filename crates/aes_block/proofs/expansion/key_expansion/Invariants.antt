-- the words before this one are the schedule's
use Rattle.std.proofs.Common.{◌≡◌, length, take}
use Rattle.aes_block.specs.KeyExpansion.{first_words}
use Rattle.aes_block.proofs.expansion.key_expansion.Given as goal

abbrev pub invariant-loop-i : goal.invariant-loop-i
invariant-loop-i l = (length l.words ≡ 60) × (take l.i l.words ≡ first_words l.key l.i)
