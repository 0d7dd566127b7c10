use Rattle.std.proofs.Common.{◌∙◌, sym}
use Rattle.aes_block.proofs.Schedule.{next_word-first, next_word-later}
use Rattle.aes_block.proofs.expansion.next_word.Goals as goal

pub returns-then-i-key_words : goal.returns-then-i-key_words
returns-then-i-key_words c =
    c.from_be_bytes.ensures ∙ sym (next_word-first c.args.key.now c.args.words.now c.args.i c.if-i-key_words.true)

pub returns-else-i-key_words : goal.returns-else-i-key_words
returns-else-i-key_words c =
    rw c.added_word.ensures (sym (next_word-later c.args.key.now c.args.words.now c.args.i c.if-i-key_words.false))
