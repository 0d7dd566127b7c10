use Rattle.std.proofs.Common.{refl}
use Rattle.aes_block.specs.KeyExpansion.{sub_word}
use Rattle.aes_block.proofs.expansion.sub_word.Goals as goal

pub returns : goal.returns
unfolding sub_word
returns c =
    rw (c.from_be_bytes.ensures, c.sub_byte.ensures, c.sub_byte-2.ensures, c.sub_byte-3.ensures, c.sub_byte-4.ensures, c.to_be_bytes-b.ensures) refl
