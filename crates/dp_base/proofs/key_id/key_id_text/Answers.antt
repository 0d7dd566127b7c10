use Rattle.std.proofs.Common.{◌∙◌, ap}
use Rattle.uuid.specs.Text.{hyphenated_text, lower}
use Rattle.dp_base.specs.Guid.{key_text}
use Rattle.dp_base.proofs.key_id.key_id_text.Goals as goal

pub returns : goal.returns
unfolding key_text
returns c =
    c.in_ok-from_str.ensures.ok ∙ c.encode_lower-text.ensures.text
    ∙ ap (hyphenated_text lower) (c.hyphenated.ensures ∙ c.from_u128.ensures)
