use Rattle.std.proofs.Common.{◌∙◌, ap}
use Rattle.uuid.specs.Parts.{swap_fields}
use Rattle.dp_base.specs.Guid.{guid}
use Rattle.dp_base.proofs.key_id.guid_bytes.Goals as goal

pub returns : goal.returns
unfolding guid
returns c = c.to_bytes_le.ensures ∙ ap swap_fields c.from_u128.ensures
