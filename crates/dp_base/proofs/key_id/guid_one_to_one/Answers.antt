use Rattle.dp_base.proofs.Guid.{guid-injective}
use Rattle.dp_base.proofs.key_id.guid_one_to_one.Goals as goal

pub returns : goal.returns
returns c = guid-injective
