use Rattle.dp_base.proofs.Sevens.{same_sevens}
use Rattle.dp_base.proofs.seven_bit.no_7bit_begins_another.Goals as goal

pub returns : goal.returns
returns c = same_sevens
