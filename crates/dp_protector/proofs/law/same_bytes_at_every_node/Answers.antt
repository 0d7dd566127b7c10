use Rattle.dp_protector.proofs.Everywhere.{everywhere, one_chain}
use Rattle.dp_protector.proofs.law.same_bytes_at_every_node.Goals as goal

pub returns-clause-opens : goal.returns-clause-opens
returns-clause-opens c = everywhere

pub returns-clause-one_chain : goal.returns-clause-one_chain
returns-clause-one_chain c = one_chain
