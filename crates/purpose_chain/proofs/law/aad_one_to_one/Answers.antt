use Rattle.purpose_chain.proofs.OneToOne.{one_to_one}
use Rattle.purpose_chain.proofs.law.aad_one_to_one.Goals as goal

pub returns : goal.returns
returns c = one_to_one
