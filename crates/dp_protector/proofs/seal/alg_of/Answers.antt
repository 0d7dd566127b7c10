use Rattle.dp_protector.proofs.Codes.{alg_of-is}
use Rattle.dp_protector.proofs.seal.alg_of.Goals as goal

pub returns : goal.returns
returns c = alg_of-is c.alg_of.result c.args.key.now.alg c.alg_of.ensures.none c.alg_of.ensures.value
