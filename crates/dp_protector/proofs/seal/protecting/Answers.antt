use Rattle.std.proofs.Common.{sym}
use Rattle.dp_protector.proofs.Defaults.{default_key-alg}
use Rattle.dp_protector.proofs.seal.protecting.Goals as goal

pub returns-in_err-alg-clause-none : goal.returns-in_err-alg-clause-none
returns-in_err-alg-clause-none c =
    absurd (default_key-alg c.args.ring.now.list c.args.ring.now.made_at c.in_ok-key.key.now (sym c.in_ok-key.ensures) (sym c.in_err-alg.ensures))
