use Rattle.dp_protector.proofs.Defaults.{default_key-none_found, default_key-some_found}
use Rattle.dp_protector.proofs.seal.default_key.Goals as goal

pub returns-in_err-state : goal.returns-in_err-state
returns-in_err-state c =
    absurd (default_key-none_found c.args.ring.now.list c.args.ring.now.made_at c.in_ok-id.id c.in_ok-id.ensures c.in_err-state.ensures)

pub returns : goal.returns
returns c =
    default_key-some_found c.args.ring.now.list c.args.ring.now.made_at c.in_ok-id.id c.in_ok-state.state c.in_ok-id.ensures c.in_ok-state.ensures
