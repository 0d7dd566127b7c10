use Rattle.key_ring.proofs.Lookup.{found-is, missed-is}
use Rattle.key_ring.proofs.ring.Ring.lookup.Goals as goal

pub returns-in_err-found : goal.returns-in_err-found
returns-in_err-found c =
    rw c.from_residual.ensures (missed-is c.args.self.now.list c.args.self.now.made_at c.args.id.now.0 c.keys.result.now c.keys.ensures c.in_err-found.ensures)

pub returns : goal.returns
returns c =
    found-is c.args.self.now.list c.args.self.now.made_at c.args.id.now.0 c.keys.result.now c.in_ok-found.found.now c.is_usable.result c.is_of.result _
    c.keys.ensures c.in_ok-found.ensures c.is_usable.ensures c.default_key.ensures c.is_of.ensures
