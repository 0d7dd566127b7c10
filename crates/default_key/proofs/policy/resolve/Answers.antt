use Rattle.default_key.proofs.Clauses.{fallback_of-tells, fallback_of-within, preferred_of-tells, preferred_of-within, renew_of-tells}
use Rattle.default_key.proofs.policy.resolve.Goals as goal

pub returns-clause-preferred : goal.returns-clause-preferred
returns-clause-preferred c = rw c.preferred_place-preferred.ensures (preferred_of-tells c.args.keys.now c.args.now c.requires.ids)

pub returns-clause-renew : goal.returns-clause-renew
returns-clause-renew c = rw c.is_due.ensures (renew_of-tells c.args.keys.now c.args.now)

pub returns-clause-fallback : goal.returns-clause-fallback
returns-clause-fallback c = rw c.fallback_place.ensures (fallback_of-tells c.args.keys.now c.args.now)

pub returns-clause-preferred_within : goal.returns-clause-preferred_within
returns-clause-preferred_within c = rw c.preferred_place-preferred.ensures (preferred_of-within c.args.keys.now c.args.now)

pub returns-clause-fallback_within : goal.returns-clause-fallback_within
returns-clause-fallback_within c = rw c.fallback_place.ensures (fallback_of-within c.args.keys.now c.args.now)
