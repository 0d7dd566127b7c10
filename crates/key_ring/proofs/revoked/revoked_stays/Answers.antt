use Rattle.key_ring.proofs.Stays.{stays, stays-id}
use Rattle.key_ring.proofs.revoked.revoked_stays.Goals as goal

pub returns-clause-record : goal.returns-clause-record
returns-clause-record c = stays

pub returns-clause-id : goal.returns-clause-id
returns-clause-id c = stays-id
