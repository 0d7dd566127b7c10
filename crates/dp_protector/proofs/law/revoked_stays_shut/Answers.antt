use Rattle.dp_protector.proofs.Taken.{id-shut, record-shut}
use Rattle.dp_protector.proofs.law.revoked_stays_shut.Goals as goal

pub returns-clause-id : goal.returns-clause-id
returns-clause-id c = id-shut

pub returns-clause-record : goal.returns-clause-record
returns-clause-record c = record-shut
