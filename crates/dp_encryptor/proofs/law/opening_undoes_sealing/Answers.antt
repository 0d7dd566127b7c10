use Rattle.dp_encryptor.proofs.Undoing.{Opens-sealed, Opens-one}
use Rattle.dp_encryptor.proofs.law.opening_undoes_sealing.Goals as goal

pub returns-clause-opens : goal.returns-clause-opens
returns-clause-opens c = Opens-sealed

pub returns-clause-one : goal.returns-clause-one
returns-clause-one c = Opens-one
