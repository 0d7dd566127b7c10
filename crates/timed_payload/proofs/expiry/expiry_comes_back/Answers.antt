use Rattle.timed_payload.proofs.Splits.{comes_back}
use Rattle.timed_payload.proofs.expiry.expiry_comes_back.Goals as goal

pub returns : goal.returns
returns c = comes_back
