use Rattle.key_elements.proofs.Elements.{same_records}
use Rattle.key_elements.proofs.reading.no_record_begins_another.Goals as goal

pub returns : goal.returns
returns c = same_records
