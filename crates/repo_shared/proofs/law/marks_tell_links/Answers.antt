use Rattle.repo_shared.proofs.Marks.{same_link}
use Rattle.repo_shared.proofs.law.marks_tell_links.Goals as goal

pub returns : goal.returns
returns g c = same_link
