use Rattle.repo_shared.proofs.Meetings.{fronts_of, all_apart}
use Rattle.repo_shared.proofs.closing.close.Goals as goal

pub returns-in-Some-clause-fronts : goal.returns-in-Some-clause-fronts
returns-in-Some-clause-fronts g c = fronts_of c.gather.new.seat c.try_lock.new.seat c.in-Some.field-0 c.args.links.items c.in-Some.ensures c.gather.ensures.links

pub returns-in-Some-clause-apart : goal.returns-in-Some-clause-apart
returns-in-Some-clause-apart g c = all_apart c.gather.new.seat.me.0.list c.args.links.items c.gather.ensures.links c.requires.numbers
