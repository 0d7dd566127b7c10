use Rattle.std.proofs.Common.{ap, ◌∙◌}
use Rattle.repo_shared.proofs.Calls.{starts_is, had_is, called_grown, seen_is, read_told}
use Rattle.repo_shared.proofs.calling.read_locked.Goals as goal

pub put_grown-have-requires : goal.put_grown-have-requires
put_grown-have-requires g c = let l = c.lock-shelf.ensures in let t = c.requires.table in record {
  table = (l.table ∙ t.0, ap (λ z. z.words) l.table ∙ t.1, ap (λ z. z.slots) l.table ∙ t.2);
  lock = (ap (λ m. m.0.locks) l.me, ap (λ m. m.1) l.me);
  grown = starts_is c.args.seat.now c.lock-shelf.new.seat c.lock-shelf.result c.read_into-answer.new.self l c.read_into-answer.ensures.grows;
  had = c.len-had.ensures.value ∙ had_is c.args.seat.now c.lock-shelf.new.seat c.lock-shelf.result l;
}

pub returns-clause-called : goal.returns-clause-called
returns-clause-called g c = let x = c.read_into-answer in let s = x.ensures.seen in
    (called_grown c.args.seat.now c.lock-shelf.new.seat c.put_grown-have.new.seat c.lock-shelf.result x.new.self c.args.seen.now x.new.seen c.put_grown-have.result
    c.lock-shelf.ensures c.requires.held x.ensures.grows x.result c.put_grown-have.ensures (seen_is x.result _ _ _ s)
    (read_told x.result c.args.known c.put_grown-have.result _ _ _ s x.ensures.cause)).0

pub returns-clause-mine : goal.returns-clause-mine
returns-clause-mine g c = let x = c.read_into-answer in let s = x.ensures.seen in
    (called_grown c.args.seat.now c.lock-shelf.new.seat c.put_grown-have.new.seat c.lock-shelf.result x.new.self c.args.seen.now x.new.seen c.put_grown-have.result
    c.lock-shelf.ensures c.requires.held x.ensures.grows x.result c.put_grown-have.ensures (seen_is x.result _ _ _ s)
    (read_told x.result c.args.known c.put_grown-have.result _ _ _ s x.ensures.cause)).1
