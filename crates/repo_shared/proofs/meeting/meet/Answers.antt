use Rattle.std.proofs.Common.{◌≡◌, ◌∙◌, sym, subst}
use Rattle.repo_shared.specs.Seats.{IsHeld}
use Rattle.repo_shared.proofs.Meetings.{met}
use Rattle.repo_shared.proofs.meeting.meet.Goals as goal

pub invariant_of-a-2 : goal.invariant_of-a-2
invariant_of-a-2 g c = let x = c.args.a.now in let y = c.args.b.now in let m = c.learn_each.ensures in
    let r = met x.seat y.seat c.learn_each.new.a c.learn_each.new.b x.seen y.seen c.in_ok-first.first (x.free.0, x.free.1, x.front, x.mine) (y.free.0, y.free.1, y.front, y.mine) m c.in_ok-first.ensures in
    let h = r.first in let t = m.first.table in
    record { seated = t ∙ x.seated; sized = subst (λ z. (z.words ≡ 2) × (z.slots ≡ 1)) (sym t) x.sized; free = (h.0, h.1); front = h.2; mine = h.3 }

pub invariant_of-b : goal.invariant_of-b
invariant_of-b g c = let x = c.args.a.now in let y = c.args.b.now in let m = c.learn_each.ensures in
    let r = met x.seat y.seat c.learn_each.new.a c.learn_each.new.b x.seen y.seen c.in_ok-first.first (x.free.0, x.free.1, x.front, x.mine) (y.free.0, y.free.1, y.front, y.mine) m c.in_ok-first.ensures in
    let h = subst (IsHeld c.learn_each.new.b.me) (sym c.in_ok-second.ensures) r.second in let t = m.second.table in
    record { seated = t ∙ y.seated; sized = subst (λ z. (z.words ≡ 2) × (z.slots ≡ 1)) (sym t) y.sized; free = (h.0, h.1); front = h.2; mine = h.3 }

pub returns-clause-longer : goal.returns-clause-longer
returns-clause-longer g c = let x = c.args.a.now in let y = c.args.b.now in let m = c.learn_each.ensures in
    (met x.seat y.seat c.learn_each.new.a c.learn_each.new.b x.seen y.seen c.in_ok-first.first (x.free.0, x.free.1, x.front, x.mine) (y.free.0, y.free.1, y.front, y.mine) m c.in_ok-first.ensures).lists

pub returns-clause-apart : goal.returns-clause-apart
returns-clause-apart g c = let x = c.args.a.now in let y = c.args.b.now in let m = c.learn_each.ensures in
    (met x.seat y.seat c.learn_each.new.a c.learn_each.new.b x.seen y.seen c.in_ok-first.first (x.free.0, x.free.1, x.front, x.mine) (y.free.0, y.free.1, y.front, y.mine) m c.in_ok-first.ensures).apart c.requires.numbers
