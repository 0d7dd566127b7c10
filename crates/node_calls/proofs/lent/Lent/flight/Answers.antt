use Rattle.std.proofs.Common.{◌≡◌, false, length, sym, ap, ◌∙◌, Ok, Err}
use Rattle.std.proofs.lemmas.Result.{err_from_is_err_and}
use Rattle.node_calls.proofs.Books.{IsFrontOf}
use Rattle.key_ring.specs.Ring.{RingOf, extended}
use Rattle.ring_world.specs.Lists.{longer}
use Rattle.ring_world.specs.Flight.{publish_step, extend_step}
use Rattle.node_calls.specs.Sight.{sight_of}
use Rattle.node_calls.specs.Gather.{refusal}
use Rattle.node_calls.specs.Calls.{terms}
use Rattle.node_calls.proofs.Books.{as_kind, IsFrontOf-trans, IsFrontOf-refl}
use Rattle.node_calls.proofs.Flights.{flight_cut, flight_whole}
use Rattle.node_calls.proofs.Courses.{longer_extends_list, longer_extends_own}
use Rattle.node_calls.proofs.HostSteps.{did_publish, did_extend, before_last}
use Rattle.node_calls.proofs.Refused.{not_memory, is_memory-true, ring_no_memory}
use Rattle.node_calls.proofs.lent.Lent.flight.Goals as goal

pub returns-in_err-share-in-Ok-clause-did : goal.returns-in_err-share-in-Ok-clause-did
returns-in_err-share-in-Ok-clause-did g c = λ before since.
    let h = g.H.HostView.state c.args.self.now.host.now in
    let t = terms c.args.at.now h.facts.options false before (g.R.Repo.store c.gather.new.self.repo.now).list in
    let s = sight_of c.args.sight.now in
    let p = err_from_is_err_and c.from_residual.result c.from_residual.ensures.1 in
    let d = rw (c.longer-base.ensures, c.own.ensures, c.list.ensures, c.facts.ensures) at (c.in-Ok.ensures.did h before since) in
    rw (p.1, p.2) (as_kind d (flight_cut t (longer h.own s.ring.list) s (Ok c.in-Ok.ring)))

pub publish-requires-clause-extends : goal.publish-requires-clause-extends
publish-requires-clause-extends g c =
    let h = g.H.HostView.state c.args.self.now.host.now in
    let e = rw (c.longer-base.ensures, c.own.ensures, c.list.ensures) at c.in-Ok.ensures.extends in
    rw (c.in_ok-share-in-Ok.ensures, c.requires.floor) (IsFrontOf-trans c.args.sight.now.ring.list _ c.in-Ok.ring.list (longer_extends_list h.own c.args.sight.now.ring.list c.requires.in_line) e)

pub returns-in_err-publish-in-Ok-clause-did : goal.returns-in_err-publish-in-Ok-clause-did
returns-in_err-publish-in-Ok-clause-did g c = λ before since.
    let h = g.H.HostView.state c.args.self.now.host.now in
    let t = terms c.args.at.now h.facts.options false before (g.R.Repo.store c.gather.new.self.repo.now).list in
    let s = sight_of c.args.sight.now in
    let p = err_from_is_err_and c.from_residual-in_err-publish-in-Ok.result c.from_residual-in_err-publish-in-Ok.ensures.1 in
    let d = rw (c.longer-base.ensures, c.own.ensures, c.list.ensures, c.facts.ensures) at (c.in-Ok.ensures.did h before since) in
    rw (p.1, p.2, c.in_err-publish-in-Ok.ensures.err) (as_kind d (flight_cut t (longer h.own s.ring.list) s (Ok c.in-Ok.ring)))

pub returns-then-is_memory-clause-did : goal.returns-then-is_memory-clause-did
returns-then-is_memory-clause-did g c = λ before since.
    let h = g.H.HostView.state c.args.self.now.host.now in
    let t = terms c.args.at.now h.facts.options false before (g.R.Repo.store c.gather.new.self.repo.now).list in
    let s = sight_of c.args.sight.now in
    let d = rw (c.longer-base.ensures, c.own.ensures, c.list.ensures, c.facts.ensures) at (c.in-Err.ensures.did h before since) in
    rw (is_memory-true (refusal c.in-Err.why) (sym c.is_memory.ensures ∙ c.if-is_memory.true)) (as_kind d (flight_cut t (longer h.own s.ring.list) s (Err (refusal c.in-Err.why))))

pub returns-in_err-ring-in-Err-clause-did : goal.returns-in_err-ring-in-Err-clause-did
returns-in_err-ring-in-Err-clause-did g c = λ before since.
    let h = g.H.HostView.state c.args.self.now.host.now in
    let t = terms c.args.at.now h.facts.options false before (g.R.Repo.store c.gather.new.self.repo.now).list in
    let s = sight_of c.args.sight.now in
    let p = err_from_is_err_and c.from_residual-in_err-ring-in-Err.result c.from_residual-in_err-ring-in-Err.ensures.1 in
    let d = rw (c.longer-base.ensures, c.own.ensures, c.list.ensures, c.facts.ensures) at (c.in-Err.ensures.did h before since) in
    rw (p.1, p.2) (as_kind d (flight_cut t (longer h.own s.ring.list) s (Err (refusal c.in-Err.why))))

pub returns-in_err-publish-in-Err-clause-did : goal.returns-in_err-publish-in-Err-clause-did
returns-in_err-publish-in-Err-clause-did g c = λ before since.
    let h = g.H.HostView.state c.args.self.now.host.now in
    let t = terms c.args.at.now h.facts.options false before (g.R.Repo.store c.gather.new.self.repo.now).list in
    let s = sight_of c.args.sight.now in
    let p = err_from_is_err_and c.from_residual-in_err-publish-in-Err.result c.from_residual-in_err-publish-in-Err.ensures.1 in
    let d = rw (c.longer-base.ensures, c.own.ensures, c.list.ensures, c.facts.ensures) at (c.in-Err.ensures.did h before since) in
    rw (p.1, p.2, c.in_err-publish-in-Err.ensures.err) (as_kind d (flight_cut t (longer h.own s.ring.list) s (Err (refusal c.in-Err.why))))

pub returns-in_ok-publish-in-Ok-clause-did : goal.returns-in_ok-publish-in-Ok-clause-did
returns-in_ok-publish-in-Ok-clause-did g c = λ before since.
    let h = g.H.HostView.state c.args.self.now.host.now in
    let t = terms c.args.at.now h.facts.options false before (g.R.Repo.store c.gather.new.self.repo.now).list in
    let s = sight_of c.args.sight.now in
    let d = rw (c.longer-base.ensures, c.own.ensures, c.list.ensures, c.facts.ensures) at (c.in-Ok.ensures.did h before since) in
    let r = c.in-Ok.ring in
    let front : c.len.result ≡ length r.list = c.len.ensures.value ∙ ap length c.list-in-Ok.ensures in
    let e = rw (c.longer-base.ensures, c.own.ensures, c.list.ensures) at c.in-Ok.ensures.extends in
    let floor : IsFrontOf h.floor r.list = rw c.requires.floor (IsFrontOf-trans c.args.sight.now.ring.list _ r.list (longer_extends_list h.own c.args.sight.now.ring.list c.requires.in_line) e) in
    let line : IsFrontOf h.looked.list r.list = rw c.requires.looked (IsFrontOf-trans c.args.sight.now.ring.list _ r.list (longer_extends_list h.own c.args.sight.now.ring.list c.requires.in_line) e) in
    before_last (publish_step r) r d (did_publish _ _ h _ _ _ r (rw (front, c.until.ensures) at c.push.ensures) line floor (rw c.in_ok-share-in-Ok.ensures at c.in_ok-publish-in-Ok.ensures.ok)) (flight_whole t (longer h.own s.ring.list) s (Ok r) (ring_no_memory r))

pub returns-in_ok-publish-in-Ok-clause-extends : goal.returns-in_ok-publish-in-Ok-clause-extends
returns-in_ok-publish-in-Ok-clause-extends g c =
    let h = g.H.HostView.state c.args.self.now.host.now in
    let e = rw (c.longer-base.ensures, c.own.ensures, c.list.ensures) at c.in-Ok.ensures.extends in
    IsFrontOf-trans h.own _ c.in-Ok.ring.list (longer_extends_own h.own c.args.sight.now.ring.list c.requires.in_line) e

pub returns-in_ok-publish-in-Err-clause-did : goal.returns-in_ok-publish-in-Err-clause-did
returns-in_ok-publish-in-Err-clause-did g c = λ before since.
    let h = g.H.HostView.state c.args.self.now.host.now in
    let t = terms c.args.at.now h.facts.options false before (g.R.Repo.store c.gather.new.self.repo.now).list in
    let s = sight_of c.args.sight.now in
    let d = rw (c.longer-base.ensures, c.own.ensures, c.list.ensures, c.facts.ensures) at (c.in-Err.ensures.did h before since) in
    let r = extended s.ring c.args.at.now s.want in
    let until : c.until-in-Err.result ≡ r.until = c.until-in-Err.ensures ∙ ap (λ (q : RingOf). q.until) c.in_ok-ring-in-Err.ensures in
    let excused : c.excused.result ≡ r.excused = c.excused.ensures ∙ ap (λ (q : RingOf). q.excused) c.in_ok-ring-in-Err.ensures in
    let floor : IsFrontOf h.floor r.list = rw c.requires.floor (IsFrontOf-refl s.ring.list) in
    let line : IsFrontOf h.looked.list r.list = rw c.requires.looked (IsFrontOf-refl s.ring.list) in
    let looked : length h.looked.list ≡ length r.list = ap (λ (q : RingOf). length q.list) c.requires.looked in
    let never = not_memory (refusal c.in-Err.why) (sym c.is_memory.ensures ∙ c.if-is_memory.false) in
    before_last (extend_step r) r d (did_extend _ _ h _ _ _ r (rw (until, excused) at c.push-in-Err.ensures) looked line floor (rw c.in_ok-ring-in-Err.ensures at c.in_ok-publish-in-Err.ensures.ok)) (flight_whole t (longer h.own s.ring.list) s (Err (refusal c.in-Err.why)) never)
