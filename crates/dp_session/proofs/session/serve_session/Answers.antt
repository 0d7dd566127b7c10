use Rattle.std.proofs.Common.{◌∙◌, length, None, refl, ap, arith, rules}
use Rattle.dp_base.specs.Counts.{one_more}
use Rattle.dp_session.proofs.Freshness.{chain_fresh, chain_counts}
use Rattle.dp_session.proofs.Shut.{are_shut}
use Rattle.dp_session.proofs.Whole.{whole_input, spent_bad}
use Rattle.dp_session.proofs.Sessions.{so_far-none, so_far-more, session_ends, session_spent, frame-bound, entries-more, ends-few, ends-same, ends-spent, ends-bad}
use Rattle.dp_session.proofs.Loans.{free_back, so_far_back, session_back}
use Rattle.dp_session.proofs.Passing.{passed-none, passed-more, passed-ends}
use Rattle.dp_session.proofs.session.serve_session.Goals as goal

pub requests-init : goal.requests-init
requests-init g c = record {
  so_far = rw (c.new-log.ensures.entries, c.new-log.ensures.list) (so_far-none _ _ _ _);
  free = c.requires.free;
  count = ap length c.new-log.ensures.entries;
  room = omega arith;
  passed = passed-none _;
  no_read_fault = refl;
  no_write_fault = refl;
}

pub requests-preserved : goal.requests-preserved
requests-preserved g c = record {
  so_far = so_far_back _ _ _ _ _ _ _ (g.H.HostView.state c.serve_one.new.self.host.now) (g.R.Repo.store c.serve_one.new.self.repo.now) (g.D.Draw.draws c.serve_one.new.self.draw.now) (g.C.Clock.moments c.serve_one.new.self.clock.now) (search rules) (search rules) (search rules) (search rules) (so_far-more _ _ _ _ c.requests.place c.in-Ok.len c.requests.invariant.so_far c.in-Ok.ensures.ok);
  free = free_back g.H.HostView.state c.serve_one.new.self.host.now (search rules) c.in-Ok.ensures.free;
  count = omega (arith, entries-more _ _ _ c.in-Ok.len c.in-Ok.ensures.ok, c.requests.invariant.count);
  room = omega (arith, frame-bound _ _ _ c.in-Ok.len c.in-Ok.ensures.ok, c.requests.invariant.room);
  passed = passed-more _ _ c.requests.invariant.passed c.in-Ok.ensures.passed;
  no_read_fault = c.in-Ok.ensures.no_read_fault ∙ c.requests.invariant.no_read_fault;
  no_write_fault = c.in-Ok.ensures.no_write_fault ∙ c.requests.invariant.no_write_fault;
}

pub overflow_add-place : goal.overflow_add-place
overflow_add-place g c = omega (arith, c.requests.invariant.room, frame-bound _ _ _ c.in-Ok.len c.in-Ok.ensures.ok, c.requests.auto.call-end)

pub returns-in-Err-clause-session : goal.returns-in-Err-clause-session
returns-in-Err-clause-session g c =
    rw (c.into_trace.ensures.entries, c.into_trace.ensures.list, c.bad_place.ensures) (session_back _ _ _ _ _ _ _ _ (g.H.HostView.state c.serve_one.new.self.host.now) (g.R.Repo.store c.serve_one.new.self.repo.now) (g.D.Draw.draws c.serve_one.new.self.draw.now) (g.C.Clock.moments c.serve_one.new.self.clock.now) (search rules) (search rules) (search rules) (search rules)
    (session_ends _ c.in-Err.halt.status c.in-Err.halt.bad _ _ _ c.requests.place c.requests.invariant.so_far c.in-Err.ensures.err))

pub returns-in-Err-clause-few : goal.returns-in-Err-clause-few
returns-in-Err-clause-few g c =
    omega (arith, ap length c.into_trace.ensures.entries, ends-few _ c.in-Err.halt.status c.in-Err.halt.bad _ _ c.in-Err.ensures.err, c.requests.invariant.count, c.requests-test.true)

pub returns-in-Err-clause-bad : goal.returns-in-Err-clause-bad
returns-in-Err-clause-bad g c = rw c.bad_place.ensures (ends-bad _ c.in-Err.halt.status c.in-Err.halt.bad c.requests.place _ _ c.in-Err.ensures.err)

pub returns-in-Err-clause-read_fault : goal.returns-in-Err-clause-read_fault
returns-in-Err-clause-read_fault g c = λ e. c.in-Err.ensures.read_fault e ∙ ap one_more c.requests.invariant.no_read_fault

pub returns-in-Err-clause-no_read_fault : goal.returns-in-Err-clause-no_read_fault
returns-in-Err-clause-no_read_fault g c = λ e. c.in-Err.ensures.no_read_fault e ∙ c.requests.invariant.no_read_fault

pub returns-in-Err-clause-write_fault : goal.returns-in-Err-clause-write_fault
returns-in-Err-clause-write_fault g c = λ e. c.in-Err.ensures.write_fault e ∙ ap one_more c.requests.invariant.no_write_fault

pub returns-in-Err-clause-no_write_fault : goal.returns-in-Err-clause-no_write_fault
returns-in-Err-clause-no_write_fault g c = λ e. c.in-Err.ensures.no_write_fault e ∙ c.requests.invariant.no_write_fault

pub returns-in-Err-clause-passed : goal.returns-in-Err-clause-passed
returns-in-Err-clause-passed g c =
    rw c.into_trace.ensures.entries (passed-ends _ c.in-Err.halt.status c.in-Err.halt.bad _ _ (g.G.Gate.passed c.args.gate.now c.args.worker) _ c.in-Err.ensures.err c.requests.invariant.count c.requests.invariant.passed c.in-Err.ensures.passed)

pub returns-clause-passed : goal.returns-clause-passed
returns-clause-passed g c =
    rw (c.into_trace-2.ensures.entries, c.requests.invariant.count) c.requests.invariant.passed

pub returns-clause-session : goal.returns-clause-session
returns-clause-session g c =
    rw (c.into_trace-2.ensures.entries, c.into_trace-2.ensures.list) (session_spent _ c.end_of_spent.result _ _ _ c.requests.place c.requests.invariant.so_far c.end_of_spent.ensures.status c.end_of_spent.ensures.ends)

pub returns-clause-few : goal.returns-clause-few
returns-clause-few g c = omega (arith, ap length c.into_trace-2.ensures.entries, c.requests.invariant.count, c.requests.auto.call-end)

pub returns-clause-spent : goal.returns-clause-spent
returns-clause-spent g c = λ e. omega (arith, ap length c.into_trace-2.ensures.entries, c.requests.invariant.count, c.requests.auto.call-end, c.requests-test.false)

pub returns-in-Err-clause-spent_end : goal.returns-in-Err-clause-spent_end
returns-in-Err-clause-spent_end g c = λ most other.
    absurd (omega (arith, most, ap length c.into_trace.ensures.entries, ends-same _ c.in-Err.halt.status c.in-Err.halt.bad _ _ c.in-Err.ensures.err other, c.requests.invariant.count, c.requests-test.true))

pub returns-clause-spent_end : goal.returns-clause-spent_end
returns-clause-spent_end g c = λ most other. c.end_of_spent.ensures.status

pub returns-in-Err-clause-free : goal.returns-in-Err-clause-free
returns-in-Err-clause-free g c = free_back g.H.HostView.state c.serve_one.new.self.host.now (search rules) c.in-Err.ensures.free

pub returns-clause-free : goal.returns-clause-free
returns-clause-free g c = c.requests.invariant.free

pub returns-clause-read_fault : goal.returns-clause-read_fault
returns-clause-read_fault g c = λ e. c.end_of_spent.ensures.read_fault e ∙ ap one_more c.requests.invariant.no_read_fault

pub returns-clause-no_read_fault : goal.returns-clause-no_read_fault
returns-clause-no_read_fault g c = λ e. c.end_of_spent.ensures.no_read_fault e ∙ c.requests.invariant.no_read_fault

pub returns-clause-no_write_fault : goal.returns-clause-no_write_fault
returns-clause-no_write_fault g c = λ e. c.requests.invariant.no_write_fault

pub returns-in-Err-clause-fresh : goal.returns-in-Err-clause-fresh
returns-in-Err-clause-fresh g c =
    let s = returns-in-Err-clause-session g c in chain_fresh _ s.bodies _ _ _ (omega arith) s.chain

pub returns-in-Err-clause-counted : goal.returns-in-Err-clause-counted
returns-in-Err-clause-counted g c =
    let s = returns-in-Err-clause-session g c in chain_counts s.bodies _ _ _ s.chain

pub returns-clause-fresh : goal.returns-clause-fresh
returns-clause-fresh g c =
    let s = returns-clause-session g c in chain_fresh _ s.bodies _ _ _ (omega arith) s.chain

pub returns-clause-counted : goal.returns-clause-counted
returns-clause-counted g c =
    let s = returns-clause-session g c in chain_counts s.bodies _ _ _ s.chain

pub returns-in-Err-clause-whole : goal.returns-in-Err-clause-whole
returns-in-Err-clause-whole g c =
    whole_input _ c.in-Err.halt.status c.bad_place.result _ _ (returns-in-Err-clause-session g c) (returns-in-Err-clause-bad g c).1 (λ e. absurd (ends-spent _ c.in-Err.halt.status c.in-Err.halt.bad _ _ c.in-Err.ensures.err e))

pub returns-clause-whole : goal.returns-clause-whole
returns-clause-whole g c =
    whole_input _ c.end_of_spent.result None _ _ (returns-clause-session g c) (λ e. absurd (spent_bad c.end_of_spent.result c.end_of_spent.ensures.status e)) (returns-clause-spent g c)

pub returns-in-Err-clause-shut : goal.returns-in-Err-clause-shut
returns-in-Err-clause-shut g c = λ bodies. are_shut _ bodies _ _ _ (returns-in-Err-clause-fresh g c)

pub returns-clause-shut : goal.returns-clause-shut
returns-clause-shut g c = λ bodies. are_shut _ bodies _ _ _ (returns-clause-fresh g c)
