-- the requests so far were served, one a turn
use Rattle.std.proofs.Common.{◌≡◌, ◌≤◌, ◌*◌, false, [], length}
use Rattle.dp_answer.specs.Serving.{state}
use Rattle.dp_session.specs.Session.{outside, HavePassed, SoFar}
use Rattle.dp_session.proofs.session.serve_session.Given as goal

abbrev pub invariant-requests : goal.invariant-requests
invariant-requests g l = record {
  so_far :
      SoFar
      l.fn.setup.app
      (outside (g.I.Source.left l.fn.input) (g.O.Sink.written l.fn.output) (state (g.H.HostView.state l.fn.host) (g.R.Repo.store l.fn.repo) (g.D.Draw.draws l.fn.draw) (g.C.Clock.moments l.fn.clock)) [] [])
      (outside (g.I.Source.left l.input) (g.O.Sink.written l.output) (state (g.H.HostView.state l.host) (g.R.Repo.store l.repo) (g.D.Draw.draws l.draw) (g.C.Clock.moments l.clock)) l.log.entries.items l.log.list)
      l.place;
  free : (g.H.HostView.state l.host).held ≡ false;
  count : length l.log.entries.items ≡ l.call;
  room : l.place ≤ 1048580 * l.call;
  passed : HavePassed (g.G.Gate.passed l.fn.gate l.fn.worker) l.call;
  no_read_fault : g.I.Source.faults l.input ≡ g.I.Source.faults l.fn.input;
  no_write_fault : g.O.Sink.faults l.output ≡ g.O.Sink.faults l.fn.output;
}
