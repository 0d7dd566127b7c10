use Rattle.std.proofs.Common.{◌∙◌, Ok, Err, refl, sym}
use Rattle.dp_server.specs.Pipe.{around}
use Rattle.dp_server.proofs.Openings.{opening_of, store_fault, draw_fault}
use Rattle.dp_server.proofs.Unserved.{unserved}
use Rattle.dp_server.proofs.pipe.pipe.Goals as goal

pub returns-clause-pipes : goal.returns-clause-pipes
returns-clause-pipes g c =
    let i = g.I.Source.left c.args.input.now in
    let o = g.O.Sink.written c.args.output.now in
    let e = c.serve_session-end.ensures in
    record {
      opened = Ok c.in-Ok.solo;
      mid = around i o (g.R.Repo.store c.open.new.repo) (g.D.Draw.draws c.open.new.draw) (g.C.Clock.moments c.now.new.self);
      opening = opening_of c.args.auto (Ok c.in-Ok.solo) i o _ _ _ _ _ _ c.now.result c.min-now.result c.standard-options.result c.now.ensures c.min-now.ensures c.standard-options.ensures c.in-Ok.ensures.opened;
      follows = rw (c.of_session.ensures.status, c.of_session.ensures.bad, c.of_session.ensures.entries, c.of_session.ensures.list) (record {
        host_after = c.serve_session-end.new.host;
        session = rw c.in-Ok-new.ensures.value at e.session;
        fresh = e.fresh;
        counted = e.counted;
        shut = rw c.in-Ok-new.ensures.value at e.shut;
      });
    }

pub returns-in-Err-new-clause-pipes : goal.returns-in-Err-new-clause-pipes
returns-in-Err-new-clause-pipes g c =
    let i = g.I.Source.left c.args.input.now in
    let o = g.O.Sink.written c.args.output.now in
    let mid = around i o (g.R.Repo.store c.open.new.repo) (g.D.Draw.draws c.open.new.draw) (g.C.Clock.moments c.now.new.self) in
    record {
      opened = Ok c.in-Ok.solo;
      mid = mid;
      opening = opening_of c.args.auto (Ok c.in-Ok.solo) i o _ _ _ _ _ _ c.now.result c.min-now.result c.standard-options.result c.now.ensures c.min-now.ensures c.standard-options.ensures c.in-Ok.ensures.opened;
      follows = unserved c.args.app.now c.in-Ok.solo c.of-in-Err-new.result mid c.of-in-Err-new.ensures.status c.of-in-Err-new.ensures.bad c.of-in-Err-new.ensures.entries c.of-in-Err-new.ensures.list;
    }

pub returns-in-Err-clause-pipes : goal.returns-in-Err-clause-pipes
returns-in-Err-clause-pipes g c =
    let i = g.I.Source.left c.args.input.now in
    let o = g.O.Sink.written c.args.output.now in
    record {
      opened = Err c.in-Err.why;
      mid = around i o (g.R.Repo.store c.open.new.repo) (g.D.Draw.draws c.open.new.draw) (g.C.Clock.moments c.now.new.self);
      opening = opening_of c.args.auto (Err c.in-Err.why) i o _ _ _ _ _ _ c.now.result c.min-now.result c.standard-options.result c.now.ensures c.min-now.ensures c.standard-options.ensures c.in-Err.ensures.opened;
      follows = (refl, c.of.ensures.status ∙ c.status_of.ensures.value, c.of.ensures.bad, c.of.ensures.entries, c.of.ensures.list);
    }

pub returns-in-Err-clause-store_fault : goal.returns-in-Err-clause-store_fault
returns-in-Err-clause-store_fault g c = λ e.
    store_fault c.standard-options.result _ _ _ _ c.min-now.result c.in-Err.why c.in-Err.ensures.opened (sym (c.of.ensures.status ∙ c.status_of.ensures.value) ∙ e)

pub returns-in-Err-clause-draw_fault : goal.returns-in-Err-clause-draw_fault
returns-in-Err-clause-draw_fault g c = λ e.
    draw_fault c.standard-options.result _ _ _ _ c.min-now.result c.in-Err.why c.in-Err.ensures.opened (sym (c.of.ensures.status ∙ c.status_of.ensures.value) ∙ e)

pub returns-clause-whole : goal.returns-clause-whole
returns-clause-whole g c = rw c.of_session.ensures.status c.serve_session-end.ensures.whole
