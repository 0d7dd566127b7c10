use Rattle.std.proofs.Common.{◌∙◌, ℕ, IfSome, sym, subst, rules}
use Rattle.dp_base.specs.Transfer.{Writes, WritesFront}
use Rattle.dp_server.specs.declared.words.Command.{Command}
use Rattle.dp_server.specs.Commands.{Show, Pipe, form_of, IsForm}
use Rattle.dp_session.specs.declared.status.Status.{Status}
use Rattle.dp_server.specs.Show.{IsListed, Shows}
use Rattle.dp_server.specs.Statuses.{IsAccepting}
use Rattle.dp_server.proofs.Lawful.{texts, name_fits, same_moment, same_options}
use Rattle.dp_server.proofs.run.run.Goals as goal

pub returns-in-Some-Show-clause-done : goal.returns-in-Some-Show-clause-done
returns-in-Some-Show-clause-done g c = λ m h e.
    let same = same_moment c.command_of.result c.in-Some-Show.field-0 c.in-Some-Show.moment m c.in-Some-Show.is c.in-Some-Show.field-0-is (c.command_of.ensures.only (Show m) h) in
    let left = g.I.Source.left c.args.input.now in
    let after = g.I.Source.left c.show.new.input in
    subst (λ (n : ℕ). Shows n left after (Writes (g.O.Sink.written c.args.output.now) (g.O.Sink.written c.show.new.output))) same (c.show.ensures.done (sym c.of_show.ensures.status ∙ e))

pub returns-in-Some-Show-clause-front : goal.returns-in-Some-Show-clause-front
returns-in-Some-Show-clause-front g c = λ m h e.
    let same = same_moment c.command_of.result c.in-Some-Show.field-0 c.in-Some-Show.moment m c.in-Some-Show.is c.in-Some-Show.field-0-is (c.command_of.ensures.only (Show m) h) in
    let left = g.I.Source.left c.args.input.now in
    let after = g.I.Source.left c.show.new.input in
    subst (λ (n : ℕ). Shows n left after (WritesFront (g.O.Sink.written c.args.output.now) (g.O.Sink.written c.show.new.output))) same (c.show.ensures.front (sym c.of_show.ensures.status ∙ e))

pub returns-in-Some-Show-clause-accepted : goal.returns-in-Some-Show-clause-accepted
returns-in-Some-Show-clause-accepted g c = λ m h.
    subst (λ (s : Status). IfSome (g.I.Source.left c.args.input.now) (λ l. IsListed l → IsAccepting s)) (sym c.of_show.ensures.status) c.show.ensures.accepted

pub returns-in-None-clause-accepted : goal.returns-in-None-clause-accepted
returns-in-None-clause-accepted g c = λ m h. absurd (c.in-None.ensures.none.0 (search rules) (Show m, h))

pub returns-in-None-clause-refused : goal.returns-in-None-clause-refused
returns-in-None-clause-refused g c = λ m h. absurd (c.in-None.ensures.none.0 (search rules) (Show m, h))

pub returns-in-None-clause-pipe : goal.returns-in-None-clause-pipe
returns-in-None-clause-pipe g c = λ auto app h. absurd (c.in-None.ensures.none.0 (search rules) (Pipe auto app, h))

pub pipe-requires : goal.pipe-requires
pipe-requires g c =
    let form = subst (λ (f : Command). IsForm (texts c.args.words.now) (form_of f)) c.in-Some-Pipe.field-0-is c.in-Some-Pipe.ensures.value in
    name_fits (texts c.args.words.now) c.in-Some-Pipe.options.auto c.in-Some-Pipe.options.app.now form

pub returns-in-Some-Pipe-clause-pipe : goal.returns-in-Some-Pipe-clause-pipe
returns-in-Some-Pipe-clause-pipe g c = λ auto app h.
    let same = same_options c.command_of.result c.in-Some-Pipe.field-0 c.in-Some-Pipe.options auto app c.in-Some-Pipe.is c.in-Some-Pipe.field-0-is (c.command_of.ensures.only (Pipe auto app) h) in
    rw (← same.0, ← same.1) c.pipe.ensures.pipes

pub returns-in-None-clause-complete : goal.returns-in-None-clause-complete
returns-in-None-clause-complete g c = λ auto app h. absurd (c.in-None.ensures.none.0 (search rules) (Pipe auto app, h))
