use Rattle.std.proofs.Common.{rules}
use Rattle.dp_server.specs.Commands.{Show, Pipe}
use Rattle.dp_server.proofs.Lawful.{no_form, one_form}
use Rattle.dp_server.proofs.words.command_of.Goals as goal

pub returns-in-Some-clause-none : goal.returns-in-Some-clause-none
returns-in-Some-clause-none c = (λ n. absurd cc, λ n. absurd (n (Show c.in-Some.moment, c.in-Some.ensures.value)))

pub returns-in_err-options-clause-only : goal.returns-in_err-options-clause-only
returns-in_err-options-clause-only c = λ form h.
    absurd (no_form _ (λ m s. let e = c.in_default.ensures.only m s in cc) (λ auto app p. let e = c.in_err-options.ensures.only auto app p in cc) form h)

pub returns-in_err-options-clause-none : goal.returns-in_err-options-clause-none
returns-in_err-options-clause-none c =
    (λ n l. no_form _ (λ m s. let e = c.in_default.ensures.only m s in cc) (λ auto app p. let e = c.in_err-options.ensures.only auto app p in cc) l.0 l.1, λ n. search rules)

pub returns-clause-only : goal.returns-clause-only
returns-clause-only c = λ form h.
    one_form _ c.in_ok-options.options.auto c.in_ok-options.options.app.now (λ m s. let e = c.in_default.ensures.only m s in cc) c.in_ok-options.ensures.only form h

pub returns-clause-none : goal.returns-clause-none
returns-clause-none c = (λ n. absurd cc, λ n. absurd (n (Pipe c.in_ok-options.options.auto c.in_ok-options.options.app.now, c.in_ok-options.ensures.value)))
