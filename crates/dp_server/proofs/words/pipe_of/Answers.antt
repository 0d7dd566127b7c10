use Rattle.std.proofs.Common.{◌≡◌, ℕ, List, codes, sym, subst, ◌∙◌, rules}
use Rattle.dp_server.specs.Words.{AreOptions}
use Rattle.dp_server.proofs.Lawful.{texts, first_word, piped}
use Rattle.dp_server.proofs.words.pipe_of.Goals as goal

pub returns-in-len1-up-clause-value : goal.returns-in-len1-up-clause-value
returns-in-len1-up-clause-value c =
    let e : c.as_str.result.now ≡ codes "pipe" = search rules in
    let parts = first_word c.args.words.now c.command-item.result _ c.in-len1-up.len_at_least c.command-item.is (sym c.as_str.ensures.value ∙ e) in
    piped (texts c.args.words.now) _ c.options_of.result parts c.options_of.ensures.value

pub returns-in-len1-up-clause-only : goal.returns-in-len1-up-clause-only
returns-in-len1-up-clause-only c = λ auto app h.
    let e : c.as_str.result.now ≡ codes "pipe" = search rules in
    let parts = first_word c.args.words.now c.command-item.result _ c.in-len1-up.len_at_least c.command-item.is (sym c.as_str.ensures.value ∙ e) in
    let both = sym h.1 ∙ parts in
    c.options_of.ensures.only (record { auto = auto; app = app }) (subst (λ (t : List (List ℕ)). AreOptions t (record { auto = auto; app = app })) (cc) h.2)
