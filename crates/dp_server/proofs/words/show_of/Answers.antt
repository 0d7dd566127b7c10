use Rattle.std.proofs.Common.{◌≡◌, codes, sym, ◌∙◌, rules}
use Rattle.dp_server.proofs.Lawful.{texts, just_two, shown}
use Rattle.dp_server.proofs.words.show_of.Goals as goal

pub returns-in-len2-clause-value : goal.returns-in-len2-clause-value
returns-in-len2-clause-value c =
    let e : c.as_str.result.now ≡ codes "show" = search rules in
    let both = just_two c.args.words.now c.command-item.result c.moment-item.result _ _ c.in-len2.len_at_least c.in-len2.len_below c.command-item.is c.moment-item.is (sym c.as_str.ensures.value ∙ e) (sym c.as_str-in-len2.ensures.value) in
    shown (texts c.args.words.now) c.as_str-in-len2.result.now c.moment_of.result both c.moment_of.ensures.value
