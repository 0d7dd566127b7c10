use Rattle.std.proofs.Common.{◌≡◌, codes, sym, ◌∙◌, rules}
use Rattle.dp_server.proofs.Lawful.{first_word, two_words}
use Rattle.dp_server.proofs.words.option_at.Goals as goal

pub returns-in-len1-up-clause-value : goal.returns-in-len1-up-clause-value
returns-in-len1-up-clause-value c =
    let e : c.as_str.result.now ≡ codes "--no-auto" = search rules in
    (tt, first_word c.args.words.now c.flag-item.result _ c.in-len1-up.len_at_least c.flag-item.is (sym c.as_str.ensures.value ∙ e))

pub returns-in-len2-up-clause-value : goal.returns-in-len2-up-clause-value
returns-in-len2-up-clause-value c =
    let e : c.as_str-2.result.now ≡ codes "--app" = search rules in
    let same : c.as_str-then-eq-2.result.now ≡ c.as_str-name.result.now = sym (c.as_str-name.ensures.value ∙ sym c.as_str-then-eq-2.ensures.value) in (
      rw (← same) (c.is_name.ensures.0 c.if-is_name.true),
      two_words c.args.words.now c.flag-item-2.result c.name-item.result _ _ c.in-len2-up.len_at_least c.flag-item-2.is c.name-item.is (sym c.as_str-2.ensures.value ∙ e) (sym c.as_str-name.ensures.value),
    )
