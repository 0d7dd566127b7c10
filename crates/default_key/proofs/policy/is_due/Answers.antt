use Rattle.std.proofs.Common.{◌∙◌, sym, ap, not}
use Rattle.default_key.proofs.Preference.{renew_of-none, renew_of-preferred}
use Rattle.default_key.proofs.policy.is_due.Goals as goal

pub returns-in-Some : goal.returns-in-Some
returns-in-Some c =
    ap not c.is_followed.ensures ∙ renew_of-preferred c.args.keys.now c.args.now c.in-Some.place _ c.requires.ids (sym c.requires.place ∙ c.in-Some.is)

pub returns-in-None : goal.returns-in-None
returns-in-None c = renew_of-none c.args.keys.now c.args.now (sym c.requires.place ∙ c.in-None.is)
