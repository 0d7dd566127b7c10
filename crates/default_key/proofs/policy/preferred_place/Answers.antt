use Rattle.std.proofs.Common.{◌+◌, ◌∙◌, sym, arith}
use Rattle.default_key.proofs.Preference.{best_until, preferred_of-dropped, preferred_of-kept, preferred_of-no_best}
use Rattle.default_key.proofs.policy.preferred_place.Goals as goal

pub returns-in_err-place : goal.returns-in_err-place
returns-in_err-place c =
    let best = best_until c.args.keys.now c.args.now (c.args.now + c.args.options.now.skew) c.first_of.result (omega arith) c.first_of.ensures in
    c.from_residual.ensures ∙ sym (preferred_of-no_best c.args.keys.now c.args.now (best ∙ c.in_err-place.was))

pub returns-then-is_valid : goal.returns-then-is_valid
returns-then-is_valid c =
    let best = best_until c.args.keys.now c.args.now (c.args.now + c.args.options.now.skew) c.first_of.result (omega arith) c.first_of.ensures in
    sym (preferred_of-kept c.args.keys.now c.args.now c.in_ok-place.place _ (best ∙ c.in_ok-place.was) (sym c.is_valid.ensures ∙ c.if-is_valid.true))

pub returns-else-is_valid : goal.returns-else-is_valid
returns-else-is_valid c =
    let best = best_until c.args.keys.now c.args.now (c.args.now + c.args.options.now.skew) c.first_of.result (omega arith) c.first_of.ensures in
    sym (preferred_of-dropped c.args.keys.now c.args.now c.in_ok-place.place _ c.requires.ids (best ∙ c.in_ok-place.was) (sym c.is_valid.ensures ∙ c.if-is_valid.false))
