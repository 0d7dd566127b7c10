use Rattle.std.proofs.Common.{◌≡◌, ◌∙◌, false, is_some, refl, sym, ap, arith}
use Rattle.default_key.specs.PolicyValues.{preferred_of}
use Rattle.default_key.proofs.Preference.{newest_after}
use Rattle.default_key.proofs.policy.fallback_place.Goals as goal

pub returns-in-Some : goal.returns-in-Some
returns-in-Some c =
    let none : is_some (preferred_of c.args.keys.now c.args.now) ≡ false = ap is_some (sym c.requires) ∙ sym c.is_some.ensures ∙ c.if-is_some.false in
    let newest = newest_after c.args.keys.now c.args.now c.args.options.now.propagation c.first_of.result (omega arith) c.first_of.ensures in
    rw (none, newest, c.in-Some.is) refl

pub returns-in-None : goal.returns-in-None
returns-in-None c =
    let none : is_some (preferred_of c.args.keys.now c.args.now) ≡ false = ap is_some (sym c.requires) ∙ sym c.is_some.ensures ∙ c.if-is_some.false in
    let newest = newest_after c.args.keys.now c.args.now c.args.options.now.propagation c.first_of.result (omega arith) c.first_of.ensures in
    rw (none, newest, c.in-None.is) c.first_of-in-None.ensures
