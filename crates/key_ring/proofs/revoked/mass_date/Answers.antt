use Rattle.std.proofs.Common.{ℕ, Option, take, refl, ap, sym, ◌∙◌, arith}
use Rattle.std.specs.Prelude.{None}
use Rattle.std.proofs.lemmas.List.Sums.{fold_more}
use Rattle.key_ring.specs.Listing.{mass_date, with_mass_date}
use Rattle.key_ring.proofs.revoked.mass_date.Goals as goal

pub loop-place-init : goal.loop-place-init
unfolding mass_date
loop-place-init c = refl

pub loop-place-preserved : goal.loop-place-preserved
unfolding mass_date
loop-place-preserved c =
    let e = c.element_at.result.now in
    let so_far : Option ℕ = mass_date (take c.loop-place.place c.args.list.now) in
    c.with_mass_date-greatest.ensures ∙ ap (λ g. with_mass_date g e) c.loop-place.invariant ∙ ap (with_mass_date so_far) (c.element_at.ensures e)
    ∙ sym (fold_more with_mass_date None c.args.list.now c.loop-place.place e (omega arith))
