use Rattle.std.proofs.Common.{◌≡◌, ℕ, List, ◌+◌, ◌-◌, ap, subst, sym, ◌∙◌}
use Rattle.std.specs.Arc.{arc_value}
use Rattle.std.specs.Option.{option_copied}
use Rattle.std.specs.List.{AllByRecursion}
use Rattle.default_key.specs.declared.options.TheConstants.{PERIOD}
use Rattle.default_key.specs.PolicyValues.{policy_of}
use Rattle.key_elements.specs.declared.element.Element.{Element}
use Rattle.key_elements.specs.Record.{IsElement, AreListed}
use Rattle.key_ring.specs.Keys.{facts}
use Rattle.key_ring.specs.declared.ring.Body.{Body}
use Rattle.key_ring.specs.Ring.{RingOf, IsRing, until_with, policy_at}
use Rattle.key_ring.proofs.FactsOf.{facts-from, facts-dates, facts-ids}
use Rattle.key_ring.proofs.Lookup.{default-is}
use Rattle.key_ring.proofs.ring.Ring.of.Goals as goal

abbrev ring : List Element → ℕ → ℕ → RingOf
ring es t until = record { list = es; made_at = t; until = until; excused = 0 }

listed : {es fs : List Element} → AreListed es → es ≡ fs → AllByRecursion IsElement fs
listed {es = es} is same = subst (λ fs. AllByRecursion IsElement fs) same is.elements

pub resolve-policy-requires-clause-dates : goal.resolve-policy-requires-clause-dates
resolve-policy-requires-clause-dates c =
    let known : c.as_slice-2.result.now ≡ facts c.args.list = c.as_slice-2.ensures.value ∙ facts-from c.args.list _ _ c.in_ok-facts.ensures (c.as_slice.ensures.value ∙ c.in_ok-keys.ensures) in
    rw known (facts-dates c.args.list (listed c.list.invariant c.list.view_is))

pub resolve-policy-requires-clause-ids : goal.resolve-policy-requires-clause-ids
resolve-policy-requires-clause-ids c =
    let known : c.as_slice-2.result.now ≡ facts c.args.list = c.as_slice-2.ensures.value ∙ facts-from c.args.list _ _ c.in_ok-facts.ensures (c.as_slice.ensures.value ∙ c.in_ok-keys.ensures) in
    rw known (facts-ids c.args.list)

pub from_parts-requires : goal.from_parts-requires
unfolding policy_at
from_parts-requires c =
    let known : c.as_slice-2.result.now ≡ facts c.args.list =
    c.as_slice-2.ensures.value ∙ facts-from c.args.list _ _ c.in_ok-facts.ensures (c.as_slice.ensures.value ∙ c.in_ok-keys.ensures) in
    let parts : IsRing c.args.list c.args.now (arc_value c.in_ok-keys-2.keys).items c.resolve-policy.result = record {
      keys_are = ap (λ v. v.items) c.in_ok-keys-2.ensures.ok ∙ c.in_ok-keys.ensures;
      policy_is = c.resolve-policy.ensures.value ∙ ap (λ fs. policy_of fs c.args.now) known;
    } in
    subst (λ (b : Body). IsRing b.list c.args.now (arc_value b.keys).items c.resolve-policy.result) (sym c.in_ok-body.ensures.ok) parts

pub returns : goal.returns
unfolding policy_at
returns c =
    let known : c.as_slice-2.result.now ≡ facts c.args.list =
    c.as_slice-2.ensures.value ∙ facts-from c.args.list _ _ c.in_ok-facts.ensures (c.as_slice.ensures.value ∙ c.in_ok-keys.ensures) in
    let parts : IsRing c.args.list c.args.now c.in_ok-keys.keys.items c.resolve-policy.result = record {
      keys_are = c.in_ok-keys.ensures;
      policy_is = c.resolve-policy.ensures.value ∙ ap (λ fs. policy_of fs c.args.now) known;
    } in
    let standard = rw c.as_slice-3.ensures.value at c.default_of.ensures in
    let period : c.args.now + c.args.options.now.period - c.args.jitter ≡ c.args.now + PERIOD - c.args.jitter = ap (λ p. c.args.now + p - c.args.jitter) c.args.options.now.fixed_period in
    let until = c.until_of-until.ensures ∙ ap (until_with (option_copied c.default_of.result) c.args.now) period ∙ ap (λ k. until_with k c.args.now (c.args.now + PERIOD - c.args.jitter)) (standard ∙ default-is c.args.list c.args.now _ _ parts) in
    c.from_parts.ensures ∙ (ap (λ (b : Body). ring b.list c.args.now c.until_of-until.result) c.in_ok-body.ensures.ok ∙ ap (ring c.args.list c.args.now) until)
