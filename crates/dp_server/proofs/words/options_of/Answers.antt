use Rattle.std.proofs.Common.{◌≡◌, ℕ, List, length, Some, sym, ap, subst, rules}
use Rattle.dp_server.specs.Words.{Settings}
use Rattle.dp_server.specs.Commands.{option_of, settings_of, IsFree}
use Rattle.dp_server.proofs.Lawful.{texts, texts_none, texts_some}
use Rattle.dp_server.proofs.Options.{Leads, options_lead, leads_options, leads_in, parted, ended, ends, led}
use Rattle.dp_server.proofs.words.options_of.Goals as goal

pub returns-in_err-option-clause-only : goal.returns-in_err-option-clause-only
returns-in_err-option-clause-only c = λ s a.
    let some : length c.loop-rest.rest.now ≡ 0 → ⊥ = λ e. search rules in
    let q = parted (settings_of c.loop-rest.told) (texts c.loop-rest.rest.now) s (texts_some _ some) (c.loop-rest.invariant.back s (options_lead _ s a)) in
    absurd (c.in_err-option.ensures.only q.option q.behind q.next)

pub returns-in_err-told-clause-only : goal.returns-in_err-told-clause-only
returns-in_err-told-clause-only c = λ s a.
    let told = settings_of c.loop-rest.told in
    let some : length c.loop-rest.rest.now ≡ 0 → ⊥ = λ e. search rules in
    let q = parted told (texts c.loop-rest.rest.now) s (texts_some _ some) (c.loop-rest.invariant.back s (options_lead _ s a)) in
    let same = c.in_ok-option.ensures.only q.option q.behind q.next in
    absurd (c.in_err-told.ensures.none.0 (search rules) (subst (IsFree told) (sym same.0) q.free))

pub loop-rest-preserved : goal.loop-rest-preserved
loop-rest-preserved c =
    let told = settings_of c.loop-rest.told in
    let option = option_of c.in_ok-option.option in
    let behind = texts c.in_ok-option.behind.now in
    let more = c.in_ok-told.ensures.value in
    let some : length c.loop-rest.rest.now ≡ 0 → ⊥ = λ e. search rules in
    record {
      into = λ to p. c.loop-rest.invariant.into to (leads_in told option _ behind to c.in_ok-option.ensures.value more.0 (subst (λ (t : Settings). Leads t behind to) more.1 p));
      back = λ to p.
          let q = parted told (texts c.loop-rest.rest.now) to (texts_some _ some) (c.loop-rest.invariant.back to p) in
          let same = c.in_ok-option.ensures.only q.option q.behind q.next in
          led told _ option q.option behind q.behind to more.1 same.0 same.1 q.leads;
    }

pub returns-clause-value : goal.returns-clause-value
returns-clause-value c =
    let told = settings_of c.loop-rest.told in
    let none : length c.loop-rest.rest.now ≡ 0 = search rules in
    leads_options _ told (c.loop-rest.invariant.into told (subst (λ (t : List (List ℕ)). Leads told t told) (sym (texts_none _ none)) (ended told)))

pub returns-clause-only : goal.returns-clause-only
returns-clause-only c = λ s a.
    let told = settings_of c.loop-rest.told in
    let none : length c.loop-rest.rest.now ≡ 0 = search rules in
    ap Some (ends told s (subst (λ (t : List (List ℕ)). Leads told t s) (texts_none _ none) (c.loop-rest.invariant.back s (options_lead _ s a))))
