use Rattle.std.proofs.Common.{◌≡◌, ◌∙◌, ap, refl, subst, inl, inr, Err}
use Rattle.std.proofs.lemmas.Result.{err_from_is_err_and}
use Rattle.key_elements.specs.Lists.{Extends}
use Rattle.ring_world.specs.Flight.{Sight}
use Rattle.node_calls.specs.HostState.{HostState}
use Rattle.node_calls.specs.Sight.{sight_of}
use Rattle.node_calls.specs.Now.{IsUsed, Judged}
use Rattle.node_calls.proofs.Nows.{refused_now, used_extends}
use Rattle.node_calls.proofs.now.ring_now.Goals as goal

pub returns-in_err-sight : goal.returns-in_err-sight
returns-in_err-sight g c =
    let p = err_from_is_err_and c.from_residual.result c.from_residual.ensures.1 in record { now = rw (p.1, p.2) (inl c.in_err-sight.ensures.err) }

pub returns-in_err-judge : goal.returns-in_err-judge
returns-in_err-judge g c =
    let p = err_from_is_err_and c.from_residual-in_err-judge.result c.from_residual-in_err-judge.ensures.1 in
    let h = g.H.HostView.state c.args.host.now in let seen = c.in_ok-sight.ensures in let s : Sight = sight_of c.in_ok-sight.sight in
    let own : c.own.result.now ≡ h.own = c.own.ensures ∙ ap (λ (x : HostState). x.own) seen.host in
    let why = c.in_err-judge.field-0.0 in record {
      now = rw (p.1, p.2) (refused_now c.args.at h (g.H.HostView.state c.ask.new.host) s seen.shows seen.host why (subst (λ xs. Judged xs c.args.at s (Err why)) own c.in_err-judge.ensures));
    }

pub keep_list-requires : goal.keep_list-requires
keep_list-requires g c =
    let s : Sight = sight_of c.in_ok-sight.sight in
    rw c.list.ensures (subst (λ xs. Extends s.ring.list xs) c.own.ensures (used_extends c.own.result.now c.args.at s c.in_ok-judge.ensures))

pub returns-in_err-keep_list : goal.returns-in_err-keep_list
returns-in_err-keep_list g c =
    let p = err_from_is_err_and c.from_residual-in_err-keep_list.result c.from_residual-in_err-keep_list.ensures.1 in
    let seen = c.in_ok-sight.ensures in record { now = rw (p.1, p.2, c.in_err-keep_list.ensures.err) (inr (sight_of c.in_ok-sight.sight, seen.shows, seen.host)) }

pub returns : goal.returns
returns g c =
    let h = g.H.HostView.state c.args.host.now in let seen = c.in_ok-sight.ensures in let s : Sight = sight_of c.in_ok-sight.sight in
    let own : c.own.result.now ≡ h.own = c.own.ensures ∙ ap (λ (x : HostState). x.own) seen.host in record {
      now = (
        s,
        seen.shows,
        subst (λ xs. IsUsed xs c.args.at s) own c.in_ok-judge.ensures,
        refl,
        c.in_ok-keep_list.ensures.ok ∙ (λ i. record (seen.host i) { own = c.list.ensures i }),
      );
    }
