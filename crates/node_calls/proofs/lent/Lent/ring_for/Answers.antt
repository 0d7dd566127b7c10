use Rattle.std.proofs.Common.{◌≡◌, List, [], ◌∷◌, length, ◌≤◌, ◌<◌, ap, ◌∙◌, sym, max, Option, Ok, Err, subst}
use Rattle.std.proofs.lemmas.Result.{err_from_is_err_and}
use Rattle.key_elements.specs.declared.element.Element.{Element}
use Rattle.ring_world.specs.declared.step.Step.{Step}
use Rattle.ring_world.specs.declared.step.Step.TheVariants.{Answer}
use Rattle.ring_world.specs.Path.{Call}
use Rattle.node_calls.specs.HostState.{HostState}
use Rattle.node_calls.specs.Books.{books, Does}
use Rattle.node_calls.specs.Lent.{books_of}
use Rattle.node_calls.specs.Gather.{refusal}
use Rattle.node_calls.specs.Calls.{call}
use Rattle.node_calls.specs.Stale.{IsStale, FoundTaken}
use Rattle.node_calls.proofs.Books.{before, as_kind}
use Rattle.node_calls.proofs.Courses.{private_front}
use Rattle.node_calls.proofs.Ways.{WayGives, path_failed, settled_does, call_answered, call_refused, call_lost, answered-enough, answered-behind}
use Rattle.node_calls.proofs.Stale.{found_taken}
use Rattle.node_calls.proofs.HostSteps.{did_answer}
use Rattle.node_calls.proofs.lent.Lent.ring_for.Given.{Over}
use Rattle.node_calls.proofs.lent.Lent.ring_for.Goals.{In_ok-ring}
use Rattle.node_calls.proofs.lent.Lent.ring_for.Goals as goal

-- a ring answers: the one that was found, or that of one more try
module _ (g : Over) (c : In_ok-ring g) where
  -- the pass at the call's beginning, and the lists that the repository told then, behind the way to
  -- a ring, and at the end
  abbrev pass : HostState
  pass = g.H.HostView.state c.args.self.now.host.now

  abbrev first : Option (List Element)
  first = (g.R.Repo.store c.args.self.now.repo.now).list

  abbrev told : Option (List Element)
  told = (g.R.Repo.store c.find.new.self.repo.now).list

  abbrev last : Option (List Element)
  last = (g.R.Repo.store c.settle.new.self.repo.now).list

  abbrev asked : Call
  asked = call c.args.at c.args.missing pass first last

  way : Does (WayGives asked (Ok c.in_ok-ring.ring)) (books [] pass (g.R.Repo.store c.args.self.now.repo.now) (g.D.Draw.draws c.args.self.now.draw.now)) (books_of g.H.HostView.state g.R.Repo.store g.D.Draw.draws c.settle.new.self)
  way =
      let d = rw c.requires.room at (c.in_ok-found.ensures.did c.args.missing) in
      settled_does c.args.at c.args.missing first told last pass _ _ _ _ _ _ _ _ _ _ c.in_ok-found.found (Ok c.in_ok-ring.ring) d (c.in_ok-ring.ensures.did first d.recorded.store.list) c.in_ok-found.ensures.steady.0 (λ m. ap (λ r. (g.R.Repo.store r).list) (c.in_ok-ring.ensures.kept first m))

pub returns-in_err-found-clause-path : goal.returns-in_err-found-clause-path
returns-in_err-found-clause-path g c =
    let x = call c.args.at c.args.missing (g.H.HostView.state c.args.self.now.host.now) (g.R.Repo.store c.args.self.now.repo.now).list (g.R.Repo.store c.find.new.self.repo.now).list in
    let p = err_from_is_err_and c.from_residual.result c.from_residual.ensures.1 in
    let d = rw c.requires.room at (c.in_err-found.ensures.did c.args.missing) in
    rw (p.1, p.2, c.in_err-found.ensures.steady.0) (as_kind d (path_failed x (refusal c.in_err-found.field-0.0)))

pub returns-in_err-ring-clause-path : goal.returns-in_err-ring-clause-path
returns-in_err-ring-clause-path g c =
    let h = g.H.HostView.state c.args.self.now.host.now in
    let first = (g.R.Repo.store c.args.self.now.repo.now).list in
    let told = (g.R.Repo.store c.find.new.self.repo.now).list in
    let told' = (g.R.Repo.store c.settle.new.self.repo.now).list in
    let x = call c.args.at c.args.missing h first told' in
    let d = rw c.requires.room at (c.in_ok-found.ensures.did c.args.missing) in
    let way = settled_does c.args.at c.args.missing first told told' h _ _ _ _ _ _ _ _ _ _ c.in_ok-found.found (Err (refusal c.in_err-ring.field-0.0)) d (c.in_err-ring.ensures.did first d.recorded.store.list) c.in_ok-found.ensures.steady.0 (λ m. ap (λ r. (g.R.Repo.store r).list) (c.in_err-ring.ensures.kept first m)) in
    let p = err_from_is_err_and c.from_residual-in_err-ring.result c.from_residual-in_err-ring.ensures.1 in
    rw (p.1, p.2, c.in_err-ring.ensures.steady.0, c.in_ok-found.ensures.steady.0) (as_kind way (call_refused x (refusal c.in_err-ring.field-0.0)))

pub returns-in_err-keep_list-clause-path : goal.returns-in_err-keep_list-clause-path
returns-in_err-keep_list-clause-path g c =
    let k = (goal.at.returns-in_err-keep_list-clause-path g c).In_ok-ring in
    let p = err_from_is_err_and c.from_residual-in_err-keep_list.result c.from_residual-in_err-keep_list.ensures.1 in
    rw (p.1, p.2, c.in_err-keep_list.ensures.err, c.in_ok-ring.ensures.steady.0, c.in_ok-found.ensures.steady.0) (as_kind (way g k) (call_lost (asked g k) c.in_ok-ring.ring))

pub returns-then-have-at-clause-path : goal.returns-then-have-at-clause-path
returns-then-have-at-clause-path g c =
    let k = (goal.at.returns-then-have-at-clause-path g c).In_ok-ring in
    let ring = c.in_ok-ring.ring in
    let own : (g.H.HostView.state c.keep_list.new.host).own ≡ ring.list = ap (λ (h : HostState). h.own) c.in_ok-keep_list.ensures.ok ∙ c.list.ensures in
    let front : c.len-have.result ≡ length ring.list = c.len-have.ensures.value ∙ ap length c.list-2.ensures in
    let behind = answered-behind c.args.at.need ring (subst (λ n. n < c.args.at.need) front c.if-have-at.true) in
    rw (front, ← behind, own) (before (Answer ∷ []) (way g k) (did_answer _ _ _ _ _ _ c.list.result.now c.push.ensures c.in_ok-keep_list.ensures.ok) (call_answered (asked g k) ring))

pub returns-clause-path : goal.returns-clause-path
returns-clause-path g c =
    let k = (goal.at.returns-clause-path g c).In_ok-ring in
    let ring = c.in_ok-ring.ring in
    let own : (g.H.HostView.state c.keep_list.new.host).own ≡ ring.list = ap (λ (h : HostState). h.own) c.in_ok-keep_list.ensures.ok ∙ c.list.ensures in
    let front : c.len-have.result ≡ length ring.list = c.len-have.ensures.value ∙ ap length c.list-2.ensures in
    let enough = answered-enough c.args.at.need ring (subst (λ n. c.args.at.need ≤ n) front c.if-have-at.false) in
    rw (← enough, own) (before (Answer ∷ []) (way g k) (did_answer _ _ _ _ _ _ c.list.result.now c.push.ensures c.in_ok-keep_list.ensures.ok) (call_answered (asked g k) ring))

pub returns-clause-looked : goal.returns-clause-looked
returns-clause-looked g c = λ h.
    ap (λ (s : HostState). s.looked) c.in_ok-keep_list.ensures.ok ∙ c.in_ok-ring.ensures.looked (private_front c.settle.new.self.steps.now (Answer ∷ []) c.push.new.self c.push.ensures h)

pub returns-clause-stale : goal.returns-clause-stale
returns-clause-stale g c = λ stale.
    let d = returns-clause-path g c in
    let ring = c.in_ok-ring.ring in
    let own = (g.H.HostView.state c.args.self.now.host.now).own in
    let s = d.recorded.steps in
    subst (λ (z : List Step). FoundTaken z (g.H.HostView.state c.keep_list.new.host).turn) (sym s)
    (found_taken _ ring _ d.course _ _ d.is d.recorded.named d.recorded.turn
    (subst (λ (z : List Step). IsStale c.args.at.now (max c.args.at.need (length own)) z ring) s stale))
