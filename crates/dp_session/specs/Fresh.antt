-- What the entries of a session say of what its callers had seen, and of what was counted.
use Rattle.std.specs.Prelude.{◌≡◌, ℕ, ◌+◌, ◌≤◌, max, List, length, [], ◌∷◌, ◌++◌}
use Rattle.std.specs.List.{AllByRecursion, flat_map}
use Rattle.dp_base.specs.Counts.{more}
use Rattle.ring_world.specs.declared.step.Step.{Step}
use Rattle.ring_world.specs.Flight.{Refusal, StoreFault, DrawFault, Shorter, Behind, Forked, Full, BadDates, Memory}
use Rattle.node_calls.specs.Books.{acts, tally, draws_failed}
use Rattle.node_calls.specs.HostState.{latest}
use Rattle.node_calls.specs.declared.error.NodeError.{NodeError}
use Rattle.node_calls.specs.declared.error.NodeError.TheVariants as errors
use Rattle.node_calls.specs.Gather.{refusal}
use Rattle.dp_answer.specs.declared.trace.Entry.{Entry}
use Rattle.dp_answer.specs.declared.trace.Used.{Used}
use Rattle.dp_answer.specs.declared.trace.Used.TheVariants as used
use Rattle.dp_answer.specs.Serving.{SessionState}
use Rattle.dp_session.specs.Session.{front_of}

-- a ring has as many elements as were needed, and as were seen before; what is placed needs none, and
-- stands behind all that was seen
abbrev pub IsFreshUse : ℕ → ℕ → Used → Type 0
IsFreshUse need seen (used.Ring front made_at) = (need ≤ front) × (seen ≤ front)
IsFreshUse need seen (used.Placed place) = (need ≡ 0) × (seen ≤ place)
IsFreshUse need seen (used.Refused why) = Unit {0}
IsFreshUse need seen (used.BadRequest place) = Unit {0}
IsFreshUse need seen used.NoMemory = Unit {0}

abbrev pub IsFresh : Entry → Type 0
IsFresh e = IsFreshUse e.need e.seen e.used

-- and each later one had seen what was seen and used before it
abbrev pub AreFresh : ℕ → List Entry → Type 0
AreFresh seen [] = Unit {0}
AreFresh seen (e ∷ es) =
    (seen ≤ e.seen) × IsFresh e × AreFresh (max e.seen (front_of e.used)) es

-- a refusal for a draw that failed
abbrev pub draw_fault : NodeError → ℕ
draw_fault errors.DrawFault = 1
draw_fault _ = 0

-- how many calls of the draw failed: those of the steps, or else the one for a payload
abbrev pub draw_faults : Used → List Step → ℕ
draw_faults (used.Refused why) steps = max (draw_fault why) (draws_failed steps)
draw_faults _ steps = draws_failed steps

-- steps that count what they were refused for: a fault of the repository, a repository with fewer
-- elements than it had, or a full one; a fault of the draw is counted as said above
abbrev pub AreCounted : Refusal → List Step → Type 0
AreCounted StoreFault steps = 1 ≤ (tally steps).faults
AreCounted DrawFault steps = Unit {0}
AreCounted (Shorter had got) steps = 1 ≤ (tally steps).shorts
AreCounted (Behind have need) steps = Unit {0}
AreCounted (Forked at left right) steps = Unit {0}
AreCounted (Full count) steps = 1 ≤ (tally steps).fulls
AreCounted BadDates steps = Unit {0}
AreCounted Memory steps = Unit {0}

-- whether no memory was found: then one call of the repository may have no step, and a draw for a
-- payload may have failed, and nobody was told
abbrev pub no_memory : Used → ℕ
no_memory used.NoMemory = 1
no_memory _ = 0

abbrev pub IsCounted : Used → List Step → Type 0
IsCounted (used.Ring front made_at) steps = Unit {0}
IsCounted (used.Placed place) steps = Unit {0}
IsCounted (used.Refused why) steps = AreCounted (refusal why) steps
IsCounted (used.BadRequest place) steps = Unit {0}
IsCounted used.NoMemory steps = Unit {0}

-- a number of each entry, added up
abbrev pub total : (Entry → ℕ) → List Entry → ℕ
total f [] = 0
total f (e ∷ es) = f e + total f es

-- the steps of the entries, in order
abbrev pub all_steps : List Entry → List Step
all_steps es = flat_map (λ e. e.steps) es

-- the last acts of the pass are those of the steps of the entries, behind those that were there; the
-- counts of repository and draw rose by what these steps say, those of the repository's calls and of the
-- draw's faults also by one at the most for each request that found no memory, and the latter for the
-- payloads; the places are those of their appends; the repository's mark is what it was; and each refusal
-- that has a count has it
pub record AreCountedBy (es : List Entry) (old new : SessionState) : Type 0 where
  pub acts : latest new.host.acts ≡ latest (old.host.acts ++ acts (length old.host.looked.list) (all_steps es))
  pub calls : (k : ℕ) × (k ≤ total (λ e. no_memory e.used) es)
      × (new.store.calls ≡ more (total (λ e. (tally e.steps).calls) es + k) old.store.calls)
  pub faults : new.store.faults ≡ more (total (λ e. (tally e.steps).faults) es) old.store.faults
  pub shorts : new.store.shorts ≡ more (total (λ e. (tally e.steps).shorts) es) old.store.shorts
  pub fulls : new.store.fulls ≡ more (total (λ e. (tally e.steps).fulls) es) old.store.fulls
  pub mine : new.store.mine ≡ old.store.mine ++ flat_map (λ e. (tally e.steps).places) es
  pub mark : new.store.mark ≡ old.store.mark
  pub draws : (k : ℕ) × (k ≤ total (λ e. no_memory e.used) es)
      × (new.draws.faults ≡ more (total (λ e. draw_faults e.used e.steps) es + k) old.draws.faults)
  pub refused : AllByRecursion (λ e. IsCounted e.used e.steps) es
