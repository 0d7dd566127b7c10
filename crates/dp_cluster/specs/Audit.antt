-- What an audit finds: traces whose lists are fronts of one history, or the first whose list isn't.
use Rattle.std.specs.Prelude.{◌≡◌, ◌⊎◌, ℕ, ◌<◌, List, length, take, slice_get, IsSomeAnd, All}
use Rattle.key_elements.specs.declared.element.Element.{Element}
use Rattle.key_elements.specs.Lists.{Extends, IsFirstDifference}
use Rattle.dp_answer.specs.declared.trace.Trace.{Trace}
use Rattle.dp_session.specs.Session.{front_of}
use Rattle.dp_cluster.specs.declared.auditing.AuditFork.{AuditFork}

-- the list begins with the history and goes on behind it
abbrev pub GoesOn : List Element → List Element → Type 0
GoesOn history list = Extends list history × (length history < length list)

-- where a list leaves the history: the first place at which they differ, or the history's length
-- where the list goes on behind it
abbrev pub LeavesAt : List Element → List Element → ℕ → Type 0
LeavesAt history list place = IsFirstDifference history list place ⊎ (GoesOn history list × (place ≡ length history))

-- the list of each trace is a front of the history
abbrev pub AreFronts : List Element → List Trace → Type 0
AreFronts history traces = All (λ t. Extends history t.list) traces

-- the list of each entry of the trace, which is a front of the trace's, is a front of the history
abbrev pub HasFronts : List Element → Trace → Type 0
HasFronts history t = All (λ e. Extends history (take (front_of e.used) t.list)) t.entries

-- the fork names the first trace whose list isn't a front of the history, and where that leaves it
pub record IsFork (history : List Element) (traces : List Trace) (fork : AuditFork) : Type 0 where
  pub leaves : IsSomeAnd (slice_get traces fork.trace) (λ t. LeavesAt history t.list fork.at)
  pub first : AreFronts history (take fork.trace traces)
