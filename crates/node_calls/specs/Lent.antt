-- What a call is lent, as clauses see it.
use Rattle.std.specs.Prelude.{◌≡◌}
use Rattle.dp_base.specs.Draws.{DrawState}
use Rattle.repo_keeper.specs.Store.{Store}
use Rattle.node_calls.specs.declared.lent.Sources.{Sources}
use Rattle.node_calls.specs.declared.lent.Lent.{Lent}
use Rattle.node_calls.specs.HostState.{HostState}
use Rattle.node_calls.specs.Books.{Books, books}

-- the same loans, whatever stands behind them now
pub record SameSources {W R D : _} (old new : Sources W R D) : Type 0 where
  pub w : new.w.ghost_name ≡ old.w.ghost_name
  pub repo : new.repo.ghost_name ≡ old.repo.ghost_name
  pub draw : new.draw.ghost_name ≡ old.draw.ghost_name
  pub steps : new.steps.ghost_name ≡ old.steps.ghost_name

pub record SameLoans {W H R D : _} (old new : Lent W H R D) : Type 0 where
  pub w : new.w.ghost_name ≡ old.w.ghost_name
  pub host : new.host.ghost_name ≡ old.host.ghost_name
  pub repo : new.repo.ghost_name ≡ old.repo.ghost_name
  pub draw : new.draw.ghost_name ≡ old.draw.ghost_name
  pub steps : new.steps.ghost_name ≡ old.steps.ghost_name

-- all that a flight may change, where the pass is this
abbrev pub books_by : {W R D : Type 0} → (R → Store) → (D → DrawState) → HostState → Sources W R D → Books
books_by store draws host l = books l.steps.now host (store l.repo.now) (draws l.draw.now)

-- all that a call may change
abbrev pub books_of : {W H R D : Type 0} → (H → HostState) → (R → Store) → (D → DrawState) → Lent W H R D → Books
books_of state store draws l = books l.steps.now (state l.host.now) (store l.repo.now) (draws l.draw.now)
