-- What a session is lent, as clauses see it.
use Rattle.std.specs.Prelude.{◌≡◌, ℕ, List, Option}
use Rattle.dp_base.specs.Draws.{DrawState}
use Rattle.repo_keeper.specs.Store.{Store}
use Rattle.node_calls.specs.HostState.{HostState}
use Rattle.dp_session.specs.declared.serving.Session.{Session}
use Rattle.dp_answer.specs.Serving.{SessionState, state}

-- the same loans, whatever stands behind them now
pub record SameSession {W H R D C G : _} (old new : Session W H R D C G) : Type 0 where
  pub w : new.w.ghost_name ≡ old.w.ghost_name
  pub host : new.host.ghost_name ≡ old.host.ghost_name
  pub repo : new.repo.ghost_name ≡ old.repo.ghost_name
  pub draw : new.draw.ghost_name ≡ old.draw.ghost_name
  pub clock : new.clock.ghost_name ≡ old.clock.ghost_name

-- what a request may change, with these moments to come
abbrev pub standing : {W H R D C G : Type 0} → (H → HostState) → (R → Store) → (D → DrawState) → Option (List ℕ) → Session W H R D C G → SessionState
standing host store draws moments s = state (host s.host.now) (store s.repo.now) (draws s.draw.now) moments
