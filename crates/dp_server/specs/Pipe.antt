-- What a run of pipe says: a node of one thread is opened at the clock's first moment, and the
-- requests of the input are served.
use Rattle.std.specs.Prelude.{◌≡◌, ℕ, ◌*◌, min, Bool, true, List, [], length, Option, None, Result, Ok, Err}
use Rattle.dp_base.specs.declared.alg.Alg.TheVariants.{Cbc256}
use Rattle.dp_base.specs.declared.alg.AesSize.TheVariants.{A256}
use Rattle.dp_base.specs.declared.ticks.TheConstants.{LAST, TICKS_PER_DAY}
use Rattle.dp_base.specs.Clocks.{ShowsMoment}
use Rattle.dp_base.specs.Draws.{DrawState}
use Rattle.default_key.specs.declared.options.Options.{Options}
use Rattle.key_ring.specs.Ring.{RingOf}
use Rattle.repo_keeper.specs.Store.{Store}
use Rattle.ring_world.specs.declared.step.Step.{Step}
use Rattle.ring_world.specs.Flight.{Refusal, Gathers}
use Rattle.node_calls.specs.declared.open.OpenRefused.{OpenRefused}
use Rattle.node_calls.specs.declared.open.OpenRefused.TheVariants as refused
use Rattle.node_calls.specs.HostState.{HostState}
use Rattle.node_calls.specs.Books.{books, Does}
use Rattle.node_calls.specs.Calls.{terms}
use Rattle.node_calls.specs.Opening.{OpeningGives}
use Rattle.dp_node.specs.SoloOpening.{IsSolo, first_facts}
use Rattle.dp_session.specs.declared.status.Status.{Status}
use Rattle.dp_session.specs.declared.status.Status.TheVariants as status
use Rattle.dp_session.specs.Fresh.{AreFresh, AreCountedBy}
use Rattle.dp_answer.specs.Serving.{state}
use Rattle.dp_session.specs.Shut.{AreShut}
use Rattle.dp_session.specs.Session.{IsSession, outside}
use Rattle.dp_server.specs.declared.outcome.Outcome.{Outcome}

-- the standard options, with keys made automatically or not
pub record AreStandard (auto : Bool) (o : Options) : Type 0 where
  pub lifetime : o.lifetime ≡ 90 * TICKS_PER_DAY
  pub auto_is : o.auto ≡ auto
  pub new_alg : o.new_alg ≡ Cbc256 A256

-- what stands around a run
pub record Around : Type 0 where
  pub input : Option (List ℕ)
  pub output : Option (List ℕ)
  pub store : Store
  pub draws : DrawState
  -- the moments to come, where the clock tells them
  pub moments : Option (List ℕ)

abbrev pub around : Option (List ℕ) → Option (List ℕ) → Store → DrawState → Option (List ℕ) → Around
around input output store draws moments =
    record { input = input; output = output; store = store; draws = draws; moments = moments }

-- the opening of the node, by a lawful flight
pub record IsOpening (auto : Bool) (opened : Result HostState OpenRefused) (old new : Around) : Type 0 where
  pub moment : ℕ
  pub shown : ShowsMoment old.moments new.moments moment
  pub options : Options
  pub standard : AreStandard auto options
  pub ring : Result RingOf Refusal
  pub steps : List Step
  pub opens : OpeningGives (IsSolo (first_facts (min moment LAST) options)) opened ring
  pub did : (host : HostState) → Does (Gathers (terms (min moment LAST) options true old.store.list new.store.list) [] ring) (books [] host old.store old.draws) (books steps host new.store new.draws)
  pub input : new.input ≡ old.input
  pub output : new.output ≡ old.output

-- the status where the node wasn't opened
abbrev pub status_of : OpenRefused → Status
status_of refused.StoreFault = status.StoreFault
status_of refused.DrawFault = status.DrawFault
status_of refused.Memory = status.NoMemory

-- a session of the opened node, under an application name: all that is said of one
pub record IsServed (app : List ℕ) (host : HostState) (end : Outcome) (mid new : Around) : Type 0 where
  pub host_after : HostState
  pub session : IsSession app end.status end.bad
      (outside mid.input mid.output (state host mid.store mid.draws mid.moments) [] [])
      (outside new.input new.output (state host_after new.store new.draws new.moments) end.trace.entries end.trace.list)
  pub fresh : AreFresh (length host.own) end.trace.entries
  pub counted : AreCountedBy end.trace.entries (state host mid.store mid.draws mid.moments) (state host_after new.store new.draws new.moments)
  pub shut : (bodies : List (List ℕ)) → AreShut app bodies end.trace.entries end.trace.list

-- what follows the opening: a session of the node; or nothing
abbrev pub ComesAfterOpening : List ℕ → Result HostState OpenRefused → Outcome → Around → Around → Type 0
ComesAfterOpening app (Ok host) end mid new = IsServed app host end mid new
ComesAfterOpening app (Err why) end mid new =
    (new ≡ mid) × (end.status ≡ status_of why) × (end.bad ≡ None)
    × (end.trace.entries ≡ []) × (end.trace.list ≡ [])

-- a run of pipe, with keys made automatically or not, under an application name
pub record Pipes (auto : Bool) (app : List ℕ) (end : Outcome) (old new : Around) : Type 0 where
  pub opened : Result HostState OpenRefused
  pub mid : Around
  pub opening : IsOpening auto opened old mid
  pub follows : ComesAfterOpening app opened end mid new
