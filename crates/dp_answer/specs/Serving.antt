-- What one request does: to the pass, to the repository and to the draw.
use Rattle.std.specs.Prelude.{◌≡◌, ◌≢◌, ◌⊎◌, ℕ, ◌≤◌, min, true, false, List, [], ◌++◌, length, Option, Some, None, Result, Ok, Err}
use Rattle.dp_base.specs.declared.ticks.TheConstants.{LAST}
use Rattle.dp_base.specs.Clocks.{ShowsMoment}
use Rattle.dp_base.specs.Draws.{DrawState, Draws}
use Rattle.dp_base.specs.declared.want.Memory.{Memory}
use Rattle.key_elements.specs.declared.element.Element.{Element}
use Rattle.key_elements.specs.declared.element.Element.TheVariants as elements
use Rattle.key_elements.specs.Lists.{Extends}
use Rattle.key_ring.specs.Ring.{RingOf}
use Rattle.repo_keeper.specs.Made.{key_of_draw}
use Rattle.repo_keeper.specs.Store.{Store}
use Rattle.ring_world.specs.declared.step.Step.{Step}
use Rattle.ring_world.specs.Flight.{Refusal}
use Rattle.ring_world.specs.Way.{CallPath}
use Rattle.ring_world.specs.Placing.{Asked, PlacePath}
use Rattle.node_calls.specs.declared.error.NodeError.TheVariants as errors
use Rattle.node_calls.specs.declared.call.At.{At}
use Rattle.node_calls.specs.declared.error.NodeError.{NodeError}
use Rattle.node_calls.specs.HostState.{HostState}
use Rattle.node_calls.specs.Books.{Books, books, Does}
use Rattle.node_calls.specs.Calls.{call}
use Rattle.node_calls.specs.Gather.{refusal}
use Rattle.node_calls.specs.Places.{asked}
use Rattle.dp_wire.specs.declared.request.BadRequest.{BadRequest}
use Rattle.dp_wire.specs.Frame.{frame}
use Rattle.dp_wire.specs.Reading.{request_at}
use Rattle.dp_wire.specs.Request.{Request, Roll, Revoke, RevokeBefore}
use Rattle.dp_answer.specs.declared.response.Response.{Response}
use Rattle.dp_answer.specs.declared.trace.Entry.{Entry}
use Rattle.dp_answer.specs.declared.trace.Used.{Used}
use Rattle.dp_answer.specs.declared.trace.Used.TheVariants as used
use Rattle.dp_answer.specs.Needs.{need_of, needs_ring, missing_of, sealed_len, HasBadDates}
use Rattle.dp_answer.specs.Replies.{reply_to}

-- when a request comes, and how many elements it asks for
abbrev pub asking : Request → ℕ → At
asking p now = record { now = now; need = need_of (Ok p) }

-- what a request asks to be appended to the list that the pass has seen: a key that eighty bytes
-- drawn make, or a revocation
abbrev pub Asks : Request → ℕ → List Element → Option (List Element) → Asked → Type 0
Asks (Roll activation expiration code) now own told a =
    a ≡ asked own true (λ bytes. key_of_draw bytes now activation expiration code) told
Asks (Revoke id reason) now own told a =
    a ≡ asked own false (λ _. elements.RevokeKey (record { 0 = id }) now reason) told
Asks (RevokeBefore date reason) now own told a =
    a ≡ asked own false (λ _. elements.RevokeBefore date reason) told
Asks _ now own told a = ⊥

-- what follows the path to a ring, where these bytes are drawn behind its steps: the path was refused;
-- the request is answered by its ring; the draw fails that is due for its payload; no memory is found,
-- before that draw, behind it, or for the reply that it failed
pub data AnswersByRing (p : Request) (r : Result RingOf Refusal) (u : Used) (bytes : List ℕ) (old new : DrawState) : Type 0 where
  refused : (why : NodeError) → r ≡ Err (refusal why) → why ≢ errors.Memory → u ≡ used.Refused why → bytes ≡ [] → new ≡ old → AnswersByRing p r u bytes old new
  answered : (ring : RingOf) → r ≡ Ok ring → u ≡ used.Ring (length ring.list) ring.made_at → length bytes ≡ sealed_len p ring → Draws 0 bytes old new → AnswersByRing p r u bytes old new
  undrawn : (ring : RingOf) → r ≡ Ok ring → 1 ≤ sealed_len p ring → u ≡ used.Refused errors.DrawFault → bytes ≡ [] → Draws 1 [] old new → AnswersByRing p r u bytes old new
  stopped : u ≡ used.NoMemory → bytes ≡ [] → new ≡ old → AnswersByRing p r u bytes old new
  lost : (ring : RingOf) → r ≡ Ok ring → u ≡ used.NoMemory → length bytes ≡ sealed_len p ring → Draws 0 bytes old new → AnswersByRing p r u bytes old new
  unheard : (ring : RingOf) → r ≡ Ok ring → 1 ≤ sealed_len p ring → u ≡ used.NoMemory → bytes ≡ [] → Draws 1 [] old new → AnswersByRing p r u bytes old new

-- what is used where a path comes to a place, or is refused
abbrev pub IsByPlace : Result ℕ Refusal → Used → Type 0
IsByPlace r (used.Ring front made_at) = ⊥
IsByPlace r (used.Placed place) = r ≡ Ok place
IsByPlace r (used.Refused why) = (r ≡ Err (refusal why)) × (why ≢ errors.Memory)
IsByPlace r (used.BadRequest place) = ⊥
IsByPlace r used.NoMemory = Unit {0}

-- how a request is served that was read as q: it is none; no memory is found before anything is
-- done; its dates are bad; it takes a lawful path to a ring, and what follows; it takes a lawful path
-- to a place. What was drawn is what the path drew, and then what was drawn for a payload
pub data Serves (q : Result Request BadRequest) (now : ℕ) (u : Used) (drawn : List ℕ) (old new : Books) : Type 0 where
  unread : (why : BadRequest) → q ≡ Err why → u ≡ used.BadRequest why.place → drawn ≡ [] → new ≡ old → Serves q now u drawn old new
  unstarted : u ≡ used.NoMemory → drawn ≡ [] → new ≡ old → Serves q now u drawn old new
  misdated : (p : Request) → q ≡ Ok p → HasBadDates p now → u ≡ used.Refused errors.BadDates → drawn ≡ [] → new ≡ old → Serves q now u drawn old new
  by_ring : (p : Request) → q ≡ Ok p → needs_ring p ≡ true → (HasBadDates p now → ⊥) → (r : Result RingOf Refusal) → (between : DrawState) → (x : Does (CallPath (call (asking p now) (missing_of p) old.host old.store.list new.store.list) r new.host.own) old (record new { draws = between })) → (bytes : List ℕ) → drawn ≡ x.course.drawn ++ bytes → AnswersByRing p r u bytes between new.draws → Serves q now u drawn old new
  by_place : (p : Request) → q ≡ Ok p → (HasBadDates p now → ⊥) → (a : Asked) → Asks p now old.host.own new.store.list a → (r : Result ℕ Refusal) → (x : Does (PlacePath a r new.host.own) old new) → x.course.drawn ≡ drawn → IsByPlace r u → Serves q now u drawn old new

-- the list that an entry brings to the trace: the one that the pass has seen afterwards
abbrev pub IsListOf : Used → Option (List Element) → List Element → Type 0
IsListOf (used.Ring front made_at) list own = list ≡ Some own
IsListOf (used.Placed place) list own = list ≡ Some own
IsListOf (used.Refused why) list own = list ≡ None
IsListOf (used.BadRequest place) list own = list ≡ None
IsListOf used.NoMemory list own = list ≡ None

-- what a request was answered by, with the frame of a reply, unless memory wanted
abbrev pub IsAnswer : Used → List ℕ → Option (List Element) → Result Response Memory → Type 0
IsAnswer u body list (Ok a) = (a.used ≡ u) × (a.reply.items ≡ frame body) × (a.list ≡ list)
IsAnswer u body list (Err _) = Unit {0}

-- a request was served, or no memory was found for its reply
abbrev pub Served : List ℕ → Result Request BadRequest → ℕ → Result Response Memory → List ℕ → Books → Books → Type 0
Served app q now (Ok a) drawn old new =
    Serves q now a.used drawn old new
    × (a.reply.items ≡ frame (reply_to app now q a.used drawn new.host.own))
    × IsListOf a.used a.list new.host.own
Served app q now (Err _) drawn old new = Serves q now used.NoMemory drawn old new

-- what a session's requests change
pub record SessionState : Type 0 where
  pub host : HostState
  pub store : Store
  pub draws : DrawState
  -- the moments to come, where the clock tells them
  pub moments : Option (List ℕ)

abbrev pub state : HostState → Store → DrawState → Option (List ℕ) → SessionState
state host store draws moments =
    record { host = host; store = store; draws = draws; moments = moments }

-- what stands before a request, and after its steps
abbrev pub before : SessionState → Books
before s = books [] s.host s.store s.draws

abbrev pub after : List Step → SessionState → Books
after steps s = books steps s.host s.store s.draws

-- the number that is kept of a request: 0 where its body wasn't kept, and then nothing was done for it
abbrev pub IsNeed : ℕ → ℕ → Used → List Step → List ℕ → Type 0
IsNeed need asked u steps drawn =
    (need ≡ asked) ⊎ ((need ≡ 0) × (u ≡ used.NoMemory) × (steps ≡ []) × (drawn ≡ []))

-- an entry tells what the request of this body did: at the clock's next moment, or the last there is
pub record IsEntry (body : List ℕ) (e : Entry) (old new : SessionState) : Type 0 where
  pub moment : ℕ
  pub shown : ShowsMoment old.moments new.moments moment
  pub now : e.now ≡ min moment LAST
  pub need : IsNeed e.need (need_of (request_at body)) e.used e.steps e.drawn
  pub seen : e.seen ≡ length old.host.own
  pub serves : Serves (request_at body) e.now e.used e.drawn (before old) (after e.steps new)
  -- the draw gave these bytes, in calls of which some may have failed
  pub drew : (failed : ℕ) × Draws failed e.drawn old.draws new.draws
  pub grows : Extends new.host.own old.host.own
