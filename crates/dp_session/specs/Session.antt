-- A session: requests served one after the other, and what comes in and goes out.
use Rattle.std.specs.Prelude.{◌≡◌, ℕ, Bool, true, false, ◌||◌, ◌+◌, ◌<◌, ◌≤◌, max, List, [], ◌∷◌, ◌++◌, length, take, drop, Option, Some, None, IfSome, IsSome}
use Rattle.key_elements.specs.declared.element.Element.{Element}
use Rattle.key_elements.specs.Lists.{Extends}
use Rattle.dp_base.specs.Transfer.{Writes, WritesFront}
use Rattle.dp_wire.specs.Frame.{frame, IsBodyLen}
use Rattle.dp_wire.specs.Reading.{request_at}
use Rattle.dp_session.specs.declared.end.BadPlace.{BadPlace}
use Rattle.dp_session.specs.declared.end.BadWhy.{BadWhy}
use Rattle.dp_session.specs.declared.status.Status.{Status}
use Rattle.dp_session.specs.declared.status.Status.TheVariants as status
use Rattle.dp_answer.specs.declared.trace.Entry.{Entry}
use Rattle.dp_answer.specs.declared.trace.Used.{Used}
use Rattle.dp_answer.specs.declared.trace.Used.TheVariants as used
use Rattle.std.specs.Io.KnownBytes.{Consumes}
use Rattle.dp_session.specs.Frames.{frames, AreBodies, RefusesFrame, TakesPart}
use Rattle.dp_answer.specs.Replies.{reply_to}
use Rattle.dp_answer.specs.Serving.{SessionState, IsEntry}

-- the most requests of a session
abbrev pub MOST : ℕ
MOST = 16384

-- each request was served, in order, from the state that the one before left
abbrev pub Chain : List (List ℕ) → List Entry → SessionState → SessionState → Type 0
Chain [] [] old new = new ≡ old
Chain [] (e ∷ es) old new = ⊥
Chain (b ∷ bodies) [] old new = ⊥
Chain (b ∷ bodies) (e ∷ es) old new = (mid : SessionState) × IsEntry b e old mid × Chain bodies es mid new

-- how many elements the list of an entry has; 0 where it has none
abbrev pub front_of : Used → ℕ
front_of (used.Ring front made_at) = front
front_of (used.Placed place) = place + 1
front_of (used.Refused why) = 0
front_of (used.BadRequest place) = 0
front_of used.NoMemory = 0

-- the greatest of them
abbrev pub longest : List Entry → ℕ
longest [] = 0
longest (e ∷ es) = max (front_of e.used) (longest es)

-- the frame of the reply to the request of a body, under an application name; the entry's list is a
-- front of the session's
abbrev pub reply_frame : List ℕ → List ℕ → Entry → List Element → List ℕ
reply_frame app body e list =
    frame (reply_to app e.now (request_at body) e.used e.drawn (take (front_of e.used) list))

-- all replies, one after the other
abbrev pub session_output : List ℕ → List (List ℕ) → List Entry → List Element → List ℕ
session_output app [] es list = []
session_output app (b ∷ bodies) [] list = []
session_output app (b ∷ bodies) (e ∷ es) list =
    reply_frame app b e list ++ session_output app bodies es list

-- the session's list after a request: that which the pass has seen where the request used one
abbrev pub IsListAfter : Used → List Element → List Element → List Element → Type 0
IsListAfter (used.Ring front made_at) old own new = new ≡ own
IsListAfter (used.Placed place) old own new = new ≡ own
IsListAfter (used.Refused why) old own new = new ≡ old
IsListAfter (used.BadRequest place) old own new = new ≡ old
IsListAfter used.NoMemory old own new = new ≡ old

-- what a session has taken, put and kept
pub record Outside : Type 0 where
  -- the bytes left and the bytes written, where they are told
  pub input : Option (List ℕ)
  pub output : Option (List ℕ)
  pub state : SessionState
  pub entries : List Entry
  pub list : List Element

-- a request was served: its entry was added, its list may have become the session's, and its reply
-- was written
pub record OneServed (app : List ℕ) (writes : Option (List ℕ) → Option (List ℕ) → List ℕ → Type 0) (body : List ℕ) (old new : Outside) : Type 0 where
  pub entry : Entry
  pub added : new.entries ≡ old.entries ++ entry ∷ []
  pub is : IsEntry body entry old.state new.state
  pub list : IsListAfter entry.used old.list new.state.host.own new.list
  pub written : writes old.output new.output (frame (reply_to app entry.now (request_at body) entry.used entry.drawn new.state.host.own))

-- one request more: its frame, of so many bytes, was read, and it was served
pub record OneMore (app : List ℕ) (writes : Option (List ℕ) → Option (List ℕ) → List ℕ → Type 0) (old new : Outside) (len : ℕ) : Type 0 where
  pub body : List ℕ
  pub fits : IsBodyLen (length body)
  pub read : Consumes old.input new.input (frame body)
  pub served : OneServed app writes body old new
  pub count : len ≡ length (frame body)

-- nothing more was served, and nothing but the input was touched
pub record NoMore (old new : Outside) : Type 0 where
  pub output : new.output ≡ old.output
  pub state : new.state ≡ old.state
  pub entries : new.entries ≡ old.entries
  pub list : new.list ≡ old.list

-- how a session ends at its next frame: so many bytes from its beginning
abbrev pub EndsAt : List ℕ → Status → Option BadWhy → Outside → Outside → Type 0
EndsAt app status.Done bad old new =
    NoMore old new × IfSome old.input (λ bytes. (bytes ≡ []) × (new.input ≡ Some [])) × (bad ≡ None)
EndsAt app status.BadWords bad old new = ⊥
EndsAt app status.BadInput bad old new =
    NoMore old new × IfSome bad (λ why. RefusesFrame why old.input new.input) × IsSome bad
EndsAt app status.ReadFault bad old new =
    NoMore old new × TakesPart old.input new.input × (bad ≡ None)
EndsAt app status.WriteFault bad old new = (len : ℕ) × OneMore app WritesFront old new len × (bad ≡ None)
EndsAt app status.StoreFault bad old new = ⊥
EndsAt app status.DrawFault bad old new = ⊥
EndsAt app status.NoMemory bad old new = NoMore old new × (new.input ≡ old.input) × (bad ≡ None)
EndsAt app status.Spent bad old new = ⊥
EndsAt app status.Forked bad old new = ⊥

-- what a session is asked, and what it has come to
abbrev pub outside : Option (List ℕ) → Option (List ℕ) → SessionState → List Entry → List Element → Outside
outside input output state entries list =
    record { input = input; output = output; state = state; entries = entries; list = list }

-- whether an entry has a list
abbrev pub has_list : Used → Bool
has_list (used.Ring front made_at) = true
has_list (used.Placed place) = true
has_list (used.Refused why) = false
has_list (used.BadRequest place) = false
has_list used.NoMemory = false

abbrev pub any_list : List Entry → Bool
any_list [] = false
any_list (e ∷ es) = has_list e.used || any_list es

-- the session's list is the longest that was used, and the pass has seen it; where one was used, it
-- extends what the pass had seen before
pub record IsLongest (es : List Entry) (list before after : List Element) : Type 0 where
  pub count : length list ≡ longest es
  pub seen : Extends after list
  pub grows : Extends after before
  pub starts : any_list es ≡ true → Extends list before

-- requests that were served so far: their bodies, as the bytes that were read and the entries tell,
-- and their replies
pub record SoFar (app : List ℕ) (old new : Outside) (place : ℕ) : Type 0 where
  pub bodies : List (List ℕ)
  pub fit : AreBodies bodies
  pub chain : Chain bodies new.entries old.state new.state
  pub read : Consumes old.input new.input (frames bodies)
  pub written : Writes old.output new.output (session_output app bodies new.entries new.list)
  pub list : IsLongest new.entries new.list old.state.host.own new.state.host.own
  pub count : place ≡ length (frames bodies)

-- what is left of the input, and what was taken of that, at each end of a session: a frame that was
-- read whole was served
abbrev pub EndsInput : Status → Option BadPlace → ℕ → Option (List ℕ) → Option (List ℕ) → Type 0
EndsInput status.Done bad place left after = IfSome left (λ bytes. (bytes ≡ []) × (after ≡ Some []))
EndsInput status.BadWords bad place left after = ⊥
EndsInput status.BadInput bad place left after =
    IfSome bad (λ b. (b.place ≡ place) × RefusesFrame b.why left after)
EndsInput status.ReadFault bad place left after = TakesPart left after
EndsInput status.WriteFault bad place left after = after ≡ left
EndsInput status.StoreFault bad place left after = ⊥
EndsInput status.DrawFault bad place left after = ⊥
EndsInput status.NoMemory bad place left after = after ≡ left
EndsInput status.Spent bad place left after =
    IfSome left (λ bytes. (1 ≤ length bytes) × (after ≡ Some (drop 1 bytes)))
EndsInput status.Forked bad place left after = ⊥

-- where bad input is, where there is such
abbrev pub bad_at : Option BadWhy → ℕ → Option BadPlace
bad_at (Some why) place = Some (record { place = place; why = why })
bad_at None place = None

-- so many requests passed a gate, each under its number, from 0
abbrev pub HavePassed : (ℕ → Type 0) → ℕ → Type 0
HavePassed passed count = (call : ℕ) → call < count → passed call

-- how a session ends after its last request: nothing was left, a read failed, or more was left
abbrev pub IsSpentEnd : Status → Type 0
IsSpentEnd status.Done = Unit {0}
IsSpentEnd status.ReadFault = Unit {0}
IsSpentEnd status.Spent = Unit {0}
IsSpentEnd _ = ⊥

-- what was written: all replies, or a front of them where a write failed
abbrev pub EndsOutput : Status → Option (List ℕ) → Option (List ℕ) → List ℕ → Type 0
EndsOutput status.WriteFault written after bytes = WritesFront written after bytes
EndsOutput _ written after bytes = Writes written after bytes

-- a whole session under an application name: the requests are the frames of the bytes read, in order,
-- each has its entry, and the bytes written are the replies to them
pub record IsSession (app : List ℕ) (end : Status) (bad : Option BadPlace) (old new : Outside) : Type 0 where
  pub bodies : List (List ℕ)
  pub fit : AreBodies bodies
  pub chain : Chain bodies new.entries old.state new.state
  -- what was left behind the frames
  pub left : Option (List ℕ)
  pub read : Consumes old.input left (frames bodies)
  pub ends : EndsInput end bad (length (frames bodies)) left new.input
  pub written : EndsOutput end old.output new.output (session_output app bodies new.entries new.list)
  pub list : IsLongest new.entries new.list old.state.host.own new.state.host.own
