-- What one request comes to, from the bytes of its body to the frame of its reply.
use Rattle.std.specs.Prelude.{◌≡◌, ℕ, List, length, Option, Some, None, Result, Ok, Err}
use Rattle.std.specs.declared.vec.Vec.{Vec}
use Rattle.std.specs.declared.alloc.Global.{Global}
use Rattle.dp_base.specs.declared.want.Memory.{Memory}
use Rattle.key_elements.specs.declared.element.Element.{Element}
use Rattle.key_elements.specs.Lists.{Extends}
use Rattle.ring_world.specs.declared.step.Step.{Step}
use Rattle.dp_wire.specs.declared.reply.Reply.TheVariants as replies
use Rattle.dp_wire.specs.Frame.{frame}
use Rattle.dp_wire.specs.Reading.{request_at}
use Rattle.dp_wire.specs.Replies.{reply_body}
use Rattle.dp_answer.specs.declared.response.Response.{Response}
use Rattle.dp_session.specs.declared.reading.Unread.{Unread}
use Rattle.dp_session.specs.declared.reading.Unread.TheVariants as unread
use Rattle.dp_session.specs.declared.serving.Halt.{Halt}
use Rattle.dp_session.specs.declared.serving.Exchange.{Exchange}
use Rattle.dp_session.specs.declared.status.Status.TheVariants as status
use Rattle.dp_answer.specs.declared.trace.Used.TheVariants as used
use Rattle.dp_answer.specs.Replies.{reply_to}
use Rattle.dp_answer.specs.Needs.{need_of}
use Rattle.dp_answer.specs.Serving.{SessionState, Serves, before, after, IsNeed, IsListOf}

-- the exchange of a request that was answered, or found no memory
abbrev pub exchange_of : Result Response Memory → ℕ → ℕ → ℕ → List Step → List ℕ → Exchange
exchange_of (Ok a) now need seen steps drawn = record {
  entry = record { now = now; need = need; seen = seen; used = a.used; steps = steps; drawn = drawn };
  reply = Some a.reply;
  list = a.list;
}
exchange_of (Err _) now need seen steps drawn = record {
  entry = record { now = now; need = need; seen = seen; used = used.NoMemory; steps = steps; drawn = drawn };
  reply = None;
  list = None;
}

-- the frame of the reply; where memory was wanted, that of the reply that says so
abbrev pub reply_bytes : Option (Vec ℕ Global) → List ℕ
reply_bytes (Some bytes) = bytes.items
reply_bytes None = frame (reply_body replies.NoMemory)

-- a session's list, where an exchange may bring a longer one
abbrev pub list_after : Option (List Element) → List Element → List Element
list_after (Some longer) list = longer
list_after None list = list

-- how a session ends where no frame was read
abbrev pub halt_of : Unread → Halt
halt_of (unread.Bad why) = record { status = status.BadInput; bad = Some why }
halt_of unread.Failed = record { status = status.ReadFault; bad = None }

-- the exchange is that of the request of the body, at the moment
pub record IsExchange (app body : List ℕ) (now : ℕ) (t : Exchange) (old new : SessionState) : Type 0 where
  pub moment : t.entry.now ≡ now
  pub need : IsNeed t.entry.need (need_of (request_at body)) t.entry.used t.entry.steps t.entry.drawn
  pub seen : t.entry.seen ≡ length old.host.own
  pub serves : Serves (request_at body) now t.entry.used t.entry.drawn (before old) (after t.entry.steps new)
  pub grows : Extends new.host.own old.host.own
  pub reply : reply_bytes t.reply ≡ frame (reply_to app now (request_at body) t.entry.used t.entry.drawn new.host.own)
  pub list : IsListOf t.entry.used t.list new.host.own
