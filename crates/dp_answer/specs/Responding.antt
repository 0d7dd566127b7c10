-- What a request is answered by, once its ring is there.
use Rattle.std.specs.Prelude.{◌≡◌, ℕ, ◌≤◌, List, [], length, Some, None, Result, IsErr}
use Rattle.dp_base.specs.Draws.{DrawState, Draws}
use Rattle.dp_base.specs.declared.want.Memory.{Memory}
use Rattle.key_ring.specs.Ring.{RingOf}
use Rattle.node_calls.specs.declared.error.NodeError.TheVariants as errors
use Rattle.dp_protector.specs.declared.refused.ProtectRefused.{ProtectRefused}
use Rattle.dp_protector.specs.declared.refused.ProtectRefused.TheVariants as protecting
use Rattle.dp_protector.specs.declared.refused.UnprotectRefused.{UnprotectRefused}
use Rattle.dp_protector.specs.declared.refused.UnprotectRefused.TheVariants as opening
use Rattle.dp_wire.specs.declared.reply.Reply.TheVariants as replies
use Rattle.dp_wire.specs.Replies.{reply_body}
use Rattle.dp_wire.specs.Request.{Request}
use Rattle.dp_answer.specs.declared.response.Response.{Response}
use Rattle.dp_answer.specs.declared.trace.Used.TheVariants as used
use Rattle.dp_answer.specs.Needs.{sealed_len}
use Rattle.dp_answer.specs.Replies.{answer_by, unopened_reply, refusal_reply}
use Rattle.dp_answer.specs.Serving.{IsAnswer}

-- an answer by the ring, whose list goes to the trace
abbrev pub IsByRing : RingOf → List ℕ → Result Response Memory → Type 0
IsByRing ring body r = IsAnswer (used.Ring (length ring.list) ring.made_at) body (Some ring.list) r

-- a request was answered by the ring, with these bytes drawn for a payload; the draw that was due failed;
-- or no memory was found before it
pub data Responds (app : List ℕ) (now : ℕ) (p : Request) (ring : RingOf) (r : Result Response Memory) (old new : DrawState) : Type 0 where
  answered : (bytes : List ℕ) → length bytes ≡ sealed_len p ring → Draws 0 bytes old new → IsByRing ring (answer_by app now p ring bytes) r → Responds app now p ring r old new
  undrawn : 1 ≤ sealed_len p ring → Draws 1 [] old new → IsAnswer (used.Refused errors.DrawFault) (refusal_reply errors.DrawFault) None r → Responds app now p ring r old new
  stopped : IsErr r → new ≡ old → Responds app now p ring r old new

-- what is answered where no payload was made
abbrev pub IsUnmade : ProtectRefused → RingOf → Result Response Memory → Type 0
IsUnmade (protecting.TooLong len) ring r = IsByRing ring (reply_body (replies.TooLong (length ring.list) len)) r
IsUnmade protecting.NoDefaultKey ring r = IsByRing ring (reply_body (replies.NoDefaultKey (length ring.list))) r
IsUnmade protecting.DrawFault ring r = IsAnswer (used.Refused errors.DrawFault) (refusal_reply errors.DrawFault) None r
IsUnmade protecting.Memory ring r = IsErr r

-- what is answered where a payload isn't opened
abbrev pub IsUnopened : UnprotectRefused → RingOf → Result Response Memory → Type 0
IsUnopened opening.Memory ring r = IsErr r
IsUnopened why ring r = IsByRing ring (unopened_reply (length ring.list) why) r
