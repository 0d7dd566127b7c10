-- The reply to a request, as a function of what it was answered by: of the ring that was used, which
-- stands for its list and moment, or of the place of the new element. Places count from 0. An
-- application name that isn't empty stands in front of every chain.
use Rattle.std.specs.Prelude.{ℕ, ◌+◌, ◌-◌, ◌^◌, ◌<◌, nat_lt, if◌then◌else◌, List, [], ◌∷◌, ◌++◌, length, take, drop, Result, Ok, Err}
use Rattle.dp_base.specs.Guid.{drawn_id}
use Rattle.key_elements.specs.declared.element.Element.{Element}
use Rattle.key_ring.specs.Listing.{listing}
use Rattle.key_ring.specs.Ring.{RingOf, ring_of}
use Rattle.node_calls.specs.declared.error.NodeError.{NodeError}
use Rattle.node_calls.specs.declared.error.NodeError.TheVariants as errors
use Rattle.dp_protector.specs.declared.refused.ProtectRefused.{ProtectRefused}
use Rattle.dp_protector.specs.declared.refused.ProtectRefused.TheVariants as protecting
use Rattle.dp_protector.specs.declared.refused.UnprotectRefused.{UnprotectRefused}
use Rattle.dp_protector.specs.declared.refused.UnprotectRefused.TheVariants as opening
use Rattle.dp_protector.specs.declared.refused.TextRefused.{TextRefused}
use Rattle.dp_protector.specs.declared.refused.TextRefused.TheVariants as texts
use Rattle.dp_protector.specs.declared.refused.TimedOpenRefused.{TimedOpenRefused}
use Rattle.dp_protector.specs.declared.refused.TimedOpenRefused.TheVariants as timed
use Rattle.dp_protector.specs.Protect.{protects}
use Rattle.dp_protector.specs.Opening.{Opening, opened}
use Rattle.dp_protector.specs.Text.{protects_text, opened_text}
use Rattle.dp_protector.specs.Timed.{TimedOpening, protects_timed, opened_timed}
use Rattle.dp_wire.specs.declared.reply.Reply.{Reply}
use Rattle.dp_wire.specs.declared.reply.Reply.TheVariants as replies
use Rattle.dp_wire.specs.declared.request.BadRequest.{BadRequest}
use Rattle.dp_wire.specs.Replies.{reply_body, flags}
use Rattle.dp_wire.specs.Chains.{used_chain}
use Rattle.dp_wire.specs.Request.{Request, Ring, Roll, Revoke, RevokeBefore, Protect, Unprotect, ProtectText, UnprotectText, ProtectTimed, UnprotectTimed, field}
use Rattle.dp_answer.specs.declared.trace.Used.{Used}
use Rattle.dp_answer.specs.declared.trace.Used.TheVariants as used
use Rattle.dp_answer.specs.Needs.{need_of, sealed_len}

-- the listing of the ring of a list that was made at the moment
abbrev pub listing_reply : List Element → ℕ → List ℕ
listing_reply es made_at = 0 ∷ field (length es) ++ listing es made_at

-- a payload that was made, as bytes or as text, or why there is none
abbrev pub protected_reply : ℕ → Result (List ℕ) ProtectRefused → List ℕ
protected_reply front (Ok payload) = 0 ∷ field front ++ payload
protected_reply front (Err (protecting.TooLong len)) = reply_body (replies.TooLong front len)
protected_reply front (Err protecting.NoDefaultKey) = reply_body (replies.NoDefaultKey front)
protected_reply front (Err protecting.DrawFault) = reply_body replies.DrawFault
protected_reply front (Err protecting.Memory) = reply_body replies.NoMemory

-- why a payload isn't opened
abbrev pub unopened_reply : ℕ → UnprotectRefused → List ℕ
unopened_reply front opening.BadHeader = reply_body (replies.BadHeader front)
unopened_reply front opening.BadVersion = reply_body (replies.BadVersion front)
unopened_reply front (opening.KeyNotFound id) = reply_body (replies.KeyNotFound front id)
unopened_reply front (opening.KeyRevoked id) = reply_body (replies.KeyRevoked front id)
unopened_reply front (opening.KeyUnusable id) = reply_body (replies.KeyUnusable front id)
unopened_reply front opening.Tampered = reply_body (replies.Tampered front)
unopened_reply front opening.Memory = reply_body replies.NoMemory

-- what a payload opens to
abbrev pub opened_reply : ℕ → Result Opening UnprotectRefused → List ℕ
opened_reply front (Ok o) = 0 ∷ field front ++ flags o.revoked o.default_changed ∷ o.plain
opened_reply front (Err why) = unopened_reply front why

abbrev pub text_reply : ℕ → Result Opening TextRefused → List ℕ
text_reply front (Ok o) = 0 ∷ field front ++ flags o.revoked o.default_changed ∷ o.plain
text_reply front (Err texts.BadText) = reply_body (replies.BadText front)
text_reply front (Err (texts.Body why)) = unopened_reply front why
text_reply front (Err texts.NotText) = reply_body (replies.NotText front)
text_reply front (Err texts.Memory) = reply_body replies.NoMemory

abbrev pub timed_reply : ℕ → Result TimedOpening TimedOpenRefused → List ℕ
timed_reply front (Ok o) = 0 ∷ field front ++ flags o.revoked o.default_changed ∷ field o.expiry ++ o.plain
timed_reply front (Err (timed.Body why)) = unopened_reply front why
timed_reply front (Err timed.Invalid) = reply_body (replies.Invalid front)
timed_reply front (Err (timed.Expired at)) = reply_body (replies.Expired front at)
timed_reply front (Err timed.Memory) = reply_body replies.NoMemory

-- by a ring, at a moment, with these bytes drawn for a payload
abbrev pub answer_by : List ℕ → ℕ → Request → RingOf → List ℕ → List ℕ
answer_by app now (Ring need) ring bytes = listing_reply ring.list ring.made_at
answer_by app now (Roll activation expiration code) ring bytes = []
answer_by app now (Revoke id reason) ring bytes = []
answer_by app now (RevokeBefore date reason) ring bytes = []
answer_by app now (Protect need chain plain) ring bytes =
    protected_reply (length ring.list) (protects ring (used_chain app chain) bytes plain)
answer_by app now (Unprotect need allow chain payload) ring bytes =
    opened_reply (length ring.list) (opened ring (used_chain app chain) payload allow)
answer_by app now (ProtectText need chain text) ring bytes =
    protected_reply (length ring.list) (protects_text ring (used_chain app chain) bytes text)
answer_by app now (UnprotectText need allow chain text) ring bytes =
    text_reply (length ring.list) (opened_text ring (used_chain app chain) text allow)
answer_by app now (ProtectTimed need chain expiry plain) ring bytes =
    protected_reply (length ring.list) (protects_timed ring (used_chain app chain) bytes expiry plain)
answer_by app now (UnprotectTimed need allow chain payload) ring bytes =
    timed_reply (length ring.list) (opened_timed ring (used_chain app chain) payload allow now)

-- the ring of a list that was made at a moment; no reply depends on when it is due
abbrev pub ring_at : List Element → ℕ → RingOf
ring_at es made_at = ring_of es made_at 0

-- the bytes drawn for a payload: the last ones
abbrev pub sealed_with : Request → RingOf → List ℕ → List ℕ
sealed_with p ring drawn = drop (length drawn - sealed_len p ring) drawn

-- by a ring that was made at the moment, or that its list is too short
abbrev pub reply_by_ring : List ℕ → ℕ → Result Request BadRequest → List Element → ℕ → List ℕ → List ℕ
reply_by_ring app now (Ok p) es made_at drawn =
    if nat_lt (length es) (need_of (Ok p)) then reply_body (replies.Behind (length es) (need_of (Ok p)))
    else answer_by app now p (ring_at es made_at) (sealed_with p (ring_at es made_at) drawn)
reply_by_ring app now (Err why) es made_at drawn = []

-- by a place; the first sixteen bytes drawn for a key are its id
abbrev pub reply_by_place : Result Request BadRequest → ℕ → List ℕ → List ℕ
reply_by_place (Ok (Roll activation expiration code)) place drawn =
    reply_body (replies.Rolled (place + 1) (record { 0 = drawn_id (take 16 drawn) }))
reply_by_place (Ok (Revoke id reason)) place drawn = reply_body (replies.Revoked (place + 1))
reply_by_place (Ok (RevokeBefore date reason)) place drawn =
    reply_body (replies.RevokedBefore (place + 1))
reply_by_place _ place drawn = []

abbrev pub refusal_reply : NodeError → List ℕ
refusal_reply errors.StoreFault = reply_body replies.StoreFault
refusal_reply errors.DrawFault = reply_body replies.DrawFault
refusal_reply (errors.WentBack had got) = reply_body (replies.WentBack had got)
refusal_reply (errors.Behind have need) = reply_body (replies.Behind have need)
refusal_reply (errors.Forked f) = reply_body (replies.Forked f.at)
refusal_reply (errors.Full count) = reply_body (replies.Full count)
refusal_reply errors.BadDates = reply_body replies.BadDates
refusal_reply errors.Memory = reply_body replies.NoMemory

-- the body of the reply to a request that was read, or wasn't, at a moment
abbrev pub reply_to : List ℕ → ℕ → Result Request BadRequest → Used → List ℕ → List Element → List ℕ
reply_to app now q (used.Ring front made_at) drawn es = reply_by_ring app now q es made_at drawn
reply_to app now q (used.Placed place) drawn es = reply_by_place q place drawn
reply_to app now q (used.Refused why) drawn es = refusal_reply why
reply_to app now q (used.BadRequest place) drawn es = reply_body (replies.BadRequest place)
reply_to app now q used.NoMemory drawn es = reply_body replies.NoMemory

-- the text in a reply, of any length
abbrev pub text_in : Reply → List ℕ
text_in (replies.Ring front listing) = listing.now
text_in (replies.Protected front payload) = payload.now
text_in (replies.ProtectedText front text) = text.now
text_in (replies.ProtectedTimed front payload) = payload.now
text_in (replies.Unprotected front revoked default_changed plain) = plain.now
text_in (replies.UnprotectedText front revoked default_changed text) = text.now
text_in (replies.UnprotectedTimed front revoked default_changed expiry plain) = plain.now
text_in _ = []

-- at most 18 bytes stand before the text of a reply, and 32 bits have the length of both
abbrev pub FitsFrame : Reply → Type 0
FitsFrame reply = length (text_in reply) + 18 < 2 ^ 32
