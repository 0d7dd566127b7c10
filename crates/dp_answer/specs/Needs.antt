-- What a request needs of its node, and what it draws for a payload.
use Rattle.std.specs.Prelude.{ℕ, ◌<◌, ◌^◌, ◌&&◌, Bool, true, false, nat_lt, if◌then◌else◌, List, length, Option, Some, None, Result, Ok, Err}
use Rattle.dp_base.specs.declared.ticks.TheConstants.{MAX_TICKS}
use Rattle.dp_base.specs.declared.key_id.KeyId.{KeyId}
use Rattle.key_ring.specs.Ring.{RingOf}
use Rattle.repo_keeper.specs.Made.{AreBadDates}
use Rattle.dp_protector.specs.declared.protect.TheConstants.{MAX_PLAIN}
use Rattle.dp_protector.specs.declared.text.TheConstants.{MAX_TEXT}
use Rattle.dp_protector.specs.declared.timed.TheConstants.{MAX_TIMED}
use Rattle.dp_protector.specs.Opening.{has_head, has_version, id_in}
use Rattle.dp_protector.specs.Protect.{draw_len}
use Rattle.dp_protector.specs.Text.{payload_of}
use Rattle.dp_wire.specs.declared.request.BadRequest.{BadRequest}
use Rattle.dp_wire.specs.Request.{Request, Ring, Roll, Revoke, RevokeBefore, Protect, Unprotect, ProtectText, UnprotectText, ProtectTimed, UnprotectTimed}

-- how many elements a request asks for
abbrev pub need_of : Result Request BadRequest → ℕ
need_of (Ok (Ring need)) = need
need_of (Ok (Roll activation expiration code)) = 0
need_of (Ok (Revoke id reason)) = 0
need_of (Ok (RevokeBefore date reason)) = 0
need_of (Ok (Protect need chain plain)) = need
need_of (Ok (Unprotect need allow chain payload)) = need
need_of (Ok (ProtectText need chain text)) = need
need_of (Ok (UnprotectText need allow chain text)) = need
need_of (Ok (ProtectTimed need chain expiry plain)) = need
need_of (Ok (UnprotectTimed need allow chain payload)) = need
need_of (Err why) = 0

-- whether a request is answered by a ring
abbrev pub needs_ring : Request → Bool
needs_ring (Ring need) = true
needs_ring (Roll activation expiration code) = false
needs_ring (Revoke id reason) = false
needs_ring (RevokeBefore date reason) = false
needs_ring (Protect need chain plain) = true
needs_ring (Unprotect need allow chain payload) = true
needs_ring (ProtectText need chain text) = true
needs_ring (UnprotectText need allow chain text) = true
needs_ring (ProtectTimed need chain expiry plain) = true
needs_ring (UnprotectTimed need allow chain payload) = true

-- the id of the key in the head of a payload, where it has one
abbrev pub named_in : List ℕ → Option KeyId
named_in payload = if has_head payload && has_version payload then Some (id_in payload) else None

abbrev pub named_by : Option (List ℕ) → Option KeyId
named_by None = None
named_by (Some payload) = named_in payload

-- the payload that is to be opened, of a text the one that it is of, if it is of one
abbrev pub payload_in : Request → Option (List ℕ)
payload_in (Unprotect need allow chain payload) = Some payload
payload_in (UnprotectText need allow chain text) = payload_of text
payload_in (UnprotectTimed need allow chain payload) = Some payload
payload_in _ = None

-- the id of the key without which the node tries once more
abbrev pub missing_of : Request → Option KeyId
missing_of p = named_by (payload_in p)

-- what a request is to open is shorter than 2^32 bytes
abbrev pub IsShort : Request → Type 0
IsShort (Unprotect need allow chain payload) = length payload < 2 ^ 32
IsShort (UnprotectText need allow chain text) = length text < 2 ^ 32
IsShort (UnprotectTimed need allow chain payload) = length payload < 2 ^ 32
IsShort _ = Unit {0}

-- how many bytes are drawn by the ring for a payload of these bytes: none where they are too long
abbrev pub drawn_within : ℕ → List ℕ → RingOf → ℕ
drawn_within most bytes ring = if nat_lt most (length bytes) then 0 else draw_len ring

-- how many bytes a request draws by the ring for its payload
abbrev pub sealed_len : Request → RingOf → ℕ
sealed_len (Protect need chain plain) ring = drawn_within MAX_PLAIN plain ring
sealed_len (ProtectText need chain text) ring = drawn_within MAX_TEXT text ring
sealed_len (ProtectTimed need chain expiry plain) ring = drawn_within MAX_TIMED plain ring
sealed_len _ ring = 0

-- the dates that a request names are out of order or too late
abbrev pub HasBadDates : Request → ℕ → Type 0
HasBadDates (Roll activation expiration code) now = AreBadDates now activation expiration
HasBadDates (RevokeBefore date reason) now = MAX_TICKS < date
HasBadDates (ProtectTimed need chain expiry plain) now = MAX_TICKS < expiry
HasBadDates _ now = ⊥
