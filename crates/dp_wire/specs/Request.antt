-- Requests, and the bytes of their bodies, one spelling each: a kind and its fields. A number is
-- written high byte first (docs/FORMATS.md, "Frames and requests").
use Rattle.std.specs.Prelude.{◌≡◌, ℕ, ◌<◌, ◌^◌, Bool, if◌then◌else◌, IsTrue, List, [], ◌∷◌, ◌++◌}
use Rattle.std.specs.Int.{w64, to_be_bytes}
use Rattle.std.specs.Str.{is_utf8}
use Rattle.dp_base.specs.Blocks.{AreBytes}
use Rattle.dp_base.specs.Codes.{IsCode}
use Rattle.dp_base.specs.Guid.{guid}
use Rattle.key_elements.specs.Reason.{IsReason}
use Rattle.key_elements.specs.Record.{reason_field}
use Rattle.dp_wire.specs.Chains.{IsWireChain, chain_field, chain_of}
use Rattle.dp_wire.specs.declared.request.RequestView.{RequestView}
use Rattle.dp_wire.specs.declared.request.RequestView.TheVariants as views

pub data Request : Type 0 where
  Ring : ℕ → Request
  Roll : ℕ → ℕ → ℕ → Request
  Revoke : ℕ → List ℕ → Request
  RevokeBefore : ℕ → List ℕ → Request
  Protect : ℕ → List (List ℕ) → List ℕ → Request
  Unprotect : ℕ → Bool → List (List ℕ) → List ℕ → Request
  ProtectText : ℕ → List (List ℕ) → List ℕ → Request
  UnprotectText : ℕ → Bool → List (List ℕ) → List ℕ → Request
  ProtectTimed : ℕ → List (List ℕ) → ℕ → List ℕ → Request
  UnprotectTimed : ℕ → Bool → List (List ℕ) → List ℕ → Request

-- the request that is viewed
abbrev pub request_of : RequestView → Request
request_of (views.Ring need) = Ring need
request_of (views.Roll activation expiration alg) = Roll activation expiration alg
request_of (views.Revoke id reason) = Revoke id.0 reason.now
request_of (views.RevokeBefore date reason) = RevokeBefore date reason.now
request_of (views.Protect need chain plain) = Protect need (chain_of chain.bytes.now) plain.now
request_of (views.Unprotect need allow chain payload) = Unprotect need allow (chain_of chain.bytes.now) payload.now
request_of (views.ProtectText need chain text) = ProtectText need (chain_of chain.bytes.now) text.now
request_of (views.UnprotectText need allow chain text) = UnprotectText need allow (chain_of chain.bytes.now) text.now
request_of (views.ProtectTimed need chain expiry plain) = ProtectTimed need (chain_of chain.bytes.now) expiry plain.now
request_of (views.UnprotectTimed need allow chain payload) = UnprotectTimed need allow (chain_of chain.bytes.now) payload.now

-- the purposes of its chain; none where its kind has no chain
abbrev pub purposes_in : Request → List (List ℕ)
purposes_in (Ring need) = []
purposes_in (Roll activation expiration alg) = []
purposes_in (Revoke id reason) = []
purposes_in (RevokeBefore date reason) = []
purposes_in (Protect need chain plain) = chain
purposes_in (Unprotect need allow chain payload) = chain
purposes_in (ProtectText need chain text) = chain
purposes_in (UnprotectText need allow chain text) = chain
purposes_in (ProtectTimed need chain expiry plain) = chain
purposes_in (UnprotectTimed need allow chain payload) = chain

-- a field of eight bytes
abbrev pub field : ℕ → List ℕ
field n = to_be_bytes w64 n

-- whether revoked keys are allowed
abbrev pub flag : Bool → ℕ
flag allow = if allow then 1 else 0

-- the fields that the kinds with a chain begin with
abbrev pub sealing_fields : ℕ → List (List ℕ) → List ℕ
sealing_fields need chain = field need ++ chain_field chain

abbrev pub opening_fields : ℕ → Bool → List (List ℕ) → List ℕ
opening_fields need allow chain = field need ++ flag allow ∷ chain_field chain

-- the body of a request
abbrev pub body_of : Request → List ℕ
body_of (Ring need) = 1 ∷ field need
body_of (Roll activation expiration alg) = 2 ∷ field activation ++ field expiration ++ alg ∷ []
body_of (Revoke id reason) = 3 ∷ guid id ++ reason_field reason
body_of (RevokeBefore date reason) = 4 ∷ field date ++ reason_field reason
body_of (Protect need chain plain) = 5 ∷ sealing_fields need chain ++ plain
body_of (Unprotect need allow chain payload) = 6 ∷ opening_fields need allow chain ++ payload
body_of (ProtectText need chain text) = 7 ∷ sealing_fields need chain ++ text
body_of (UnprotectText need allow chain text) = 8 ∷ opening_fields need allow chain ++ text
body_of (ProtectTimed need chain expiry plain) = 9 ∷ sealing_fields need chain ++ field expiry ++ plain
body_of (UnprotectTimed need allow chain payload) = 10 ∷ opening_fields need allow chain ++ payload

-- what the fields can hold that each kind with a chain has
pub record IsSealing (need : ℕ) (chain : List (List ℕ)) : Type 0 where
  pub fits : need < 2 ^ 64
  pub lawful : IsWireChain chain

-- what a request can hold. A date above the greatest can be asked for, and is refused later
abbrev pub IsRequest : Request → Type 0
IsRequest (Ring need) = need < 2 ^ 64
IsRequest (Roll activation expiration alg) = (activation < 2 ^ 64) × (expiration < 2 ^ 64) × IsCode alg
IsRequest (Revoke id reason) = (id < 2 ^ 128) × IsReason reason
IsRequest (RevokeBefore date reason) = (date < 2 ^ 64) × IsReason reason
IsRequest (Protect need chain plain) = IsSealing need chain × AreBytes plain
IsRequest (Unprotect need allow chain payload) = IsSealing need chain × AreBytes payload
IsRequest (ProtectText need chain text) = IsSealing need chain × IsTrue (is_utf8 text)
IsRequest (UnprotectText need allow chain text) = IsSealing need chain × AreBytes text
IsRequest (ProtectTimed need chain expiry plain) = IsSealing need chain × (expiry < 2 ^ 64) × AreBytes plain
IsRequest (UnprotectTimed need allow chain payload) = IsSealing need chain × AreBytes payload

-- the bytes are the body of the request
abbrev pub IsBody : List ℕ → Request → Type 0
IsBody bytes q = IsRequest q × (bytes ≡ body_of q)
