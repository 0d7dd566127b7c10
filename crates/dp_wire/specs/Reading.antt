-- Reading a body: its fields in order. The first that is wrong is told by its place, which is the
-- length of the body less what was left as the field began.
use Rattle.std.specs.Prelude.{ℕ, zero, suc, ◌-◌, ◌&&◌, Bool, true, false, nat_le, nat_lt, if◌then◌else◌, List, [], ◌∷◌, length, take, drop, Option, Some, None, Result, Ok, Err}
use Rattle.std.specs.Int.{w32, w64, from_be_bytes}
use Rattle.std.specs.Str.{is_utf8}
use Rattle.dp_base.specs.Guid.{id_of_guid}
use Rattle.key_elements.specs.Reading.{reason_at}
use Rattle.key_elements.specs.declared.refused.ElementRefused.{ElementRefused}
use Rattle.dp_wire.specs.declared.chain.TheConstants.{MAX_WIRE_PURPOSES, MAX_WIRE_CHAIN}
use Rattle.dp_wire.specs.declared.request.BadRequest.{BadRequest}
use Rattle.dp_wire.specs.Chains.{purpose_front}
use Rattle.dp_wire.specs.Request.{Request, Ring, Roll, Revoke, RevokeBefore, Protect, Unprotect, ProtectText, UnprotectText, ProtectTimed, UnprotectTimed}

infixl 10 ◌>>=◌
-- the next field after one that is right
abbrev pub ◌>>=◌ : {A B : Type 0} → Result A BadRequest → (A → Result B BadRequest) → Result B BadRequest
(Ok x) >>= f = f x
(Err why) >>= f = Err why

-- the field that begins where so many bytes of a body of the length are left is wrong
abbrev pub wrong : ℕ → List ℕ → BadRequest
wrong len rest = record { place = len - length rest }

-- n bytes from the front, and the rest
abbrev pub bytes_at : ℕ → ℕ → List ℕ → Result (List ℕ × List ℕ) BadRequest
bytes_at len n rest = if nat_lt (length rest) n then Err (wrong len rest) else Ok (take n rest, drop n rest)

-- a number of eight bytes
unfoldable pub number_at : ℕ → List ℕ → Result (ℕ × List ℕ) BadRequest
number_at len rest = do
  bytes ← bytes_at len 8 rest
  Ok (from_be_bytes w64 bytes.0, bytes.1)

-- a code of an algorithm
unfoldable pub code_at : ℕ → List ℕ → Result (ℕ × List ℕ) BadRequest
code_at len [] = Err (wrong len [])
code_at len (c ∷ rest) = if nat_le 1 c && nat_le c 9 then Ok (c, rest) else Err (wrong len (c ∷ rest))

-- what is told of a reason
abbrev pub reason_told : BadRequest → Result (List ℕ × List ℕ) ElementRefused → Result (List ℕ × List ℕ) BadRequest
reason_told why (Ok text) = Ok text
reason_told why (Err refused) = Err why

-- a reason, one field with its length
unfoldable pub text_at : ℕ → List ℕ → Result (List ℕ × List ℕ) BadRequest
text_at len rest = reason_told (wrong len rest) (reason_at rest)

-- how many purposes a chain has
unfoldable pub count_at : ℕ → List ℕ → Result (ℕ × List ℕ) BadRequest
count_at len rest = do
  bytes ← bytes_at len 4 rest
  let n = from_be_bytes w32 bytes.0
  if nat_le 1 n && nat_le n MAX_WIRE_PURPOSES then Ok (n, bytes.1) else Err (wrong len rest)

-- what is told of a purpose, where the chain has room for so many bytes more
abbrev pub purpose_told : BadRequest → ℕ → Option (List ℕ × List ℕ) → Result (List ℕ × List ℕ) BadRequest
purpose_told why room None = Err why
purpose_told why room (Some p) = if nat_le (length p.0) room then Ok p else Err why

-- a purpose, one field with its length
unfoldable pub purpose_at : ℕ → ℕ → List ℕ → Result (List ℕ × List ℕ) BadRequest
purpose_at len room rest = purpose_told (wrong len rest) room (purpose_front rest)

-- n purposes
abbrev pub purposes_at : ℕ → ℕ → ℕ → List ℕ → Result (List (List ℕ) × List ℕ) BadRequest
purposes_at len room zero rest = Ok ([], rest)
purposes_at len room (suc n) rest = do
  first ← purpose_at len room rest
  others ← purposes_at len (room - length first.0) n first.1
  Ok (first.0 ∷ others.0, others.1)

-- a chain: the count, and so many purposes
unfoldable pub chain_at : ℕ → List ℕ → Result (List (List ℕ) × List ℕ) BadRequest
chain_at len rest = do
  count ← count_at len rest
  purposes_at len MAX_WIRE_CHAIN count.0 count.1

-- whether revoked keys are allowed
unfoldable pub flag_at : ℕ → List ℕ → Result (Bool × List ℕ) BadRequest
flag_at len [] = Err (wrong len [])
flag_at len (zero ∷ rest) = Ok (false, rest)
flag_at len (suc zero ∷ rest) = Ok (true, rest)
flag_at len (suc (suc b) ∷ rest) = Err (wrong len (suc (suc b) ∷ rest))

-- all that is left, a text
unfoldable pub whole_text_at : ℕ → List ℕ → Result (List ℕ) BadRequest
whole_text_at len rest = if is_utf8 rest then Ok rest else Err (wrong len rest)

-- nothing follows
unfoldable pub ends : ℕ → Request → List ℕ → Result Request BadRequest
ends len q [] = Ok q
ends len q (b ∷ rest) = Err (wrong len (b ∷ rest))

unfoldable pub ring_at : ℕ → List ℕ → Result Request BadRequest
ring_at len rest = do
  need ← number_at len rest
  ends len (Ring need.0) need.1

unfoldable pub roll_at : ℕ → List ℕ → Result Request BadRequest
roll_at len rest = do
  activation ← number_at len rest
  expiration ← number_at len activation.1
  alg ← code_at len expiration.1
  ends len (Roll activation.0 expiration.0 alg.0) alg.1

unfoldable pub revoke_at : ℕ → List ℕ → Result Request BadRequest
revoke_at len rest = do
  id ← bytes_at len 16 rest
  reason ← text_at len id.1
  ends len (Revoke (id_of_guid id.0) reason.0) reason.1

unfoldable pub revoke_before_at : ℕ → List ℕ → Result Request BadRequest
revoke_before_at len rest = do
  date ← number_at len rest
  reason ← text_at len date.1
  ends len (RevokeBefore date.0 reason.0) reason.1

-- a need and a chain
unfoldable pub sealing_at : ℕ → List ℕ → Result (ℕ × List (List ℕ) × List ℕ) BadRequest
sealing_at len rest = do
  need ← number_at len rest
  chain ← chain_at len need.1
  Ok (need.0, chain.0, chain.1)

-- a need, whether revoked keys are allowed, and a chain
unfoldable pub opening_at : ℕ → List ℕ → Result (ℕ × Bool × List (List ℕ) × List ℕ) BadRequest
opening_at len rest = do
  need ← number_at len rest
  allow ← flag_at len need.1
  chain ← chain_at len allow.1
  Ok (need.0, allow.0, chain.0, chain.1)

unfoldable pub protect_at : ℕ → List ℕ → Result Request BadRequest
protect_at len rest = do
  s ← sealing_at len rest
  Ok (Protect s.0 s.1 s.2)

unfoldable pub unprotect_at : ℕ → List ℕ → Result Request BadRequest
unprotect_at len rest = do
  o ← opening_at len rest
  Ok (Unprotect o.0 o.1 o.2 o.3)

unfoldable pub protect_text_at : ℕ → List ℕ → Result Request BadRequest
protect_text_at len rest = do
  s ← sealing_at len rest
  text ← whole_text_at len s.2
  Ok (ProtectText s.0 s.1 text)

unfoldable pub unprotect_text_at : ℕ → List ℕ → Result Request BadRequest
unprotect_text_at len rest = do
  o ← opening_at len rest
  Ok (UnprotectText o.0 o.1 o.2 o.3)

unfoldable pub protect_timed_at : ℕ → List ℕ → Result Request BadRequest
protect_timed_at len rest = do
  s ← sealing_at len rest
  expiry ← number_at len s.2
  Ok (ProtectTimed s.0 s.1 expiry.0 expiry.1)

unfoldable pub unprotect_timed_at : ℕ → List ℕ → Result Request BadRequest
unprotect_timed_at len rest = do
  o ← opening_at len rest
  Ok (UnprotectTimed o.0 o.1 o.2 o.3)

-- the request of a whole body; an empty body, and one of another kind, is wrong at its kind
unfoldable pub request_at : List ℕ → Result Request BadRequest
request_at [] = Err (record { place = 0 })
request_at (zero ∷ rest) = Err (record { place = 0 })
request_at (suc zero ∷ rest) = ring_at (suc (length rest)) rest
request_at (suc (suc zero) ∷ rest) = roll_at (suc (length rest)) rest
request_at (suc (suc (suc zero)) ∷ rest) = revoke_at (suc (length rest)) rest
request_at (suc (suc (suc (suc zero))) ∷ rest) = revoke_before_at (suc (length rest)) rest
request_at (suc (suc (suc (suc (suc zero)))) ∷ rest) = protect_at (suc (length rest)) rest
request_at (suc (suc (suc (suc (suc (suc zero))))) ∷ rest) = unprotect_at (suc (length rest)) rest
request_at (suc (suc (suc (suc (suc (suc (suc zero)))))) ∷ rest) = protect_text_at (suc (length rest)) rest
request_at (suc (suc (suc (suc (suc (suc (suc (suc zero))))))) ∷ rest) = unprotect_text_at (suc (length rest)) rest
request_at (suc (suc (suc (suc (suc (suc (suc (suc (suc zero)))))))) ∷ rest) = protect_timed_at (suc (length rest)) rest
request_at (suc (suc (suc (suc (suc (suc (suc (suc (suc (suc zero))))))))) ∷ rest) = unprotect_timed_at (suc (length rest)) rest
request_at (suc (suc (suc (suc (suc (suc (suc (suc (suc (suc (suc kind)))))))))) ∷ rest) = Err (record { place = 0 })
