-- What a payload opens to by a ring, and why it doesn't open.
use Rattle.std.specs.Prelude.{◌≡◌, ◌⊎◌, ℕ, ◌-◌, ◌/◌, ◌%◌, ◌==◌, ◌&&◌, Bool, true, not, nat_le, nat_lt, if◌then◌else◌, bytes_eq, List, length, take, drop, Option, Some, None, Result, Ok, Err}
use Rattle.dp_base.specs.declared.alg.Alg.{Alg}
use Rattle.dp_base.specs.declared.alg.Alg.TheVariants.{Cbc256, Cbc512, Gcm}
use Rattle.dp_base.specs.declared.key_id.KeyId.{KeyId}
use Rattle.dp_base.specs.Guid.{id_of_guid}
use Rattle.aes_block.specs.Cipher.{aes_cipher, aes_decipher}
use Rattle.cbc_mode.specs.Cbc.{plaintext}
use Rattle.cbc_mode.specs.Pad.{last_byte}
use Rattle.gcm_mode.specs.Ctr.{ctr}
use Rattle.context_header.specs.Keys.{KeyPair}
use Rattle.key_elements.specs.declared.element.KeyRecord.{KeyRecord}
use Rattle.payload_view.specs.Payload.{Parts, first_word, magic, parts_of, plain_len}
use Rattle.dp_encryptor.specs.Body.{enciphered, subkeys, tag}
use Rattle.purpose_chain.specs.Chain.{aad}
use Rattle.key_ring.specs.Ring.{RingOf}
use Rattle.key_ring.specs.State.{State, lookup_of}
use Rattle.dp_protector.specs.declared.opened.Opened.{Opened}
use Rattle.dp_protector.specs.declared.refused.UnprotectRefused.{UnprotectRefused}
use Rattle.dp_protector.specs.declared.refused.UnprotectRefused.TheVariants.{BadHeader, BadVersion, KeyNotFound, KeyRevoked, KeyUnusable, Tampered, Memory}
use Rattle.dp_protector.specs.Algorithms.{alg_of}
use Rattle.dp_protector.specs.Payload.{secret}

-- the bytes before as many as the last one says
abbrev pub before_padding : List ℕ → List ℕ
before_padding bytes = take (length bytes - last_byte bytes) bytes

-- the one text that an enciphered part can be of
abbrev pub deciphered : Alg → List ℕ → List ℕ → List ℕ → List ℕ
deciphered (Cbc256 size) key iv c = before_padding (plaintext (aes_decipher key) iv c)
deciphered (Cbc512 size) key iv c = before_padding (plaintext (aes_decipher key) iv c)
deciphered (Gcm size) key iv c = ctr (aes_cipher key) iv c

-- whether an enciphered part is a positive number of whole blocks; in counter mode any is right
abbrev pub has_whole_blocks : Alg → List ℕ → Bool
has_whole_blocks (Cbc256 size) c = nat_lt 0 (length c) && (length c % 16 == 0)
has_whole_blocks (Cbc512 size) c = nat_lt 0 (length c) && (length c % 16 == 0)
has_whole_blocks (Gcm size) c = true

-- whether a body has its tag, and its enciphered part is that of the text
abbrev pub is_body_of : Alg → KeyPair → Parts → List ℕ → Bool
is_body_of alg keys parts text =
    has_whole_blocks alg parts.enciphered
    && bytes_eq parts.tag (tag alg keys parts.iv parts.enciphered)
    && bytes_eq parts.enciphered (enciphered alg keys.encryption parts.iv text)

-- the text of which this is the body, if there is one
abbrev pub text_if : Bool → List ℕ → Option (List ℕ)
text_if is text = if is then Some text else None

unfoldable pub open_parts : Alg → KeyPair → Parts → Option (List ℕ)
open_parts alg keys parts =
    let text = deciphered alg keys.encryption parts.iv parts.enciphered in
    text_if (is_body_of alg keys parts text) text

-- the text of a body under a key, for a chain; there is none where the body has no room for its parts
unfoldable pub open_body : Alg → KeyRecord → List (List ℕ) → List ℕ → Option (List ℕ)
open_body alg key chain body =
    if nat_lt (length body) (plain_len alg) then None
    else open_parts alg (subkeys (secret alg key) (aad key.id.0 chain) (parts_of alg body).modifier) (parts_of alg body)

-- what is opened, as clauses see it
pub record Opening : Type 0 where
  pub plain : List ℕ
  pub revoked : Bool
  pub default_changed : Bool

abbrev pub opening : Opened → Opening
opening o = record { plain = o.plain.items; revoked = o.revoked; default_changed = o.default_changed }

-- what is told of a body and of its key
abbrev pub opening_of : State → Option (List ℕ) → Result Opening UnprotectRefused
opening_of s None = Err Tampered
opening_of s (Some text) = Ok (record { plain = text; revoked = s.revoked; default_changed = not s.is_default })

-- under a key, by its algorithm
abbrev pub opened_for : Option Alg → State → KeyId → List (List ℕ) → List ℕ → Result Opening UnprotectRefused
opened_for None s id chain body = Err (KeyUnusable id)
opened_for (Some alg) s id chain body = opening_of s (open_body alg s.key chain body)

-- under a key of the ring; a revoked one opens where that is allowed
abbrev pub opened_under : Option State → Bool → KeyId → List (List ℕ) → List ℕ → Result Opening UnprotectRefused
opened_under None allow id chain body = Err (KeyNotFound id)
opened_under (Some s) allow id chain body =
    if s.revoked && not allow then Err (KeyRevoked id) else opened_for (alg_of s.key.alg) s id chain body

-- whether a payload has the first bytes of one, and whether its version is 0
abbrev pub has_head : List ℕ → Bool
has_head payload = nat_le 20 (length payload) && (first_word payload / 16 == magic / 16)

abbrev pub has_version : List ℕ → Bool
has_version payload = first_word payload % 16 == 0

-- the id in the head of a payload
abbrev pub id_in : List ℕ → KeyId
id_in payload = record { 0 = id_of_guid (take 16 (drop 4 payload)) }

-- what a payload opens to by the ring, for a chain, or why it doesn't open: the first that holds
unfoldable pub opened : RingOf → List (List ℕ) → List ℕ → Bool → Result Opening UnprotectRefused
opened ring chain payload allow =
    if not (has_head payload) then Err BadHeader
    else if not (has_version payload) then Err BadVersion
    else opened_under (lookup_of ring.list ring.made_at (id_in payload).0) allow (id_in payload) chain (drop 20 payload)

-- memory is wanted for a text alone, or for a body that turns out to have none
abbrev pub WantsMemory : {X : Type 0} → Result X UnprotectRefused → Type 0
WantsMemory (Ok x) = Unit {0}
WantsMemory (Err BadHeader) = ⊥
WantsMemory (Err BadVersion) = ⊥
WantsMemory (Err (KeyNotFound id)) = ⊥
WantsMemory (Err (KeyRevoked id)) = ⊥
WantsMemory (Err (KeyUnusable id)) = ⊥
WantsMemory (Err Tampered) = Unit {0}
WantsMemory (Err Memory) = ⊥

-- the answer is what is due, but for want of memory
abbrev pub IsDueAnswer : {X Y : Type 0} → (X → Y) → Result X UnprotectRefused → Result Y UnprotectRefused → Type 0
IsDueAnswer view (Ok x) due = due ≡ Ok (view x)
IsDueAnswer view (Err why) due = (due ≡ Err why) ⊎ ((why ≡ Memory) × WantsMemory due)
