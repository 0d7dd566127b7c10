-- Reading a record: its fields in order, of which the first that is wrong decides.
use Rattle.std.specs.Prelude.{◌≡◌, ℕ, ◌<◌, zero, suc, List, [], ◌∷◌, length, take, drop, slice_index, Result, Ok, Err, nat_lt, if◌then◌else◌}
use Rattle.std.specs.Int.{w64, from_be_bytes}
use Rattle.std.specs.Str.{is_utf8}
use Rattle.dp_base.specs.declared.ticks.TheConstants.{MAX_TICKS}
use Rattle.dp_base.specs.Guid.{id_of_guid}
use Rattle.dp_base.specs.SevenBit.{seven_at}
use Rattle.dp_base.specs.declared.seven_bit.SevenBit.{SevenBit}
use Rattle.dp_base.specs.declared.seven_bit.SevenBit.TheVariants as sevens
use Rattle.key_elements.specs.declared.element.KeyRecord.{KeyRecord}
use Rattle.key_elements.specs.declared.element.Element.{Element}
use Rattle.key_elements.specs.declared.element.Element.TheVariants.{Key, RevokeKey, RevokeBefore}
use Rattle.key_elements.specs.declared.refused.ElementRefused.{ElementRefused}
use Rattle.key_elements.specs.declared.refused.ElementRefused.TheVariants.{Cut, UnknownKind, BadDate, BadReason}
use Rattle.key_elements.specs.declared.reason.TheConstants.{MAX_REASON}
use Rattle.key_elements.specs.declared.list.TheConstants.{MAX_ELEMENTS}
use Rattle.key_elements.specs.Record.{AreRecords}

infixl 10 ◌>>=◌
-- the next field after one that is right
abbrev pub ◌>>=◌ : {A B : Type 0} → Result A ElementRefused → (A → Result B ElementRefused) → Result B ElementRefused
(Ok x) >>= f = f x
(Err why) >>= f = Err why

-- n bytes from the front, and the rest
abbrev pub bytes_at : ℕ → List ℕ → Result (List ℕ × List ℕ) ElementRefused
bytes_at n bytes = if nat_lt (length bytes) n then Err Cut else Ok (take n bytes, drop n bytes)

-- a date of eight bytes, at most the greatest
unfoldable pub date_at : List ℕ → Result (ℕ × List ℕ) ElementRefused
date_at bytes = do
  field ← bytes_at 8 bytes
  let d = from_be_bytes w64 field.0
  if nat_lt MAX_TICKS d then Err BadDate else Ok (d, field.1)

-- what is told of a length that is no number in groups of 7 bits
abbrev pub length_refused : SevenBit → ElementRefused
length_refused sevens.Cut = Cut
length_refused sevens.Overlong = BadReason

-- a length that was read, which is at most the greatest of a reason
abbrev pub length_read : Result (ℕ × List ℕ) SevenBit → Result (ℕ × List ℕ) ElementRefused
length_read (Ok n) = if nat_lt MAX_REASON n.0 then Err BadReason else Ok n
length_read (Err why) = Err (length_refused why)

-- the length of a reason
unfoldable pub length_at : List ℕ → Result (ℕ × List ℕ) ElementRefused
length_at bytes = length_read (seven_at bytes)

-- a reason: its length, and so many bytes that are a text
unfoldable pub reason_at : List ℕ → Result (List ℕ × List ℕ) ElementRefused
reason_at bytes = do
  len ← length_at bytes
  text ← bytes_at len.0 len.1
  if is_utf8 text.0 then Ok text else Err BadReason

-- the fields of a key record behind its kind
unfoldable pub key_at : List ℕ → Result (KeyRecord × List ℕ) ElementRefused
key_at bytes = do
  id ← bytes_at 16 bytes
  creation ← date_at id.1
  activation ← date_at creation.1
  expiration ← date_at activation.1
  alg ← bytes_at 1 expiration.1
  material ← bytes_at 64 alg.1
  Ok (
    record {
      id = record { 0 = id_of_guid id.0 };
      creation = creation.0;
      activation = activation.0;
      expiration = expiration.0;
      alg = slice_index alg.0 0;
      material = material.0;
    },
    material.1,
  )

-- the fields of a key's revocation behind its kind
unfoldable pub revocation_at : List ℕ → Result (Element × List ℕ) ElementRefused
revocation_at bytes = do
  id ← bytes_at 16 bytes
  d ← date_at id.1
  reason ← reason_at d.1
  Ok (RevokeKey (record { 0 = id_of_guid id.0 }) d.0 reason.0, reason.1)

-- the fields of a mass revocation behind its kind
unfoldable pub mass_revocation_at : List ℕ → Result (Element × List ℕ) ElementRefused
mass_revocation_at bytes = do
  d ← date_at bytes
  reason ← reason_at d.1
  Ok (RevokeBefore d.0 reason.0, reason.1)

-- the element at the front, and the bytes after its record
unfoldable pub element_at : List ℕ → Result (Element × List ℕ) ElementRefused
element_at [] = Err Cut
element_at (zero ∷ rest) = Err UnknownKind
element_at (suc zero ∷ rest) = do
  key ← key_at rest
  Ok (Key key.0, key.1)
element_at (suc (suc zero) ∷ rest) = revocation_at rest
element_at (suc (suc (suc zero)) ∷ rest) = mass_revocation_at rest
element_at (suc (suc (suc (suc kind))) ∷ rest) = Err UnknownKind

-- whole records stand before the place, fewer than the greatest number, and at the place an element
-- is refused for this reason
pub record IsRefusedAt (bytes : List ℕ) (place : ℕ) (why : ElementRefused) : Type 0 where
  pub before : List Element
  pub records : AreRecords (take place bytes) before
  pub few : length before < MAX_ELEMENTS
  pub left : place < length bytes
  pub refused : element_at (drop place bytes) ≡ Err why

-- as many records as a list may have stand before the place, where bytes are left
pub record IsTooMany (bytes : List ℕ) (place : ℕ) : Type 0 where
  pub before : List Element
  pub records : AreRecords (take place bytes) before
  pub full : length before ≡ MAX_ELEMENTS
  pub left : place < length bytes
