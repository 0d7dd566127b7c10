-- Records of elements: the bytes of each element, one spelling each. A number is written high byte
-- first (docs/FORMATS.md, "Element records").
use Rattle.std.specs.Prelude.{◌≡◌, ℕ, ◌<◌, ◌≤◌, ◌^◌, List, ◌∷◌, ◌++◌, length}
use Rattle.std.specs.List.{flat_map, AllByRecursion}
use Rattle.std.specs.Int.{w64, to_be_bytes}
use Rattle.dp_base.specs.declared.ticks.TheConstants.{MAX_TICKS}
use Rattle.dp_base.specs.Blocks.{AreBytes}
use Rattle.dp_base.specs.Guid.{guid}
use Rattle.dp_base.specs.SevenBit.{seven}
use Rattle.key_elements.specs.declared.element.KeyRecord.{KeyRecord}
use Rattle.key_elements.specs.declared.element.Element.{Element}
use Rattle.key_elements.specs.declared.element.Element.TheVariants.{Key, RevokeKey, RevokeBefore}
use Rattle.key_elements.specs.Reason.{IsReason}
use Rattle.key_elements.specs.declared.list.TheConstants.{MAX_ELEMENTS}

-- a date: eight bytes
abbrev pub date : ℕ → List ℕ
date d = to_be_bytes w64 d

-- the id, three dates, the code and the material: 105 bytes
unfoldable pub key_fields : KeyRecord → List ℕ
key_fields k =
    guid k.id.0 ++ date k.creation ++ date k.activation ++ date k.expiration ++ k.alg ∷ k.material

-- a reason: its length and its bytes
unfoldable pub reason_field : List ℕ → List ℕ
reason_field text = seven (length text) ++ text

-- the record of an element: its kind and its fields
abbrev pub record_of : Element → List ℕ
record_of (Key k) = 1 ∷ key_fields k
record_of (RevokeKey id d text) = 2 ∷ guid id.0 ++ date d ++ reason_field text
record_of (RevokeBefore d text) = 3 ∷ date d ++ reason_field text

-- what a key record can hold
pub record IsKey (k : KeyRecord) : Type 0 where
  pub id : k.id.0 < 2 ^ 128
  pub creation : k.creation ≤ MAX_TICKS
  pub activation : k.activation ≤ MAX_TICKS
  pub expiration : k.expiration ≤ MAX_TICKS
  pub alg : k.alg < 256
  pub material_len : length k.material ≡ 64
  pub material : AreBytes k.material

-- what the record of a key's revocation can hold
pub record IsRevocation (n d : ℕ) (text : List ℕ) : Type 0 where
  pub id : n < 2 ^ 128
  pub date : d ≤ MAX_TICKS
  pub reason : IsReason text

-- what the record of a mass revocation can hold
pub record IsMassRevocation (d : ℕ) (text : List ℕ) : Type 0 where
  pub date : d ≤ MAX_TICKS
  pub reason : IsReason text

-- what a record can hold
abbrev pub IsElement : Element → Type 0
IsElement (Key k) = IsKey k
IsElement (RevokeKey id d text) = IsRevocation id.0 d text
IsElement (RevokeBefore d text) = IsMassRevocation d text

-- the bytes are the record of the element
abbrev pub IsRecord : List ℕ → Element → Type 0
IsRecord bytes e = IsElement e × (bytes ≡ record_of e)

-- what a list can hold
pub record AreListed (es : List Element) : Type 0 where
  pub few : length es ≤ MAX_ELEMENTS
  pub elements : AllByRecursion IsElement es

-- the bytes are the records of the elements one after the other
abbrev pub AreRecords : List ℕ → List Element → Type 0
AreRecords bytes es = AllByRecursion IsElement es × (bytes ≡ flat_map record_of es)

-- the bytes are a list: the records of at most the greatest number of elements
abbrev pub IsList : List ℕ → List Element → Type 0
IsList bytes es = (length es ≤ MAX_ELEMENTS) × AreRecords bytes es

-- the record of the element was added behind the bytes
abbrev pub Adds : List ℕ → List ℕ → Element → Type 0
Adds old new e = (bytes : List ℕ) × IsRecord bytes e × (new ≡ old ++ bytes)
