-- What protecting by a ring gives, of the bytes that are drawn for it: first the modifier, then the
-- vector.
use Rattle.std.specs.Prelude.{◌≡◌, ℕ, ◌+◌, nat_lt, if◌then◌else◌, List, length, take, drop, Option, Some, None, Result, Ok, Err}
use Rattle.dp_base.specs.declared.alg.Alg.{Alg}
use Rattle.dp_base.specs.Blocks.{AreBytes}
use Rattle.dp_base.specs.Draws.{DrawState, Draws}
use Rattle.dp_base.specs.Lengths.{iv_len}
use Rattle.key_elements.specs.declared.element.KeyRecord.{KeyRecord}
use Rattle.key_ring.specs.Ring.{RingOf, default_key}
use Rattle.dp_protector.specs.declared.refused.ProtectRefused.{ProtectRefused}
use Rattle.dp_protector.specs.declared.refused.ProtectRefused.TheVariants.{TooLong, NoDefaultKey, DrawFault, Memory}
use Rattle.dp_protector.specs.declared.protect.TheConstants.{MAX_PLAIN}
use Rattle.dp_protector.specs.Algorithms.{alg_of}
use Rattle.dp_protector.specs.Payload.{seal}

-- how many bytes a payload of an algorithm draws; the default key always has one
abbrev pub draw_len_for : Option Alg → ℕ
draw_len_for None = 0
draw_len_for (Some alg) = 16 + iv_len alg

abbrev pub draw_len_under : Option KeyRecord → ℕ
draw_len_under None = 0
draw_len_under (Some key) = draw_len_for (alg_of key.alg)

-- how many bytes a payload under the ring's default key draws
unfoldable pub draw_len : RingOf → ℕ
draw_len ring = draw_len_under (default_key ring.list ring.made_at)

-- the payload under a key and its algorithm
abbrev pub sealed_for : Option Alg → KeyRecord → List (List ℕ) → List ℕ → List ℕ → Result (List ℕ) ProtectRefused
sealed_for None key chain drawn text = Err NoDefaultKey
sealed_for (Some alg) key chain drawn text = Ok (seal alg key chain (take 16 drawn) (drop 16 drawn) text)

abbrev pub sealed_under : Option KeyRecord → List (List ℕ) → List ℕ → List ℕ → Result (List ℕ) ProtectRefused
sealed_under None chain drawn text = Err NoDefaultKey
sealed_under (Some key) chain drawn text = sealed_for (alg_of key.alg) key chain drawn text

-- the payload of a text of any length under the ring's default key, for a chain
unfoldable pub sealing : RingOf → List (List ℕ) → List ℕ → List ℕ → Result (List ℕ) ProtectRefused
sealing ring chain drawn text = sealed_under (default_key ring.list ring.made_at) chain drawn text

-- what is given of a text that isn't too long
abbrev pub within : ℕ → List ℕ → Result (List ℕ) ProtectRefused → Result (List ℕ) ProtectRefused
within most text given = if nat_lt most (length text) then Err (TooLong (length text)) else given

-- the payload of a plaintext, or why there is none
abbrev pub protects : RingOf → List (List ℕ) → List ℕ → List ℕ → Result (List ℕ) ProtectRefused
protects ring chain drawn plain = within MAX_PLAIN plain (sealing ring chain drawn plain)

-- calls of a draw gave so many bytes in all, and none failed, and what is given of them is this
pub record Sealed (len : ℕ) (given : List ℕ → Result (List ℕ) ProtectRefused) (old new : DrawState) (value : List ℕ) : Type 0 where
  pub drawn : List ℕ
  pub len_is : length drawn ≡ len
  pub bytes : AreBytes drawn
  pub draws : Draws 0 drawn old new
  pub value_is : given drawn ≡ Ok value

-- calls of a draw gave so many bytes in all, and none failed
abbrev pub Drew : ℕ → DrawState → DrawState → Type 0
Drew len old new = (drawn : List ℕ) × (length drawn ≡ len) × Draws 0 drawn old new

-- a refusal that is told before anything is drawn
abbrev pub IsEarly : {X : Type 0} → Result X ProtectRefused → Type 0
IsEarly (Ok x) = ⊥
IsEarly (Err (TooLong len)) = Unit {0}
IsEarly (Err NoDefaultKey) = Unit {0}
IsEarly (Err DrawFault) = ⊥
IsEarly (Err Memory) = ⊥
