-- The layout of payloads (docs/FORMATS.md, "Payload") on lists of bytes.
use Rattle.std.specs.Prelude.{◌≡◌, ℕ, ◌+◌, ◌-◌, ◌/◌, ◌≤◌, List, ◌++◌, length, take, drop}
use Rattle.std.specs.Int.{w32, from_be_bytes}
use Rattle.dp_base.specs.declared.alg.Alg.{Alg}
use Rattle.dp_base.specs.Lengths.{iv_len, tag_len}

-- the first 32 bits: those of 09 F0 C9 F0 and, in the low 4 bits, a version of 0
abbrev pub magic : ℕ
magic = 0x09F0C9F0

-- the number of the first four bytes
abbrev pub first_word : List ℕ → ℕ
first_word payload = from_be_bytes w32 (take 4 payload)

-- there is room for the first word and an id, and the upper 28 bits are right
abbrev pub HasHead : List ℕ → Type 0
HasHead payload = (20 ≤ length payload) × (first_word payload / 16 ≡ magic / 16)

-- the parts of a body, in order
pub record Parts : Type 0 where
  pub modifier : List ℕ
  pub iv : List ℕ
  pub enciphered : List ℕ
  pub tag : List ℕ

-- how many bytes of a body are not enciphered: modifier, vector and tag
abbrev pub plain_len : Alg → ℕ
plain_len alg = 16 + iv_len alg + tag_len alg

-- the parts, one behind the other
abbrev pub joined : Parts → List ℕ
joined parts = parts.modifier ++ parts.iv ++ parts.enciphered ++ parts.tag

-- the parts of a body with room for them, each at its place
abbrev pub parts_of : Alg → List ℕ → Parts
parts_of alg body = record {
  modifier = take 16 body;
  iv = take (iv_len alg) (drop 16 body);
  enciphered = take (length body - plain_len alg) (drop (16 + iv_len alg) body);
  tag = drop (length body - tag_len alg) body;
}

-- the parts have the lengths that the algorithm fixes
pub record AreFor (alg : Alg) (parts : Parts) : Type 0 where
  pub modifier_len : length parts.modifier ≡ 16
  pub iv_len_is : length parts.iv ≡ iv_len alg
  pub tag_len_is : length parts.tag ≡ tag_len alg
