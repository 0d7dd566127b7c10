-- The keyed-hash message authentication code (FIPS 198-1) on lists of bytes. A hash function takes
-- a list to a list, and works through its message in blocks of B bytes. Section numbers are the
-- standard's.
use Rattle.std.specs.Prelude.{ℕ, ◌-◌, List, ◌++◌, length, map, replicate, bit_xor, nat_le, if◌then◌else◌}

-- ipad and opad: the byte that each byte of K0 is xored with (2.3)
abbrev pub inner_pad : ℕ
inner_pad = 0x36

abbrev pub outer_pad : ℕ
outer_pad = 0x5C

-- K0 ⊕ pad (4, steps 4 and 7)
abbrev pub xor_pad : List ℕ → ℕ → List ℕ
xor_pad k0 pad = map (λ byte. bit_xor byte pad) k0

-- zeros up to a block (4, steps 2 and 3)
abbrev pub zero_filled : ℕ → List ℕ → List ℕ
zero_filled block_len bytes = bytes ++ replicate (block_len - length bytes) 0

-- K0: the key, or its digest where it is longer than a block, filled with zeros (4, steps 1 to 3)
abbrev pub block_key : (List ℕ → List ℕ) → ℕ → List ℕ → List ℕ
block_key hash block_len key =
    zero_filled block_len (if nat_le (length key) block_len then key else hash key)

-- H((K0 ⊕ opad) ‖ H((K0 ⊕ ipad) ‖ text)) (4, steps 4 to 9)
abbrev pub hmac : (List ℕ → List ℕ) → ℕ → List ℕ → List ℕ → List ℕ
hmac hash block_len key text =
    let k0 = block_key hash block_len key in
    hash (xor_pad k0 outer_pad ++ hash (xor_pad k0 inner_pad ++ text))

-- a pair of hashers that was begun under the key, and took in the text: the inner hash goes on, and
-- the outer hash waits for its digest
pub record HoldsText {S : Type 0} (holds : S → List ℕ → Type 0) (k0 text : List ℕ) (inner outer : S)
    : Type 0 where
  pub inner_holds : holds inner (xor_pad k0 inner_pad ++ text)
  pub outer_holds : holds outer (xor_pad k0 outer_pad)
