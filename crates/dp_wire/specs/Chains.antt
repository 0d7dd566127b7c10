-- Chains of purposes as requests hold them: a count of four bytes, high byte first, and each purpose
-- with its length (docs/FORMATS.md, "Frames and requests"). A purpose is the list of its bytes.
use Rattle.std.specs.Prelude.{◌≡◌, ℕ, zero, suc, ◌≤◌, ◌&&◌, nat_le, if◌then◌else◌, IsTrue, List, [], ◌∷◌, ◌++◌, length, take, drop, Option, Some, None, Result, Ok, Err}
use Rattle.std.specs.List.{flat_map, list_all}
use Rattle.std.specs.Int.{w32, to_be_bytes, from_be_bytes}
use Rattle.std.specs.Str.{is_utf8}
use Rattle.dp_base.specs.SevenBit.{seven_at}
use Rattle.dp_base.specs.declared.seven_bit.SevenBit.{SevenBit}
use Rattle.purpose_chain.specs.Chain.{bytes_of, purpose_field}
use Rattle.dp_wire.specs.declared.chain.TheConstants.{MAX_WIRE_PURPOSES, MAX_WIRE_CHAIN}

-- at least one purpose, within both limits, and each a text
pub record IsWireChain (chain : List (List ℕ)) : Type 0 where
  pub some : 1 ≤ length chain
  pub few : length chain ≤ MAX_WIRE_PURPOSES
  pub short : bytes_of chain ≤ MAX_WIRE_CHAIN
  pub texts : IsTrue (list_all is_utf8 chain)

-- the bytes of a chain
abbrev pub chain_field : List (List ℕ) → List ℕ
chain_field chain = to_be_bytes w32 (length chain) ++ flat_map purpose_field chain

-- a purpose of a length that was read, and the bytes after it
abbrev pub counted : Result (ℕ × List ℕ) SevenBit → Option (List ℕ × List ℕ)
counted (Ok n) =
    if nat_le n.0 (length n.1) && is_utf8 (take n.0 n.1) then Some (take n.0 n.1, drop n.0 n.1) else None
counted (Err why) = None

-- the purpose at the front of bytes, and the bytes after it
unfoldable pub purpose_front : List ℕ → Option (List ℕ × List ℕ)
purpose_front bytes = counted (seven_at bytes)

-- a purpose, if there is one, and what is made of the bytes after it
abbrev pub and_then : Option (List ℕ × List ℕ) → (List ℕ → List (List ℕ)) → List (List ℕ)
and_then None others = []
and_then (Some p) others = p.0 ∷ others p.1

-- the first n purposes in bytes
abbrev pub purposes_of : ℕ → List ℕ → List (List ℕ)
purposes_of zero bytes = []
purposes_of (suc n) bytes = and_then (purpose_front bytes) (purposes_of n)

-- the chain in the bytes of one
unfoldable pub chain_of : List ℕ → List (List ℕ)
chain_of bytes = purposes_of (from_be_bytes w32 (take 4 bytes)) (drop 4 bytes)

-- the bytes are those of a chain
pub record IsChainField (bytes : List ℕ) : Type 0 where
  pub parts : bytes ≡ chain_field (chain_of bytes)
  pub chain : IsWireChain (chain_of bytes)

-- the chain that is used: a request's, behind the name of an application that isn't empty
abbrev pub used_chain : List ℕ → List (List ℕ) → List (List ℕ)
used_chain [] chain = chain
used_chain (b ∷ app) chain = (b ∷ app) ∷ chain
