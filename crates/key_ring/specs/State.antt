-- What a ring says of one of its keys.
use Rattle.std.specs.Prelude.{ℕ, Bool, false, ◌==◌, List, Option, Some, None, find, option_map}
use Rattle.key_elements.specs.declared.element.Element.{Element}
use Rattle.key_elements.specs.declared.element.KeyRecord.{KeyRecord}
use Rattle.key_ring.specs.declared.ring.KeyState.{KeyState}
use Rattle.key_ring.specs.Keys.{keys_of, is_revoked, is_usable}
use Rattle.key_ring.specs.Ring.{default_key}

pub record State : Type 0 where
  pub key : KeyRecord
  pub revoked : Bool
  pub usable : Bool
  pub is_default : Bool

-- a state without where its key lies in memory
abbrev pub key_state : KeyState → State
key_state s = record { key = s.key.now; revoked = s.revoked; usable = s.usable; is_default = s.is_default }

-- whether the key has the id
abbrev pub has_id : ℕ → Option KeyRecord → Bool
has_id id None = false
has_id id (Some k) = k.id.0 == id

-- the state of a key of the list at the moment
abbrev pub state : List Element → ℕ → KeyRecord → State
state es t k = record {
  key = k;
  revoked = is_revoked es k;
  usable = is_usable k;
  is_default = has_id k.id.0 (default_key es t);
}

-- the state of the key with the id
abbrev pub lookup_of : List Element → ℕ → ℕ → Option State
lookup_of es t id = option_map (state es t) (find (λ k. k.id.0 == id) (keys_of es))
