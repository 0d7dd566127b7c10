-- The ring of a list of elements at a moment, in ticks.
use Rattle.std.specs.Prelude.{◌≡◌, ℕ, ◌+◌, ◌-◌, ◌&&◌, max, nat_le, nat_lt, if◌then◌else◌, List, length, Option, Some, None, option_and_then, slice_get}
use Rattle.std.specs.Option.{option_or}
use Rattle.default_key.specs.declared.policy.Policy.{Policy}
use Rattle.default_key.specs.declared.options.TheConstants.{PERIOD}
use Rattle.default_key.specs.PolicyValues.{policy_of}
use Rattle.key_elements.specs.declared.element.Element.{Element}
use Rattle.key_elements.specs.declared.element.KeyRecord.{KeyRecord}
use Rattle.key_elements.specs.Lists.{Extends}
use Rattle.key_ring.specs.declared.keys.RingKey.{RingKey}
use Rattle.key_ring.specs.declared.due.Why.{Why}
use Rattle.key_ring.specs.declared.due.Why.TheVariants.{Ended, Wanted}
use Rattle.key_ring.specs.declared.due.TheConstants.{EXTENSION}
use Rattle.key_ring.specs.Keys.{keys_of, ring_keys, facts}

-- a ring, as clauses see it: all else follows from its list and its moment
pub record RingOf : Type 0 where
  pub list : List Element
  pub made_at : ℕ
  -- the moment at which it is due
  pub until : ℕ
  -- the number up to which a wanted list is excused, after a refresh that failed
  pub excused : ℕ

-- the policy of the keys of the list
unfoldable pub policy_at : List Element → ℕ → Policy
policy_at es t = policy_of (facts es) t

-- the key at a place that the policy names
abbrev pub chosen : List KeyRecord → Option ℕ → Option KeyRecord
chosen keys place = option_and_then (slice_get keys) place

-- the preferred key
unfoldable pub preferred_key : List Element → ℕ → Option KeyRecord
preferred_key es t = chosen (keys_of es) (policy_at es t).preferred

-- the key to fall back on
unfoldable pub fallback_key : List Element → ℕ → Option KeyRecord
fallback_key es t = chosen (keys_of es) (policy_at es t).fallback

-- the default key: the preferred key, or else the key to fall back on
abbrev pub default_key : List Element → ℕ → Option KeyRecord
default_key es t = option_or (preferred_key es t) (fallback_key es t)

-- the end, or the key's expiration where that is still to come and earlier
abbrev pub until_with : Option KeyRecord → ℕ → ℕ → ℕ
until_with None t end = end
until_with (Some k) t end = if nat_lt t k.expiration && nat_lt k.expiration end then k.expiration else end

-- the ring that is made of the list at the moment; it ends a period later, less the jitter
abbrev pub ring_of : List Element → ℕ → ℕ → RingOf
ring_of es t jitter =
    record { list = es; made_at = t; until = until_with (default_key es t) t (t + PERIOD - jitter); excused = 0 }

-- the length that answers a wanted one: that of the list, or the excused one where it is greater
abbrev pub held : RingOf → ℕ
held r = max (length r.list) r.excused

-- why a ring is due at the moment for a list of the wanted length, if it is
unfoldable pub due : RingOf → ℕ → ℕ → Option Why
due r now want =
    if nat_le r.until now then Some (Ended r.until now)
    else (if nat_lt (held r) want then Some (Wanted want (held r)) else None)

-- the ring after a refresh that failed at the moment, for a list of the wanted length
abbrev pub extended : RingOf → ℕ → ℕ → RingOf
extended r now want = record r { until = now + EXTENSION; excused = max r.excused want }

-- the ring's list extends that of the other
abbrev pub ExtendsRing : RingOf → RingOf → Type 0
ExtendsRing grown from = Extends grown.list from.list

-- what a ring keeps beside its list is what follows from it
pub record IsRing (es : List Element) (t : ℕ) (keys : List RingKey) (policy : Policy) : Type 0 where
  pub keys_are : keys ≡ ring_keys es
  pub policy_is : policy ≡ policy_at es t
