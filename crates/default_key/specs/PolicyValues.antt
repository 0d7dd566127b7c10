-- The policy of default keys as values: by its place, the first maximum of a filter of the keys. The
-- facts of the same names stand in Policy. Moments and dates are ticks, and places count from 0. Each
-- comment ends in the rule that it serves: preference, renewal or fallback.
use Rattle.std.specs.Prelude.{◌==◌, ℕ, ◌+◌, Bool, not, ◌&&◌, ◌||◌, if◌then◌else◌, List, Option, None, filter, position, is_some, nat_le, nat_lt}
use Rattle.std.specs.List.{list_all, list_any}
use Rattle.std.specs.Option.{option_or}
use Rattle.default_key.specs.declared.key_facts.KeyFacts.{KeyFacts}
use Rattle.default_key.specs.declared.policy.Policy.{Policy}
use Rattle.default_key.specs.declared.options.TheConstants.{PROPAGATION, SKEW}

-- whether the key's activation has come, or comes within the skew (preference)
abbrev pub is_active : ℕ → KeyFacts → Bool
is_active now key = nat_le key.activation (now + SKEW)

-- whether a was activated after b, or with it and has the smaller id (preference)
abbrev pub is_ahead : KeyFacts → KeyFacts → Bool
is_ahead a b =
    nat_lt b.activation a.activation
    || ((a.activation == b.activation) && nat_lt a.id.0 b.id.0)

-- whether the key is usable and unrevoked (preference, fallback)
abbrev pub is_sound : KeyFacts → Bool
is_sound key = key.usable && not key.revoked

-- whether the key is sound and has had the time to reach every node (fallback)
abbrev pub is_settled : ℕ → KeyFacts → Bool
is_settled now key = is_sound key && nat_le (key.creation + PROPAGATION) now

-- whether a was made after b (fallback)
abbrev pub is_newer : KeyFacts → KeyFacts → Bool
is_newer a b = nat_lt b.creation a.creation

-- whether a was made before b (fallback)
abbrev pub is_older : KeyFacts → KeyFacts → Bool
is_older a b = nat_lt a.creation b.creation

-- whether the key passes, and no key that passes goes before it (preference, fallback)
abbrev pub is_maximum : (KeyFacts → Bool) → (KeyFacts → KeyFacts → Bool) → List KeyFacts → KeyFacts → Bool
is_maximum passes before keys key =
    passes key && list_all (λ other. not (before other key)) (filter passes keys)

-- whether the key is active and no active key is ahead of it (preference)
abbrev pub is_best : List KeyFacts → ℕ → KeyFacts → Bool
is_best keys now key = is_maximum (is_active now) is_ahead keys key

-- whether the key is sound and hasn't expired (preference)
abbrev pub is_valid : ℕ → KeyFacts → Bool
is_valid now key = is_sound key && nat_lt now key.expiration

-- whether the key is the best and is valid; no other takes its place (preference)
abbrev pub is_preferred : List KeyFacts → ℕ → KeyFacts → Bool
is_preferred keys now key = is_best keys now key && is_valid now key

-- the place of the preferred key (preference)
abbrev pub preferred_of : List KeyFacts → ℕ → Option ℕ
preferred_of keys now = position (is_preferred keys now) keys

-- whether next is unrevoked, active where the key expires, and lives longer than it takes to reach
-- every node (renewal)
abbrev pub takes_over : ℕ → KeyFacts → KeyFacts → Bool
takes_over now key next =
    not next.revoked
    && nat_le next.activation (key.expiration + SKEW)
    && nat_lt (now + PROPAGATION) next.expiration

-- whether a new key is due: no key is preferred, or none takes over from it (renewal)
abbrev pub renew_of : List KeyFacts → ℕ → Bool
renew_of keys now =
    not (list_any (λ key. is_preferred keys now key && list_any (takes_over now key) keys) keys)

-- the place of the first newest settled key (fallback)
abbrev pub newest_of : List KeyFacts → ℕ → Option ℕ
newest_of keys now = position (is_maximum (is_settled now) is_newer keys) keys

-- the place of the first oldest sound key (fallback)
abbrev pub oldest_of : List KeyFacts → Option ℕ
oldest_of keys = position (is_maximum is_sound is_older keys) keys

-- the place of the key to fall back on, where none is preferred (fallback)
abbrev pub fallback_of : List KeyFacts → ℕ → Option ℕ
fallback_of keys now =
    if is_some (preferred_of keys now) then None else option_or (newest_of keys now) (oldest_of keys)

-- the three together (all rules)
abbrev pub policy_of : List KeyFacts → ℕ → Policy
policy_of keys now = record {
  preferred = preferred_of keys now;
  renew = renew_of keys now;
  fallback = fallback_of keys now;
}
