-- The policy of default keys as facts about a list of keys and a moment, after the key manager of
-- ASP.NET Core Data Protection before version 9 (Microsoft Learn, "Key management"). Moments and
-- dates are ticks, and places count from 0. Each comment ends in the rule that it serves: preference
-- (which key is preferred), renewal (whether a new key is due) or fallback (which key stands in).
use Rattle.std.specs.Prelude.{◌≡◌, ℕ, ◌+◌, ◌<◌, ◌≤◌, ◌⊎◌, false, List, take, All, AllPairs, Any, IsTrue, IsSomeAnd, slice_get}
use Rattle.default_key.specs.declared.key_facts.KeyFacts.{KeyFacts}
use Rattle.default_key.specs.declared.options.TheConstants.{PROPAGATION, SKEW}

-- no two keys have the same id (all rules)
abbrev pub HaveDistinctIds : List KeyFacts → Type 0
HaveDistinctIds keys = AllPairs (λ a b. a.id.0 ≡ b.id.0 → ⊥) keys

-- the key's activation has come, or comes within the skew (preference)
abbrev pub IsActive : ℕ → KeyFacts → Type 0
IsActive now key = key.activation ≤ now + SKEW

-- a was activated after b, or with it and has the smaller id (preference)
abbrev pub IsAhead : KeyFacts → KeyFacts → Type 0
IsAhead a b = (b.activation < a.activation) ⊎ ((a.activation ≡ b.activation) × (a.id.0 < b.id.0))

-- the key is active, and no active key is ahead of it (preference)
abbrev pub IsBest : List KeyFacts → ℕ → KeyFacts → Type 0
IsBest keys now key =
    IsActive now key
    × All (λ other. IsActive now other → ¬ IsAhead other key) keys

-- the key is usable and unrevoked (preference, fallback)
abbrev pub IsSound : KeyFacts → Type 0
IsSound key = IsTrue key.usable × (key.revoked ≡ false)

-- the key is sound and hasn't expired (preference)
abbrev pub IsValid : ℕ → KeyFacts → Type 0
IsValid now key = IsSound key × (now < key.expiration)

-- the best key, where it is valid; no other takes its place (preference)
abbrev pub IsPreferred : List KeyFacts → ℕ → KeyFacts → Type 0
IsPreferred keys now key = IsBest keys now key × IsValid now key

-- next is unrevoked, active where the key expires, and lives longer than it takes to reach every
-- node (renewal)
abbrev pub TakesOver : ℕ → KeyFacts → KeyFacts → Type 0
TakesOver now key next =
    (next.revoked ≡ false)
    × (next.activation ≤ key.expiration + SKEW)
    × (now + PROPAGATION < next.expiration)

-- some key is preferred, and some key takes over from it: no new key is due (renewal)
abbrev pub IsFollowed : List KeyFacts → ℕ → Type 0
IsFollowed keys now = Any (λ key. IsPreferred keys now key × Any (TakesOver now key) keys) keys

-- the key is sound and has had the time to reach every node (fallback)
abbrev pub IsSettled : ℕ → KeyFacts → Type 0
IsSettled now key = IsSound key × (key.creation + PROPAGATION ≤ now)

-- of the settled keys the key is of greatest creation (fallback)
abbrev pub IsNewest : List KeyFacts → ℕ → KeyFacts → Type 0
IsNewest keys now key =
    IsSettled now key
    × All (λ other. IsSettled now other → other.creation ≤ key.creation) keys

-- of the sound keys the key is of least creation (fallback)
abbrev pub IsOldest : List KeyFacts → KeyFacts → Type 0
IsOldest keys key =
    IsSound key
    × All (λ other. IsSound other → key.creation ≤ other.creation) keys

-- place has the first of the keys that P holds of (fallback)
abbrev pub IsFirst : (KeyFacts → Type 0) → List KeyFacts → ℕ → Type 0
IsFirst P keys place =
    IsSomeAnd (slice_get keys place) P
    × All (λ key. ¬ P key) (take place keys)

-- no key is settled, and place has the first oldest sound key (fallback)
abbrev pub IsOldestAt : List KeyFacts → ℕ → ℕ → Type 0
IsOldestAt keys now place = ¬ Any (IsSettled now) keys × IsFirst (IsOldest keys) keys place

-- no key is preferred, and place has the first newest settled key, or where none is settled the
-- first oldest sound key (fallback)
abbrev pub IsFallback : List KeyFacts → ℕ → ℕ → Type 0
IsFallback keys now place =
    ¬ Any (IsPreferred keys now) keys
    × (IsFirst (IsNewest keys now) keys place ⊎ IsOldestAt keys now place)
