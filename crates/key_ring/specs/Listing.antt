-- The listing of a ring: lines of text, each ended by the byte 10 (docs/FORMATS.md, "Listing").
use Rattle.std.specs.Prelude.{ℕ, Bool, true, false, not, List, [], ◌∷◌, ◌++◌, length, nat_le, nat_lt, max, fold, if◌then◌else◌, Option, Some, None, codes}
use Rattle.std.specs.List.{concat, flat_map}
use Rattle.std.specs.Fmt.{decimal}
use Rattle.dp_base.specs.Guid.{key_text}
use Rattle.key_elements.specs.declared.element.Element.{Element}
use Rattle.key_elements.specs.declared.element.Element.TheVariants.{Key, RevokeKey, RevokeBefore}
use Rattle.key_elements.specs.declared.element.KeyRecord.{KeyRecord}
use Rattle.default_key.specs.declared.policy.Policy.{Policy}
use Rattle.key_ring.specs.Keys.{records, ring_keys, is_usable}
use Rattle.key_ring.specs.declared.keys.RingKey.{RingKey}
use Rattle.key_ring.specs.Ring.{chosen, policy_at}

-- what ends a line
abbrev pub newline : List ℕ
newline = 10 ∷ []

-- how many elements, and the moment
unfoldable pub head_line : List Element → ℕ → List ℕ
head_line es t = concat (codes "ring " ∷ decimal (length es) ∷ codes " elements at " ∷ decimal t ∷ newline ∷ [])

-- the greater of a date and one that there may be
abbrev pub later : Option ℕ → ℕ → Option ℕ
later None d = Some d
later (Some e) d = Some (max e d)

-- the greatest date so far, with one element more
abbrev pub with_mass_date : Option ℕ → Element → Option ℕ
with_mass_date greatest (Key k) = greatest
with_mass_date greatest (RevokeKey id d reason) = greatest
with_mass_date greatest (RevokeBefore d reason) = later greatest d

-- the greatest date of a mass revocation, if there is one
unfoldable pub mass_date : List Element → Option ℕ
mass_date es = fold with_mass_date None es

-- the greatest date of a mass revocation
abbrev pub mass_line : Option ℕ → List ℕ
mass_line None = concat (codes "mass none" ∷ newline ∷ [])
mass_line (Some d) = concat (codes "mass " ∷ decimal d ∷ newline ∷ [])

-- the first of these states that holds of a key, which is revoked or isn't
unfoldable pub state_of : ℕ → Bool → KeyRecord → List ℕ
state_of t revoked k =
    if revoked then codes "revoked"
    else if not (is_usable k) then codes "unusable"
    else if nat_le k.expiration t then codes "expired"
    else if nat_lt t k.activation then codes "pending"
    else codes "active"

-- the dates of a key and its code
unfoldable pub dates_text : KeyRecord → List ℕ
dates_text k = concat (
    codes "created " ∷ decimal k.creation ∷ codes " activates " ∷ decimal k.activation
    ∷ codes " expires " ∷ decimal k.expiration ∷ codes " alg " ∷ decimal k.alg ∷ [])

-- a key, with its dates and its state
unfoldable pub key_line : ℕ → Bool → KeyRecord → List ℕ
key_line t revoked k =
    concat (codes "key " ∷ key_text k.id.0 ∷ codes " " ∷ dates_text k ∷ codes " " ∷ state_of t revoked k ∷ newline ∷ [])

-- the key that protects, and why
unfoldable pub chosen_line : KeyRecord → List ℕ → List ℕ
chosen_line k why = concat (codes "default " ∷ key_text k.id.0 ∷ codes " by " ∷ why ∷ newline ∷ [])

-- the preferred key, or else the key to fall back on
abbrev pub default_line : Option KeyRecord → Option KeyRecord → List ℕ
default_line (Some k) fallback = chosen_line k (codes "preference")
default_line None (Some k) = chosen_line k (codes "fallback")
default_line None None = concat (codes "default none" ∷ newline ∷ [])

-- whether a new key is due
abbrev pub renew_line : Bool → List ℕ
renew_line true = concat (codes "renew yes" ∷ newline ∷ [])
renew_line false = concat (codes "renew no" ∷ newline ∷ [])

-- the lines of a list with its keys and their policy at the moment, in order
unfoldable pub lines : List Element → List RingKey → Policy → ℕ → List ℕ
lines es keys policy t =
    head_line es t ++ mass_line (mass_date es) ++ flat_map (λ k. key_line t k.revoked k.key) keys
    ++ default_line (chosen (records keys) policy.preferred) (chosen (records keys) policy.fallback)
    ++ renew_line policy.renew

-- the listing of the ring of a list at a moment
abbrev pub listing : List Element → ℕ → List ℕ
listing es t = lines es (ring_keys es) (policy_at es t) t
