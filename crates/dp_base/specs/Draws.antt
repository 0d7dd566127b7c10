-- What draws of random bytes give. What is to come and what was given is told, or it is not.
use Rattle.std.specs.Prelude.{◌≡◌, ℕ, nat_le, if◌then◌else◌, List, [], ◌∷◌, ◌++◌, length, map, take, drop, Option, Some, None}
use Rattle.std.specs.Borrow.{GName}
use Rattle.dp_base.specs.declared.draw.TheConstants.{MAX_TAPE}
use Rattle.dp_base.specs.Counts.{more}

-- a draw that is lent to another one: the bytes that it gave so far, where they are told, and which
-- loan it stands on
pub record Lender : Type 0 where
  pub given : Option (List ℕ)
  pub loan : Option GName

pub record DrawState : Type 0 where
  -- the bytes to come, where they are told
  pub coming : Option (List ℕ)
  -- the bytes given so far, where they are told
  pub given : Option (List ℕ)
  -- how many calls failed
  pub faults : ℕ
  -- which loan it stands on, where it stands on one
  pub loan : Option GName
  -- the draws that were lent for it, each to the one before
  pub lenders : List Lender

-- these bytes were the next to come
abbrev pub Comes : Option (List ℕ) → Option (List ℕ) → List ℕ → Type 0
Comes None after bytes = after ≡ None
Comes (Some coming) after bytes =
    (bytes ≡ take (length bytes) coming) × (after ≡ Some (drop (length bytes) coming))

-- the bytes, where they are few enough to be told
abbrev pub tape : List ℕ → Option (List ℕ)
tape bytes = if nat_le (length bytes) MAX_TAPE then Some bytes else None

-- what is told of the bytes given, after these
abbrev pub gave : Option (List ℕ) → List ℕ → Option (List ℕ)
gave None bytes = None
gave (Some given) [] = Some given
gave (Some given) (b ∷ bytes) = tape (given ++ b ∷ bytes)

-- a lender that gave these bytes
abbrev pub gave_by : List ℕ → Lender → Lender
gave_by bytes l = record l { given = gave l.given bytes }

-- calls gave these bytes, one after the other, and k of them failed
pub record Draws (k : ℕ) (bytes : List ℕ) (old new : DrawState) : Type 0 where
  pub coming : Comes old.coming new.coming bytes
  pub given : new.given ≡ gave old.given bytes
  pub faults : new.faults ≡ more k old.faults
  pub loan : new.loan ≡ old.loan
  pub lenders : new.lenders ≡ map (gave_by bytes) old.lenders

-- a lent draw, and what is told of the bytes that it gave since
abbrev pub taped : DrawState → GName → Option (List ℕ) → DrawState
taped lent name given =
    record {
      coming = lent.coming;
      given = given;
      faults = lent.faults;
      loan = Some name;
      lenders = record { given = lent.given; loan = lent.loan } ∷ lent.lenders;
    }
