-- Payloads that expire: the plaintext stands behind its expiry in ticks, and is sealed for a chain of
-- its own.
use Rattle.std.specs.Prelude.{◌≡◌, ◌⊎◌, ℕ, ◌+◌, ◌<◌, ◌≤◌, Bool, codes, List, [], ◌∷◌, ◌++◌, length, Result, Ok, Err}
use Rattle.key_ring.specs.Ring.{RingOf}
use Rattle.purpose_chain.specs.declared.chain.TheConstants.{MAX_CHAIN, MAX_PURPOSES}
use Rattle.purpose_chain.specs.Chain.{bytes_of}
use Rattle.timed_payload.specs.declared.expiry.TimedRefused.{TimedRefused}
use Rattle.timed_payload.specs.Timed.{split, timed}
use Rattle.dp_protector.specs.declared.opened.OpenedTimed.{OpenedTimed}
use Rattle.dp_protector.specs.declared.refused.ProtectRefused.{ProtectRefused}
use Rattle.dp_protector.specs.declared.refused.UnprotectRefused.{UnprotectRefused}
use Rattle.dp_protector.specs.declared.refused.TimedOpenRefused.{TimedOpenRefused}
use Rattle.dp_protector.specs.declared.refused.TimedOpenRefused.TheVariants.{Memory}
use Rattle.dp_protector.specs.declared.timed.TheConstants.{MAX_TIMED}
use Rattle.dp_protector.specs.Refusals.{refused_expiry, refused_in_timed}
use Rattle.dp_protector.specs.Protect.{sealing, within}
use Rattle.dp_protector.specs.Opening.{Opening, opened}

-- the purpose of payloads that expire, 63 bytes, as ASP.NET Core's limiter of time has it
abbrev pub timed_purpose : List ℕ
timed_purpose = codes "Microsoft.AspNetCore.DataProtection.TimeLimitedDataProtector.v1"

-- the chain for which such payloads are sealed
unfoldable pub timed_chain : List (List ℕ) → List (List ℕ)
timed_chain chain = chain ++ timed_purpose ∷ []

-- the chain has room for that purpose
pub record HasRoom (chain : List (List ℕ)) : Type 0 where
  pub few : length chain < MAX_PURPOSES
  pub short : bytes_of chain + 63 ≤ MAX_CHAIN

-- the payload of a plaintext that expires, or why there is none
abbrev pub protects_timed : RingOf → List (List ℕ) → List ℕ → ℕ → List ℕ → Result (List ℕ) ProtectRefused
protects_timed ring chain drawn expiry plain =
    within MAX_TIMED plain (sealing ring (timed_chain chain) drawn (timed expiry plain))

-- what is opened, as clauses see it
pub record TimedOpening : Type 0 where
  pub plain : List ℕ
  pub expiry : ℕ
  pub revoked : Bool
  pub default_changed : Bool

-- what was opened, with its expiry taken from in front of it
abbrev pub without_expiry : Opening → Result (ℕ × List ℕ) TimedRefused → Result TimedOpening TimedOpenRefused
without_expiry o (Ok parts) =
    Ok (record { plain = parts.1; expiry = parts.0; revoked = o.revoked; default_changed = o.default_changed })
without_expiry o (Err why) = Err (refused_expiry why)

abbrev pub as_timed : ℕ → Result Opening UnprotectRefused → Result TimedOpening TimedOpenRefused
as_timed now (Ok o) = without_expiry o (split o.plain now)
as_timed now (Err why) = Err (refused_in_timed why)

-- what a payload that expires opens to at a moment, or why it doesn't open: the first that holds
unfoldable pub opened_timed : RingOf → List (List ℕ) → List ℕ → Bool → ℕ → Result TimedOpening TimedOpenRefused
opened_timed ring chain payload allow now = as_timed now (opened ring (timed_chain chain) payload allow)

abbrev pub opening_timed : OpenedTimed → TimedOpening
opening_timed o =
    record { plain = o.plain.items; expiry = o.expiry; revoked = o.revoked; default_changed = o.default_changed }

-- the answer is what is due, but for want of memory
abbrev pub TimedAnswers : Result OpenedTimed TimedOpenRefused → Result TimedOpening TimedOpenRefused → Type 0
TimedAnswers (Ok o) due = due ≡ Ok (opening_timed o)
TimedAnswers (Err why) due = (due ≡ Err why) ⊎ (why ≡ Memory)
