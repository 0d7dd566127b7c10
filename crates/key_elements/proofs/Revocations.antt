-- The fields of revocations: those that are read stand in the bytes, and those that stand there are
-- read.
use Rattle.std.proofs.Common.{◌≡◌, ℕ, List, ◌++◌, Result, Ok, refl, sym, ap, subst, ◌∙◌, append_assoc}
use Rattle.dp_base.specs.declared.key_id.KeyId.{KeyId}
use Rattle.dp_base.specs.Blocks.{AreBytes}
use Rattle.dp_base.specs.Guid.{guid, id_of_guid}
use Rattle.dp_base.proofs.Guid.{guid-id_of_guid, id_of_guid-guid, length-guid, id_of_guid-below}
use Rattle.key_elements.specs.declared.element.Element.{Element}
use Rattle.key_elements.specs.declared.element.Element.TheVariants.{RevokeKey, RevokeBefore}
use Rattle.key_elements.specs.declared.refused.ElementRefused.{ElementRefused}
use Rattle.key_elements.specs.Record.{date, reason_field, IsRevocation, IsMassRevocation}
use Rattle.key_elements.specs.Reading.{◌>>=◌, bytes_at, date_at, reason_at, revocation_at, mass_revocation_at}
use Rattle.key_elements.proofs.Fields.{bind_ok, Takes, Takes-then, TakesBytes, bytes_takes, bytes_again, TakesDate, date_takes, date_again, TakesReason, reason_takes, reason_again}

abbrev pub key_id : ℕ → KeyId
key_id n = record { 0 = n }

abbrev Reads : Type 0
Reads = Result (Element × List ℕ) ElementRefused

-- ---- a key's revocation

abbrev then_reason : List ℕ → ℕ → List ℕ × List ℕ → Reads
then_reason id d r = Ok (RevokeKey (key_id (id_of_guid id)) d r.0, r.1)

abbrev then_date : List ℕ → ℕ × List ℕ → Reads
then_date id d = reason_at d.1 >>= then_reason id d.0

abbrev then_id : List ℕ × List ℕ → Reads
then_id id = date_at id.1 >>= then_date id.0

-- a revocation whose fields stand at the front
pub record TakesRevocation (bytes : List ℕ) (e : Element) (rest : List ℕ) : Type 0 where
  pub n : ℕ
  pub d : ℕ
  pub text : List ℕ
  pub is : RevokeKey (key_id n) d text ≡ e
  pub takes : Takes bytes (guid n ++ date d ++ reason_field text) rest
  pub fits : IsRevocation n d text

joined : (bytes id r0 : List ℕ) (d : ℕ) (r1 text rest : List ℕ) → TakesBytes 16 bytes id r0 → TakesDate r0 d r1 → TakesReason r1 text rest
    → TakesRevocation bytes (RevokeKey (key_id (id_of_guid id)) d text) rest
joined bytes id r0 d r1 text rest t0 t1 t2 =
    let same : guid (id_of_guid id) ≡ id = guid-id_of_guid id t0.len t0.field_fits in
    let head : Takes bytes (guid (id_of_guid id)) r0 = subst (λ (f : List ℕ). Takes bytes f r0) (sym same) t0.takes in
    let two = Takes-then bytes (guid (id_of_guid id)) r0 (date d) r1 head t1.takes in
    record {
      n = id_of_guid id;
      d = d;
      text = text;
      is = refl;
      takes = Takes-then bytes (guid (id_of_guid id) ++ date d) r1 (reason_field text) rest two t2.takes;
      fits = record { id = id_of_guid-below id t0.field_fits; date = t1.most; reason = t2.reason };
    }

pub revocation_takes : (bytes : List ℕ) (x : Element × List ℕ) → AreBytes bytes → revocation_at bytes ≡ Ok x → TakesRevocation bytes x.0 x.1
unfolding revocation_at
revocation_takes bytes x fits e =
    let b0 = bind_ok (bytes_at 16 bytes) then_id x e in
    let t0 = bytes_takes 16 bytes b0.0 fits b0.1 in
    let b1 = bind_ok (date_at b0.0.1) (then_date b0.0.0) x b0.2 in
    let t1 = date_takes b0.0.1 b1.0 t0.takes.rest_fits b1.1 in
    let b2 = bind_ok (reason_at b1.0.1) (then_reason b0.0.0 b1.0.0) x b1.2 in
    let t2 = reason_takes b1.0.1 b2.0 t1.takes.rest_fits b2.1 in
    let same : (RevokeKey (key_id (id_of_guid b0.0.0)) b1.0.0 b2.0.0, b2.0.1) ≡ x = cc b2.2 in
    subst (λ (y : Element × List ℕ). TakesRevocation bytes y.0 y.1) same
    (joined bytes b0.0.0 b0.0.1 b1.0.0 b1.0.1 b2.0.0 b2.0.1 t0 t1 t2)

pub revocation_again : (n d : ℕ) (text rest : List ℕ) → IsRevocation n d text
    → revocation_at ((guid n ++ date d ++ reason_field text) ++ rest) ≡ Ok (RevokeKey (key_id n) d text, rest)
unfolding revocation_at
revocation_again n d text rest fits =
    let regrouped : (guid n ++ date d ++ reason_field text) ++ rest ≡ guid n ++ (date d ++ (reason_field text ++ rest)) = simp append_assoc in
    ap revocation_at regrouped
    ∙ rw (
      bytes_again 16 (guid n) (date d ++ (reason_field text ++ rest)) (length-guid n),
      date_again d (reason_field text ++ rest) fits.date,
      reason_again text rest fits.reason,
      id_of_guid-guid n fits.id,
    ) refl

-- ---- a mass revocation

abbrev then_mass_reason : ℕ → List ℕ × List ℕ → Reads
then_mass_reason d r = Ok (RevokeBefore d r.0, r.1)

abbrev then_mass_date : ℕ × List ℕ → Reads
then_mass_date d = reason_at d.1 >>= then_mass_reason d.0

pub record TakesMass (bytes : List ℕ) (e : Element) (rest : List ℕ) : Type 0 where
  pub d : ℕ
  pub text : List ℕ
  pub is : RevokeBefore d text ≡ e
  pub takes : Takes bytes (date d ++ reason_field text) rest
  pub fits : IsMassRevocation d text

pub mass_takes : (bytes : List ℕ) (x : Element × List ℕ) → AreBytes bytes → mass_revocation_at bytes ≡ Ok x → TakesMass bytes x.0 x.1
unfolding mass_revocation_at
mass_takes bytes x fits e =
    let b0 = bind_ok (date_at bytes) then_mass_date x e in
    let t0 = date_takes bytes b0.0 fits b0.1 in
    let b1 = bind_ok (reason_at b0.0.1) (then_mass_reason b0.0.0) x b0.2 in
    let t1 = reason_takes b0.0.1 b1.0 t0.takes.rest_fits b1.1 in
    let same : (RevokeBefore b0.0.0 b1.0.0, b1.0.1) ≡ x = cc b1.2 in
    subst (λ (y : Element × List ℕ). TakesMass bytes y.0 y.1) same (record {
      d = b0.0.0;
      text = b1.0.0;
      is = refl;
      takes = Takes-then bytes (date b0.0.0) b0.0.1 (reason_field b1.0.0) b1.0.1 t0.takes t1.takes;
      fits = record { date = t0.most; reason = t1.reason };
    })

pub mass_again : (d : ℕ) (text rest : List ℕ) → IsMassRevocation d text
    → mass_revocation_at ((date d ++ reason_field text) ++ rest) ≡ Ok (RevokeBefore d text, rest)
unfolding mass_revocation_at
mass_again d text rest fits =
    let regrouped : (date d ++ reason_field text) ++ rest ≡ date d ++ (reason_field text ++ rest) = simp append_assoc in
    ap mass_revocation_at regrouped
    ∙ rw (date_again d (reason_field text ++ rest) fits.date, reason_again text rest fits.reason) refl
