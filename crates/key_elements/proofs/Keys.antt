-- The fields of a key: those that are read stand in the bytes, and those that stand there are read.
use Rattle.std.proofs.Common.{◌≡◌, ℕ, List, [], ◌∷◌, ◌++◌, length, get_or, Result, Ok, refl, sym, ap, subst, ◌∙◌, append_assoc, arith}
use Rattle.std.specs.List.{slice_index}
use Rattle.dp_base.specs.Blocks.{AreBytes}
use Rattle.dp_base.specs.Guid.{guid, id_of_guid}
use Rattle.dp_base.proofs.Guid.{guid-id_of_guid, id_of_guid-guid, length-guid, id_of_guid-below}
use Rattle.key_elements.specs.declared.element.KeyRecord.{KeyRecord}
use Rattle.key_elements.specs.declared.refused.ElementRefused.{ElementRefused}
use Rattle.key_elements.specs.Record.{date, key_fields, IsKey}
use Rattle.key_elements.specs.Reading.{◌>>=◌, bytes_at, date_at, key_at}
use Rattle.key_elements.proofs.Fields.{bind_ok, Takes, Takes-then, TakesBytes, bytes_takes, bytes_again, TakesDate, date_takes, date_again}

-- the key of six fields, as they are read
abbrev key_of : List ℕ → ℕ → ℕ → ℕ → List ℕ → List ℕ → KeyRecord
key_of id c a x alg material = record {
  id = record { 0 = id_of_guid id };
  creation = c;
  activation = a;
  expiration = x;
  alg = slice_index alg 0;
  material = material;
}

-- what is read behind each field
abbrev Reads : Type 0
Reads = Result (KeyRecord × List ℕ) ElementRefused

abbrev then_material : List ℕ → ℕ → ℕ → ℕ → List ℕ → List ℕ × List ℕ → Reads
then_material id c a x alg m = Ok (key_of id c a x alg m.0, m.1)

abbrev then_alg : List ℕ → ℕ → ℕ → ℕ → List ℕ × List ℕ → Reads
then_alg id c a x f = bytes_at 64 f.1 >>= then_material id c a x f.0

abbrev then_expiration : List ℕ → ℕ → ℕ → ℕ × List ℕ → Reads
then_expiration id c a f = bytes_at 1 f.1 >>= then_alg id c a f.0

abbrev then_activation : List ℕ → ℕ → ℕ × List ℕ → Reads
then_activation id c f = date_at f.1 >>= then_expiration id c f.0

abbrev then_creation : List ℕ → ℕ × List ℕ → Reads
then_creation id f = date_at f.1 >>= then_activation id f.0

abbrev then_id : List ℕ × List ℕ → Reads
then_id f = date_at f.1 >>= then_creation f.0

one_cell : (f : List ℕ) → length f ≡ 1 → f ≡ get_or f 0 0 ∷ []
one_cell [] len = absurd (omega arith)
one_cell (a ∷ []) len = refl
one_cell (a ∷ b ∷ bs) len = absurd (omega arith)

-- a key whose fields stand at the front of the bytes
pub record TakesKey (bytes : List ℕ) (k : KeyRecord) (rest : List ℕ) : Type 0 where
  pub takes : Takes bytes (key_fields k) rest
  pub fits : IsKey k

-- the parts of a key that were read, put together
joined : (bytes id r0 : List ℕ) (c : ℕ) (r1 : List ℕ) (a : ℕ) (r2 : List ℕ) (x : ℕ) (r3 alg r4 material rest : List ℕ)
    → TakesBytes 16 bytes id r0 → TakesDate r0 c r1 → TakesDate r1 a r2 → TakesDate r2 x r3
    → TakesBytes 1 r3 alg r4 → TakesBytes 64 r4 material rest → TakesKey bytes (key_of id c a x alg material) rest
unfolding key_fields
joined bytes id r0 c r1 a r2 x r3 alg r4 material rest t0 t1 t2 t3 t4 t5 =
    let same : guid (id_of_guid id) ≡ id = guid-id_of_guid id t0.len t0.field_fits in
    let head : Takes bytes (guid (id_of_guid id)) r0 = subst (λ (f : List ℕ). Takes bytes f r0) (sym same) t0.takes in
    let two = Takes-then bytes (guid (id_of_guid id)) r0 (date c) r1 head t1.takes in
    let three = Takes-then bytes (guid (id_of_guid id) ++ date c) r1 (date a) r2 two t2.takes in
    let four = Takes-then bytes ((guid (id_of_guid id) ++ date c) ++ date a) r2 (date x) r3 three t3.takes in
    let cell : Takes r3 (slice_index alg 0 ∷ []) r4 = subst (λ (f : List ℕ). Takes r3 f r4) (one_cell alg t4.len) t4.takes in
    let last = Takes-then r3 (slice_index alg 0 ∷ []) r4 material rest cell t5.takes in
    record {
      takes = Takes-then bytes (((guid (id_of_guid id) ++ date c) ++ date a) ++ date x) r3 (slice_index alg 0 ∷ material) rest four last;
      fits = record {
        id = id_of_guid-below id t0.field_fits;
        creation = t1.most;
        activation = t2.most;
        expiration = t3.most;
        alg = t4.field_fits 0;
        material_len = t5.len;
        material = t5.field_fits;
      };
    }

pub key_takes : (bytes : List ℕ) (x : KeyRecord × List ℕ) → AreBytes bytes → key_at bytes ≡ Ok x → TakesKey bytes x.0 x.1
unfolding key_at
key_takes bytes x fits e =
    let b0 = bind_ok (bytes_at 16 bytes) then_id x e in
    let t0 = bytes_takes 16 bytes b0.0 fits b0.1 in
    let b1 = bind_ok (date_at b0.0.1) (then_creation b0.0.0) x b0.2 in
    let t1 = date_takes b0.0.1 b1.0 t0.takes.rest_fits b1.1 in
    let b2 = bind_ok (date_at b1.0.1) (then_activation b0.0.0 b1.0.0) x b1.2 in
    let t2 = date_takes b1.0.1 b2.0 t1.takes.rest_fits b2.1 in
    let b3 = bind_ok (date_at b2.0.1) (then_expiration b0.0.0 b1.0.0 b2.0.0) x b2.2 in
    let t3 = date_takes b2.0.1 b3.0 t2.takes.rest_fits b3.1 in
    let b4 = bind_ok (bytes_at 1 b3.0.1) (then_alg b0.0.0 b1.0.0 b2.0.0 b3.0.0) x b3.2 in
    let t4 = bytes_takes 1 b3.0.1 b4.0 t3.takes.rest_fits b4.1 in
    let b5 = bind_ok (bytes_at 64 b4.0.1) (then_material b0.0.0 b1.0.0 b2.0.0 b3.0.0 b4.0.0) x b4.2 in
    let t5 = bytes_takes 64 b4.0.1 b5.0 t4.takes.rest_fits b5.1 in
    let same : (key_of b0.0.0 b1.0.0 b2.0.0 b3.0.0 b4.0.0 b5.0.0, b5.0.1) ≡ x = cc b5.2 in
    subst (λ (y : KeyRecord × List ℕ). TakesKey bytes y.0 y.1) same
    (joined bytes b0.0.0 b0.0.1 b1.0.0 b1.0.1 b2.0.0 b2.0.1 b3.0.0 b3.0.1 b4.0.0 b4.0.1 b5.0.0 b5.0.1 t0 t1 t2 t3 t4 t5)

pub key_again : (k : KeyRecord) (rest : List ℕ) → IsKey k → key_at (key_fields k ++ rest) ≡ Ok (k, rest)
unfolding key_at key_fields
key_again k rest fits =
    let regrouped : key_fields k ++ rest
    ≡ guid k.id.0 ++ (date k.creation ++ (date k.activation ++ (date k.expiration ++ ((k.alg ∷ []) ++ (k.material ++ rest))))) =
    simp append_assoc in
    ap key_at regrouped
    ∙ rw (
      bytes_again 16 (guid k.id.0) (date k.creation ++ (date k.activation ++ (date k.expiration ++ ((k.alg ∷ []) ++ (k.material ++ rest))))) (length-guid k.id.0),
      date_again k.creation (date k.activation ++ (date k.expiration ++ ((k.alg ∷ []) ++ (k.material ++ rest)))) fits.creation,
      date_again k.activation (date k.expiration ++ ((k.alg ∷ []) ++ (k.material ++ rest))) fits.activation,
      date_again k.expiration ((k.alg ∷ []) ++ (k.material ++ rest)) fits.expiration,
      bytes_again 1 (k.alg ∷ []) (k.material ++ rest) refl,
      bytes_again 64 k.material rest fits.material_len,
      id_of_guid-guid k.id.0 fits.id,
    ) refl
