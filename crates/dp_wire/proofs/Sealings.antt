-- The fields that each kind with a chain begins with: those that are read stand in the bytes, and
-- those that stand there are read.
use Rattle.std.proofs.Common.{◌≡◌, ℕ, Bool, List, [], ◌∷◌, ◌++◌, Ok, refl, subst, append_assoc}
use Rattle.dp_base.specs.Blocks.{AreBytes}
use Rattle.dp_wire.specs.Chains.{chain_field}
use Rattle.dp_wire.specs.Request.{field, flag, sealing_fields, opening_fields, IsSealing}
use Rattle.dp_wire.specs.Reading.{◌>>=◌, number_at, flag_at, chain_at, sealing_at, opening_at}
use Rattle.dp_wire.proofs.Fields.{Takes, then, bind_ok, number_takes, number_again, flag_takes, flag_again}
use Rattle.dp_wire.proofs.Chains.{chain_takes, chain_again}

pub record TakesSealing (bytes : List ℕ) (need : ℕ) (chain : List (List ℕ)) (rest : List ℕ) : Type 0 where
  pub takes : Takes bytes (sealing_fields need chain) rest
  pub is : IsSealing need chain

pub sealing_takes : (len : ℕ) (bytes : List ℕ) (x : ℕ × List (List ℕ) × List ℕ) → AreBytes bytes → sealing_at len bytes ≡ Ok x → TakesSealing bytes x.0 x.1 x.2
unfolding sealing_at
sealing_takes len bytes x fits e =
    let b0 = bind_ok (number_at len bytes) (λ n. chain_at len n.1 >>= (λ c. Ok (n.0, c.0, c.1))) x e in
    let t0 = number_takes len bytes b0.0 fits b0.1 in
    let b1 = bind_ok (chain_at len b0.0.1) (λ c. Ok (b0.0.0, c.0, c.1)) x b0.2 in
    let t1 = chain_takes len b0.0.1 b1.0 t0.takes.rest_fits b1.1 in
    let same : (b0.0.0, b1.0.0, b1.0.1) ≡ x = cc b1.2 in
    subst (λ (y : ℕ × List (List ℕ) × List ℕ). TakesSealing bytes y.0 y.1 y.2) same (record {
      takes = record {
        parts = then bytes (field b0.0.0) b0.0.1 (chain_field b1.0.0) b1.0.1 t0.takes.parts t1.takes.parts;
        rest_fits = t1.takes.rest_fits;
      };
      is = record { fits = t0.small; lawful = t1.lawful };
    })

pub sealing_again : (len need : ℕ) (chain : List (List ℕ)) (rest : List ℕ) → IsSealing need chain → sealing_at len (sealing_fields need chain ++ rest) ≡ Ok (need, chain, rest)
unfolding sealing_at
sealing_again len need chain rest is =
    rw (append_assoc (field need) (chain_field chain) rest, number_again len need (chain_field chain ++ rest) is.fits, chain_again len chain rest is.lawful) refl

pub record TakesOpening (bytes : List ℕ) (need : ℕ) (allow : Bool) (chain : List (List ℕ)) (rest : List ℕ) : Type 0 where
  pub takes : Takes bytes (opening_fields need allow chain) rest
  pub is : IsSealing need chain

pub opening_takes : (len : ℕ) (bytes : List ℕ) (x : ℕ × Bool × List (List ℕ) × List ℕ) → AreBytes bytes → opening_at len bytes ≡ Ok x → TakesOpening bytes x.0 x.1 x.2 x.3
unfolding opening_at
opening_takes len bytes x fits e =
    let b0 = bind_ok (number_at len bytes) (λ n. flag_at len n.1 >>= (λ a. chain_at len a.1 >>= (λ c. Ok (n.0, a.0, c.0, c.1)))) x e in
    let t0 = number_takes len bytes b0.0 fits b0.1 in
    let b1 = bind_ok (flag_at len b0.0.1) (λ a. chain_at len a.1 >>= (λ c. Ok (b0.0.0, a.0, c.0, c.1))) x b0.2 in
    let t1 = flag_takes len b0.0.1 b1.0 t0.takes.rest_fits b1.1 in
    let b2 = bind_ok (chain_at len b1.0.1) (λ c. Ok (b0.0.0, b1.0.0, c.0, c.1)) x b1.2 in
    let t2 = chain_takes len b1.0.1 b2.0 t1.takes.rest_fits b2.1 in
    let behind : b0.0.1 ≡ (flag b1.0.0 ∷ chain_field b2.0.0) ++ b2.0.1 = then b0.0.1 (flag b1.0.0 ∷ []) b1.0.1 (chain_field b2.0.0) b2.0.1 t1.takes.parts t2.takes.parts in
    let same : (b0.0.0, b1.0.0, b2.0.0, b2.0.1) ≡ x = cc b2.2 in
    subst (λ (y : ℕ × Bool × List (List ℕ) × List ℕ). TakesOpening bytes y.0 y.1 y.2 y.3) same (record {
      takes = record {
        parts = then bytes (field b0.0.0) b0.0.1 (flag b1.0.0 ∷ chain_field b2.0.0) b2.0.1 t0.takes.parts behind;
        rest_fits = t2.takes.rest_fits;
      };
      is = record { fits = t0.small; lawful = t2.lawful };
    })

pub opening_again : (len need : ℕ) (allow : Bool) (chain : List (List ℕ)) (rest : List ℕ) → IsSealing need chain → opening_at len (opening_fields need allow chain ++ rest) ≡ Ok (need, allow, chain, rest)
unfolding opening_at
opening_again len need allow chain rest is =
    rw (append_assoc (field need) (flag allow ∷ chain_field chain) rest, number_again len need (flag allow ∷ (chain_field chain ++ rest)) is.fits, flag_again len allow (chain_field chain ++ rest), chain_again len chain rest is.lawful) refl
