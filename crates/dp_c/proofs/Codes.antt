-- What holds of the algorithm that a call found holds of every algorithm of its code, and the other way.
use Rattle.std.proofs.Common.{◌≡◌, ℕ, List, cond, nat_eq, refl, sym, ap, subst, ◌∙◌}
use Rattle.dp_base.specs.Codes.{code_of}
use Rattle.dp_base.specs.declared.alg.AesSize.TheVariants.{A128, A192, A256}
use Rattle.dp_base.specs.declared.alg.Alg.{Alg}
use Rattle.dp_base.specs.declared.alg.Alg.TheVariants.{Cbc256, Cbc512, Gcm}
use Rattle.context_header.specs.Keys.{KeyPair}
use Rattle.payload_view.specs.Payload.{Parts, parts_of}
use Rattle.dp_encryptor.specs.Body.{Secret, subkeys}
use Rattle.dp_c.specs.Bodies.{body_keys, secret}

-- the algorithm of a code
alg_at : ℕ → Alg
alg_at code =
    cond (nat_eq code 1) (Cbc256 A128) (cond (nat_eq code 2) (Cbc256 A192) (cond (nat_eq code 3) (Cbc256 A256)
    (cond (nat_eq code 4) (Cbc512 A128) (cond (nat_eq code 5) (Cbc512 A192) (cond (nat_eq code 6) (Cbc512 A256)
    (cond (nat_eq code 7) (Gcm A128) (cond (nat_eq code 8) (Gcm A192) (Gcm A256))))))))

alg_at-code_of : (alg : Alg) → alg_at (code_of alg) ≡ alg
unfolding alg_at
alg_at-code_of (Cbc256 A128) = refl
alg_at-code_of (Cbc256 A192) = refl
alg_at-code_of (Cbc256 A256) = refl
alg_at-code_of (Cbc512 A128) = refl
alg_at-code_of (Cbc512 A192) = refl
alg_at-code_of (Cbc512 A256) = refl
alg_at-code_of (Gcm A128) = refl
alg_at-code_of (Gcm A192) = refl
alg_at-code_of (Gcm A256) = refl

-- no two algorithms have one code
pub code_one : (a b : Alg) → code_of a ≡ code_of b → a ≡ b
code_one a b e = sym (alg_at-code_of a) ∙ ap alg_at e ∙ alg_at-code_of b

module _ (P : Alg → KeyPair → Parts → Type 0) (made : Secret) (view : Parts) (found alg : Alg) (material aad body : List ℕ) (code : ℕ)
    (made_is : made ≡ secret found material) (view_is : view ≡ parts_of found body) (found_is : code_of found ≡ code) (code_is : code_of alg ≡ code) where
  same : found ≡ alg
  same = code_one found alg (found_is ∙ sym code_is)

  pub at_code : P made.alg (subkeys made aad view.modifier) view → P alg (body_keys alg material aad body) (parts_of alg body)
  at_code h =
      subst (λ (a : Alg). P a (body_keys a material aad body) (parts_of a body)) same
      (subst (λ (v : Parts). P found (subkeys (secret found material) aad v.modifier) v) view_is
      (subst (λ (s : Secret). P s.alg (subkeys s aad view.modifier) view) made_is h))

  pub from_code : P alg (body_keys alg material aad body) (parts_of alg body) → P made.alg (subkeys made aad view.modifier) view
  from_code h =
      subst (λ (s : Secret). P s.alg (subkeys s aad view.modifier) view) (sym made_is)
      (subst (λ (v : Parts). P found (subkeys (secret found material) aad v.modifier) v) (sym view_is)
      (subst (λ (a : Alg). P a (body_keys a material aad body) (parts_of a body)) (sym same) h))
