use Rattle.std.proofs.Common.{◌≡◌, ◌⊎◌, refl, sym, ap, subst, ◌∙◌}
use Rattle.dp_base.specs.declared.alg.Alg.{Alg}
use Rattle.dp_base.specs.declared.alg.Alg.TheVariants.{Cbc256, Cbc512}
use Rattle.context_header.specs.Keys.{KeyPair}
use Rattle.payload_view.specs.Payload.{Parts}
use Rattle.dp_encryptor.specs.Body.{Secret, subkeys, HasTag, Unpads}
use Rattle.dp_encryptor.proofs.encryptor.Encryptor.open_body.Goals as goal

-- what a refusal says of an algorithm, it says of the secret's
at_alg : (alg form : Alg) (made keys : KeyPair) (parts : Parts) → alg ≡ form → made ≡ keys →
    ((¬ (HasTag form made parts)) ⊎ (¬ (Unpads form made parts))) → ((¬ (HasTag alg keys parts)) ⊎ (¬ (Unpads alg keys parts)))
at_alg alg form made keys parts e k h =
    subst (λ (a : Alg). (¬ (HasTag a keys parts)) ⊎ (¬ (Unpads a keys parts))) (sym e)
    (subst (λ (pair : KeyPair). (¬ (HasTag form pair parts)) ⊎ (¬ (Unpads form pair parts))) k h)

pub returns-in-Cbc256-clause-tampered : goal.returns-in-Cbc256-clause-tampered
returns-in-Cbc256-clause-tampered c wrong =
    let keys : c.keys-keys.result ≡ subkeys c.args.self.now c.args.aad.now c.args.body.modifier =
    c.keys-keys.ensures ∙ rw (c.modifier.ensures, ← c.self.view_is) refl in
    let same = ap (λ (s : Secret). s.alg) c.self.view_is in
    let is : c.args.self.now.alg ≡ Cbc256 c.in-Cbc256.field-0 = cc (c.in-Cbc256.ensures) in
    at_alg _ (Cbc256 c.in-Cbc256.field-0) _ _ c.args.body is keys (c.open_cbc.ensures.tampered wrong)

pub returns-in-Cbc512-clause-tampered : goal.returns-in-Cbc512-clause-tampered
returns-in-Cbc512-clause-tampered c wrong =
    let keys : c.keys-keys.result ≡ subkeys c.args.self.now c.args.aad.now c.args.body.modifier =
    c.keys-keys.ensures ∙ rw (c.modifier.ensures, ← c.self.view_is) refl in
    let same = ap (λ (s : Secret). s.alg) c.self.view_is in
    let is : c.args.self.now.alg ≡ Cbc512 c.in-Cbc512.field-0 = cc (c.in-Cbc512.ensures) in
    at_alg _ (Cbc512 c.in-Cbc512.field-0) _ _ c.args.body is keys (c.open_cbc-in-Cbc512.ensures.tampered wrong)
