-- What a body opens to under a key, from what its parts open to.
use Rattle.std.proofs.Common.{◌≡◌, ◌⊎◌, ℕ, ◌+◌, ◌<◌, true, false, List, length, drop, Option, Some, None, refl, sym, ap, ◌∙◌, subst, arith, inl, inr}
use Rattle.std.specs.Prelude.{IsNone, nat_lt}
use Rattle.std.proofs.lemmas.Bool.Decides.{nat_tests}
use Rattle.dp_base.specs.Blocks.{AreBytes}
use Rattle.dp_base.specs.Lengths.{iv_len}
use Rattle.dp_base.specs.declared.alg.Alg.{Alg}
use Rattle.dp_base.proofs.Parts.{AreBytes-take, AreBytes-drop}
use Rattle.key_elements.specs.declared.element.KeyRecord.{KeyRecord}
use Rattle.payload_view.specs.Payload.{AreFor, Parts, parts_of, plain_len}
use Rattle.dp_encryptor.specs.Body.{Opens, Secret, subkeys}
use Rattle.dp_encryptor.specs.declared.encryptor.BodyRefused.{BodyRefused}
use Rattle.dp_encryptor.specs.declared.encryptor.BodyRefused.TheVariants as bodies
use Rattle.purpose_chain.specs.Chain.{aad}
use Rattle.dp_protector.specs.declared.refused.UnprotectRefused.TheVariants as payloads
use Rattle.dp_protector.specs.Payload.{secret}
use Rattle.dp_protector.specs.Refusals.{of_body}
use Rattle.dp_protector.specs.Opening.{open_body, open_parts}
use Rattle.dp_protector.proofs.Texts.{open_parts-is, open_parts-opens}

abbrev some_of : {X : Type 0} → X → Option X
some_of x = Some x

pub open_body-short : (alg : Alg) (key : KeyRecord) (chain : List (List ℕ)) (body : List ℕ) → length body < plain_len alg → open_body alg key chain body ≡ None
unfolding open_body
open_body-short alg key chain body short =
    let tested : nat_lt (length body) (plain_len alg) ≡ true = grind (arith, nat_tests) in
    rw tested refl

pub open_body-long : (alg : Alg) (key : KeyRecord) (chain : List (List ℕ)) (body : List ℕ) → (length body < plain_len alg → ⊥)
    → open_body alg key chain body ≡ open_parts alg (subkeys (secret alg key) (aad key.id.0 chain) (parts_of alg body).modifier) (parts_of alg body)
unfolding open_body
open_body-long alg key chain body long =
    let tested : nat_lt (length body) (plain_len alg) ≡ false = grind (arith, nat_tests) in
    rw tested refl

pub AreBytes-iv : (alg : Alg) (body : List ℕ) → AreBytes body → AreBytes (parts_of alg body).iv
AreBytes-iv alg body are = AreBytes-take (iv_len alg) (drop 16 body) (AreBytes-drop 16 body are)

pub AreBytes-enciphered : (alg : Alg) (body : List ℕ) → AreBytes body → AreBytes (parts_of alg body).enciphered
AreBytes-enciphered alg body are = AreBytes-take _ _ (AreBytes-drop (16 + iv_len alg) body are)

-- what was told of the parts, of these
module _ (alg : Alg) (key : KeyRecord) (chain : List (List ℕ)) (body : List ℕ) (e : Secret) (a : List ℕ) (parts : Parts)
    (e_is : e ≡ secret alg key) (a_is : a ≡ aad key.id.0 chain) (parts_are : parts ≡ parts_of alg body) (made : AreFor alg parts)
    (are : AreBytes body) (long : length body < plain_len alg → ⊥) where
  iv_is : length (parts_of alg body).iv ≡ iv_len alg
  iv_is = ap (λ (p : Parts). length p.iv) (sym parts_are) ∙ made.iv_len_is

  pub open_body-is : (text : List ℕ) → Opens e.alg (subkeys e a parts.modifier) parts text → AreBytes text → open_body alg key chain body ≡ Some text
  open_body-is text opens bytes =
      let told : Opens alg (subkeys (secret alg key) (aad key.id.0 chain) (parts_of alg body).modifier) (parts_of alg body) text =
      rw (e_is, a_is, parts_are) at opens in
      open_body-long alg key chain body long
      ∙ open_parts-is alg (subkeys (secret alg key) (aad key.id.0 chain) (parts_of alg body).modifier) (parts_of alg body) text iv_is (AreBytes-iv alg body are) bytes told

  pub open_body-none : ((text : List ℕ) → AreBytes text → Opens e.alg (subkeys e a parts.modifier) parts text → ⊥) → open_body alg key chain body ≡ None
  open_body-none never =
      at (open_parts alg (subkeys (secret alg key) (aad key.id.0 chain) (parts_of alg body).modifier) (parts_of alg body)) refl
    where
      one : (text : List ℕ) → AreBytes text → Opens alg (subkeys (secret alg key) a parts.modifier) parts text → ⊥
      one = subst (λ (s : Secret). (text : List ℕ) → AreBytes text → Opens s.alg (subkeys s a parts.modifier) parts text → ⊥) e_is never

      two : (text : List ℕ) → AreBytes text → Opens alg (subkeys (secret alg key) (aad key.id.0 chain) parts.modifier) parts text → ⊥
      two = subst (λ (d : List ℕ). (text : List ℕ) → AreBytes text → Opens alg (subkeys (secret alg key) d parts.modifier) parts text → ⊥) a_is one

      three : (text : List ℕ) → AreBytes text → Opens alg (subkeys (secret alg key) (aad key.id.0 chain) (parts_of alg body).modifier) (parts_of alg body) text → ⊥
      three = subst (λ (p : Parts). (text : List ℕ) → AreBytes text → Opens alg (subkeys (secret alg key) (aad key.id.0 chain) p.modifier) p text → ⊥) parts_are two

      at : (o : Option (List ℕ)) → open_parts alg (subkeys (secret alg key) (aad key.id.0 chain) (parts_of alg body).modifier) (parts_of alg body) ≡ o → open_body alg key chain body ≡ None
      at None is = open_body-long alg key chain body long ∙ is
      at (Some text) is =
          let opens = open_parts-opens alg (subkeys (secret alg key) (aad key.id.0 chain) (parts_of alg body).modifier) (parts_of alg body) text iv_is (AreBytes-iv alg body are) (AreBytes-enciphered alg body are) is in
          absurd (three text opens.1 opens.0)

pub some_not_none : {X : Type 0} (x : X) → IsNone (some_of x) → ⊥
some_not_none x none = absurd cc

-- a refusal of the parts, as one of the body
pub body-refused : (why : BodyRefused) (o : Option (List ℕ)) → (why ≡ bodies.Tampered → o ≡ None) → (of_body why ≡ payloads.Memory) ⊎ ((of_body why ≡ payloads.Tampered) × (o ≡ None))
body-refused bodies.Tampered o none = inr (refl, none refl)
body-refused bodies.Memory o none = inl refl

-- a refusal for want of memory isn't for a text that there is
pub not_memory : (why : BodyRefused) → why ≡ bodies.Tampered → why ≡ bodies.Memory → ⊥
not_memory bodies.Tampered e f = absurd cc
not_memory bodies.Memory e f = absurd cc
