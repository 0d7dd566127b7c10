-- An element that is read stands at the front of the bytes, and one that stands there is read.
use Rattle.std.proofs.Common.{◌≡◌, ℕ, zero, suc, ◌+◌, ◌-◌, ◌<◌, ◌≤◌, List, [], ◌∷◌, ◌++◌, length, take, drop, Result, Ok, refl, sym, ap, subst, ◌∙◌, arith}
use Rattle.std.proofs.lemmas.List.{take_at, drop_at, take-append-drop, length-append, length-drop}
use Rattle.dp_base.specs.Blocks.{AreBytes}
use Rattle.key_elements.specs.declared.element.Element.{Element}
use Rattle.key_elements.specs.declared.element.Element.TheVariants.{Key, RevokeKey, RevokeBefore}
use Rattle.key_elements.specs.declared.refused.ElementRefused.{ElementRefused}
use Rattle.key_elements.specs.Record.{IsElement, IsRecord, record_of}
use Rattle.key_elements.specs.Reading.{key_at, element_at}
use Rattle.key_elements.proofs.Fields.{bind_ok}
use Rattle.key_elements.proofs.Keys.{key_takes, key_again}
use Rattle.key_elements.proofs.Revocations.{revocation_takes, revocation_again, mass_takes, mass_again}

-- an element whose record stands at the front of the bytes
pub record TakesElement (bytes : List ℕ) (e : Element) (rest : List ℕ) : Type 0 where
  pub parts : bytes ≡ record_of e ++ rest
  pub rest_fits : AreBytes rest
  pub fits : IsElement e

pub element_takes : (bytes : List ℕ) (x : Element × List ℕ) → AreBytes bytes → element_at bytes ≡ Ok x → TakesElement bytes x.0 x.1
unfolding element_at
element_takes [] x fits e = absurd cc
element_takes (zero ∷ rest) x fits e = absurd cc
element_takes (suc zero ∷ rest) x fits e =
    let b = bind_ok (key_at rest) (λ k. Ok (Key k.0, k.1)) x e in
    let t = key_takes rest b.0 (λ i. fits (suc i)) b.1 in
    let same : (Key b.0.0, b.0.1) ≡ x = cc b.2 in
    subst (λ (y : Element × List ℕ). TakesElement (1 ∷ rest) y.0 y.1) same (record {
      parts = ap (λ (t : List ℕ). 1 ∷ t) t.takes.parts;
      rest_fits = t.takes.rest_fits;
      fits = t.fits;
    })
element_takes (suc (suc zero) ∷ rest) x fits e =
    let t = revocation_takes rest x (λ i. fits (suc i)) e in
    subst (λ (y : Element). TakesElement (2 ∷ rest) y x.1) t.is (record {
      parts = ap (λ (t : List ℕ). 2 ∷ t) t.takes.parts;
      rest_fits = t.takes.rest_fits;
      fits = t.fits;
    })
element_takes (suc (suc (suc zero)) ∷ rest) x fits e =
    let t = mass_takes rest x (λ i. fits (suc i)) e in
    subst (λ (y : Element). TakesElement (3 ∷ rest) y x.1) t.is (record {
      parts = ap (λ (t : List ℕ). 3 ∷ t) t.takes.parts;
      rest_fits = t.takes.rest_fits;
      fits = t.fits;
    })
element_takes (suc (suc (suc (suc kind))) ∷ rest) x fits e = absurd cc

pub element_again : (e : Element) (rest : List ℕ) → IsElement e → element_at (record_of e ++ rest) ≡ Ok (e, rest)
unfolding element_at
element_again (Key k) rest fits = rw (key_again k rest fits) refl
element_again (RevokeKey id d text) rest fits = revocation_again id.0 d text rest fits
element_again (RevokeBefore d text) rest fits = mass_again d text rest fits

abbrev read : Element × List ℕ → Result (Element × List ℕ) ElementRefused
read x = Ok x

read_is : (a b : Element) (x y : List ℕ) → read (a, x) ≡ read (b, y) → (a ≡ b) × (x ≡ y)
read_is a b x y same =
    let pair : (a, x) ≡ (b, y) = cc same in
    (ap (λ (p : Element × List ℕ). p.0) pair, ap (λ (p : Element × List ℕ). p.1) pair)

-- one record at most stands at the front
pub same_records : (a b : Element) (x y : List ℕ) → IsElement a → IsElement b → record_of a ++ x ≡ record_of b ++ y → (a ≡ b) × (x ≡ y)
same_records a b x y fa fb e =
    let same : read (a, x) ≡ read (b, y) = sym (element_again a x fa) ∙ ap element_at e ∙ element_again b y fb in
    read_is a b x y same

-- a record isn't empty
pub record-some : (e : Element) → 0 < length (record_of e)
record-some (Key k) = omega arith
record-some (RevokeKey id d text) = omega arith
record-some (RevokeBefore d text) = omega arith

-- what a reader that keeps the rest answers of lengths
pub record ReadsRecord (bytes : List ℕ) (e : Element) (rest : List ℕ) : Type 0 where
  pub fits : IsElement e
  pub short : length rest ≤ length bytes
  pub front : take (length bytes - length rest) bytes ≡ record_of e
  pub back : drop (length bytes - length rest) bytes ≡ rest
  pub some : 0 < length bytes - length rest

pub reads_record : (bytes : List ℕ) (e : Element) (rest : List ℕ) → AreBytes bytes → element_at bytes ≡ Ok (e, rest) → ReadsRecord bytes e rest
reads_record bytes e rest fits is =
    let t = element_takes bytes (e, rest) fits is in
    let len : length bytes ≡ length (record_of e) + length rest = ap length t.parts ∙ length-append (record_of e) rest in
    let n : length (record_of e) ≡ length bytes - length rest = omega arith in
    record {
      fits = t.fits;
      short = omega arith;
      front = ap (take (length bytes - length rest)) t.parts ∙ take_at (record_of e) rest _ n;
      back = ap (drop (length bytes - length rest)) t.parts ∙ drop_at (record_of e) rest _ n;
      some = omega (arith, record-some e);
    }

-- a record at the front is what is read
pub reads_only : (bytes : List ℕ) (e : Element) (n : ℕ) → n ≤ length bytes → IsRecord (take n bytes) e → element_at bytes ≡ Ok (e, drop n bytes)
reads_only bytes e n le is =
    let parts : bytes ≡ record_of e ++ drop n bytes = sym (take-append-drop n bytes) ∙ ap (λ (t : List ℕ). t ++ drop n bytes) is.1 in
    ap element_at parts ∙ element_again e (drop n bytes) is.0

-- and its length is told by what is left
pub reads_same : (bytes : List ℕ) (e f : Element) (rest : List ℕ) (n : ℕ) → element_at bytes ≡ Ok (e, rest) → n ≤ length bytes → IsRecord (take n bytes) f
    → (e ≡ f) × (length bytes - length rest ≡ n)
reads_same bytes e f rest n is le at_front =
    let same : read (e, rest) ≡ read (f, drop n bytes) = sym is ∙ reads_only bytes f n le at_front in
    let parts = read_is e f rest (drop n bytes) same in
    (parts.0, omega (arith, ap length parts.1, length-drop n bytes))
