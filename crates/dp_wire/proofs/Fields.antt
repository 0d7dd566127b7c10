-- A field that is read stands in the bytes, and a field that stands there is read.
use Rattle.std.proofs.Common.{◌≡◌, ℕ, zero, suc, ◌<◌, ◌≤◌, ◌^◌, Bool, true, false, cond, ltb, leb, ◌&&◌, List, [], ◌∷◌, ◌++◌, length, take, drop, Result, Ok, Err, refl, sym, ap, subst, ◌∙◌, append_assoc, arith}
use Rattle.std.specs.Int.{w64, from_be_bytes}
use Rattle.std.proofs.lemmas.Bool.{ltb-false, le-ltb, le-leb, leb-true}
use Rattle.std.proofs.lemmas.List.{take_at, drop_at, take-append-drop, length-append, length-take}
use Rattle.std.proofs.lemmas.Nat.{be_bytes_8, from_be_bytes-to_be_bytes_8}
use Rattle.dp_base.specs.Blocks.{AreBytes}
use Rattle.dp_base.specs.Codes.{IsCode}
use Rattle.dp_base.proofs.Parts.{AreBytes-take, AreBytes-drop}
use Rattle.key_elements.specs.declared.refused.ElementRefused.{ElementRefused}
use Rattle.key_elements.specs.Reading.{reason_at}
use Rattle.key_elements.proofs.Fields.{TakesReason, reason_takes}
use Rattle.dp_wire.specs.declared.request.BadRequest.{BadRequest}
use Rattle.std.specs.Str.{is_utf8}
use Rattle.dp_wire.specs.Request.{Request, field, flag}
use Rattle.dp_wire.specs.Reading.{◌>>=◌, wrong, bytes_at, number_at, code_at, reason_told, text_at, flag_at, whole_text_at, ends}

-- the value of a step that was not refused
pub bind_ok : {A B : Type 0} (r : Result A BadRequest) (f : A → Result B BadRequest) (y : B) → (r >>= f) ≡ Ok y → (x : A) × (r ≡ Ok x) × (f x ≡ Ok y)
bind_ok (Ok x) f y e = (x, refl, e)
bind_ok (Err why) f y e = absurd cc

-- a test that did not refuse
guard_ok : {A : Type 0} (b : Bool) (why : BadRequest) (x y : A) → cond b (Err why) (Ok x) ≡ Ok y → (b ≡ false) × (x ≡ y)
guard_ok true why x y e = absurd cc
guard_ok false why x y e = (refl, cc)

-- the field stands at the front of the bytes, and the rest follows
pub record Takes (bytes front rest : List ℕ) : Type 0 where
  pub parts : bytes ≡ front ++ rest
  pub rest_fits : AreBytes rest

-- a field behind a field
pub then : (a x b y c : List ℕ) → a ≡ x ++ b → b ≡ y ++ c → a ≡ (x ++ y) ++ c
then a x b y c p q = p ∙ ap (λ (t : List ℕ). x ++ t) q ∙ sym (append_assoc x y c)

-- ---- a field of n bytes

pub record TakesBytes (n : ℕ) (bytes front rest : List ℕ) : Type 0 where
  pub takes : Takes bytes front rest
  pub len : length front ≡ n
  pub front_fits : AreBytes front

pub bytes_takes : (len n : ℕ) (bytes : List ℕ) (x : List ℕ × List ℕ) → AreBytes bytes → bytes_at len n bytes ≡ Ok x → TakesBytes n bytes x.0 x.1
bytes_takes len n bytes x fits e =
    let g = guard_ok (ltb (length bytes) n) (wrong len bytes) (take n bytes, drop n bytes) x e in
    let long : n ≤ length bytes = ltb-false _ _ g.0 in
    subst (λ (y : List ℕ × List ℕ). TakesBytes n bytes y.0 y.1) g.1 (record {
      takes = record { parts = sym (take-append-drop n bytes); rest_fits = AreBytes-drop n bytes fits };
      len = omega (arith, length-take n bytes);
      front_fits = AreBytes-take n bytes fits;
    })

pub bytes_again : (len n : ℕ) (front rest : List ℕ) → length front ≡ n → bytes_at len n (front ++ rest) ≡ Ok (front, rest)
bytes_again len n front rest is =
    let long : ltb (length (front ++ rest)) n ≡ false = le-ltb _ _ (omega (arith, length-append front rest)) in
    rw (long, take_at front rest n is, drop_at front rest n is) refl

-- ---- a number

pub record TakesNumber (bytes : List ℕ) (n : ℕ) (rest : List ℕ) : Type 0 where
  pub takes : Takes bytes (field n) rest
  pub small : n < 2 ^ 64

below_8 : (bytes : List ℕ) (n : ℕ) → AreBytes bytes → n ≡ from_be_bytes w64 bytes → n < 2 ^ 64
below_8 bytes n fits is = omega (arith, fits 0, fits 1, fits 2, fits 3, fits 4, fits 5, fits 6, fits 7, is)

pub number_takes : (len : ℕ) (bytes : List ℕ) (x : ℕ × List ℕ) → AreBytes bytes → number_at len bytes ≡ Ok x → TakesNumber bytes x.0 x.1
unfolding number_at
number_takes len bytes x fits e =
    let b = bind_ok (bytes_at len 8 bytes) (λ f. Ok (from_be_bytes w64 f.0, f.1)) x e in
    let t = bytes_takes len 8 bytes b.0 fits b.1 in
    let same : (from_be_bytes w64 b.0.0, b.0.1) ≡ x = cc b.2 in
    let written : field (from_be_bytes w64 b.0.0) ≡ b.0.0 = be_bytes_8 b.0.0 _ t.len t.front_fits refl in
    subst (λ (y : ℕ × List ℕ). TakesNumber bytes y.0 y.1) same (record {
      takes = subst (λ (f : List ℕ). Takes bytes f b.0.1) (sym written) t.takes;
      small = below_8 b.0.0 _ t.front_fits refl;
    })

pub number_again : (len n : ℕ) (rest : List ℕ) → n < 2 ^ 64 → number_at len (field n ++ rest) ≡ Ok (n, rest)
unfolding number_at
number_again len n rest small = rw (bytes_again len 8 (field n) rest refl, from_be_bytes-to_be_bytes_8 n small) refl

-- ---- a code

pub record TakesCode (bytes : List ℕ) (c : ℕ) (rest : List ℕ) : Type 0 where
  pub takes : Takes bytes (c ∷ []) rest
  pub code : IsCode c

pub code_takes : (len : ℕ) (bytes : List ℕ) (x : ℕ × List ℕ) → AreBytes bytes → code_at len bytes ≡ Ok x → TakesCode bytes x.0 x.1
unfolding code_at
code_takes len [] x fits e = absurd cc
code_takes len (c ∷ rest) x fits e = by (leb 1 c) (leb c 9) refl refl e
  where
    by : (low high : Bool) → leb 1 c ≡ low → leb c 9 ≡ high → cond (low && high) (Ok (c, rest)) (Err (wrong len (c ∷ rest))) ≡ Ok x → TakesCode (c ∷ rest) x.0 x.1
    by true true p q told = subst (λ (y : ℕ × List ℕ). TakesCode (c ∷ rest) y.0 y.1) (let same : (c, rest) ≡ x = cc told in same) (record {
      takes = record { parts = refl; rest_fits = AreBytes-drop 1 (c ∷ rest) fits };
      code = (leb-true 1 c p, leb-true c 9 q);
    })
    by true false p q told = absurd cc
    by false high p q told = absurd cc

pub code_again : (len c : ℕ) (rest : List ℕ) → IsCode c → code_at len (c ∷ rest) ≡ Ok (c, rest)
unfolding code_at
code_again len c rest is = rw (le-leb 1 c is.0, le-leb c 9 is.1) refl

-- ---- a reason

reason_ok : (why : BadRequest) (r : Result (List ℕ × List ℕ) ElementRefused) (x : List ℕ × List ℕ) → reason_told why r ≡ Ok x → r ≡ Ok x
reason_ok why (Ok text) x e = let same : text ≡ x = cc e in ap (λ (y : List ℕ × List ℕ). Ok y) same
reason_ok why (Err refused) x e = absurd cc

pub text_takes : (len : ℕ) (bytes : List ℕ) (x : List ℕ × List ℕ) → AreBytes bytes → text_at len bytes ≡ Ok x → TakesReason bytes x.0 x.1
unfolding text_at
text_takes len bytes x fits e = reason_takes bytes x fits (reason_ok (wrong len bytes) (reason_at bytes) x e)

-- ---- whether revoked keys are allowed

pub record TakesFlag (bytes : List ℕ) (allow : Bool) (rest : List ℕ) : Type 0 where
  pub takes : Takes bytes (flag allow ∷ []) rest

pub flag_takes : (len : ℕ) (bytes : List ℕ) (x : Bool × List ℕ) → AreBytes bytes → flag_at len bytes ≡ Ok x → TakesFlag bytes x.0 x.1
unfolding flag_at
flag_takes len [] x fits e = absurd cc
flag_takes len (zero ∷ rest) x fits e =
    let same : (false, rest) ≡ x = cc e in
    subst (λ (y : Bool × List ℕ). TakesFlag (0 ∷ rest) y.0 y.1) same (record { takes = record { parts = refl; rest_fits = AreBytes-drop 1 (0 ∷ rest) fits } })
flag_takes len (suc zero ∷ rest) x fits e =
    let same : (true, rest) ≡ x = cc e in
    subst (λ (y : Bool × List ℕ). TakesFlag (1 ∷ rest) y.0 y.1) same (record { takes = record { parts = refl; rest_fits = AreBytes-drop 1 (1 ∷ rest) fits } })
flag_takes len (suc (suc b) ∷ rest) x fits e = absurd cc

pub flag_again : (len : ℕ) (allow : Bool) (rest : List ℕ) → flag_at len (flag allow ∷ rest) ≡ Ok (allow, rest)
unfolding flag_at
flag_again len true rest = refl
flag_again len false rest = refl

-- ---- all that is left, a text

whole_ok : (b : Bool) (why : BadRequest) (x y : List ℕ) → cond b (Ok x) (Err why) ≡ Ok y → (b ≡ true) × (x ≡ y)
whole_ok true why x y e = (refl, cc)
whole_ok false why x y e = absurd cc

pub whole_text_takes : (len : ℕ) (bytes text : List ℕ) → whole_text_at len bytes ≡ Ok text → (bytes ≡ text) × (is_utf8 text ≡ true)
unfolding whole_text_at
whole_text_takes len bytes text e =
    let t = whole_ok (is_utf8 bytes) (wrong len bytes) bytes text e in
    (t.1, subst (λ (y : List ℕ). is_utf8 y ≡ true) t.1 t.0)

pub whole_text_again : (len : ℕ) (text : List ℕ) → is_utf8 text ≡ true → whole_text_at len text ≡ Ok text
unfolding whole_text_at
whole_text_again len text is = rw is refl

-- ---- the end

pub ends_ok : (len : ℕ) (q : Request) (rest : List ℕ) (p : Request) → ends len q rest ≡ Ok p → (rest ≡ []) × (q ≡ p)
unfolding ends
ends_ok len q [] p e = (refl, cc)
ends_ok len q (b ∷ rest) p e = absurd cc
