-- A field that is read stands in the bytes, and a field that stands there is read.
use Rattle.std.proofs.Common.{◌≡◌, ℕ, ◌+◌, ◌≤◌, Bool, true, false, cond, ltb, suc, List, [], ◌∷◌, ◌++◌, length, take, drop, Result, Ok, Err, refl, sym, ap, subst, ◌∙◌, append_assoc, arith, inl, inr}
use Rattle.std.specs.Int.{w64, from_be_bytes}
use Rattle.std.proofs.lemmas.Bool.{cases_lt, ltb-false, le-ltb}
use Rattle.std.proofs.lemmas.List.{take_at, drop_at, take-append-drop, length-append, length-take, get_or-drop, get_or-take, get_or_past}
use Rattle.std.proofs.lemmas.Nat.{be_bytes_8, from_be_bytes-to_be_bytes_8}
use Rattle.dp_base.specs.declared.ticks.TheConstants.{MAX_TICKS}
use Rattle.std.specs.Str.{is_utf8}
use Rattle.dp_base.specs.Blocks.{AreBytes}
use Rattle.dp_base.specs.SevenBit.{seven, seven_at}
use Rattle.dp_base.specs.declared.seven_bit.SevenBit.{SevenBit}
use Rattle.dp_base.proofs.Sevens.{seven_again, seven_told}
use Rattle.key_elements.specs.declared.reason.TheConstants.{MAX_REASON}
use Rattle.key_elements.specs.Reason.{IsReason}
use Rattle.key_elements.specs.declared.refused.ElementRefused.{ElementRefused}
use Rattle.key_elements.specs.declared.refused.ElementRefused.TheVariants.{Cut, BadDate, BadReason}
use Rattle.key_elements.specs.Record.{date, reason_field}
use Rattle.key_elements.specs.Reading.{◌>>=◌, bytes_at, date_at, length_read, length_at, reason_at}

pub AreBytes-drop : (n : ℕ) (bytes : List ℕ) → AreBytes bytes → AreBytes (drop n bytes)
AreBytes-drop n bytes fits i = rw get_or-drop (fits (n + i))

pub AreBytes-take : (n : ℕ) (bytes : List ℕ) → AreBytes bytes → AreBytes (take n bytes)
AreBytes-take n bytes fits i =
    elim (cases_lt i n) [
      | inl lt ↦ rw (get_or-take n bytes i 0 lt) (fits i)
      | inr le ↦ rw (get_or_past (take n bytes) i 0 (omega (arith, length-take n bytes))) (omega arith)
    ]

AreBytes-behind : (front rest : List ℕ) → AreBytes (front ++ rest) → AreBytes rest
AreBytes-behind [] rest fits = fits
AreBytes-behind (b ∷ front) rest fits = AreBytes-behind front rest (λ i. fits (suc i))

-- the value of a step that was not refused
pub bind_ok : {A B : Type 0} (r : Result A ElementRefused) (f : A → Result B ElementRefused) (y : B) → (r >>= f) ≡ Ok y → (x : A) × (r ≡ Ok x) × (f x ≡ Ok y)
bind_ok (Ok x) f y e = (x, refl, e)
bind_ok (Err why) f y e = absurd cc

-- a test that did not refuse
pub guard_ok : {A : Type 0} (b : Bool) (why : ElementRefused) (x y : A) → cond b (Err why) (Ok x) ≡ Ok y → (b ≡ false) × (x ≡ y)
guard_ok true why x y e = absurd cc
guard_ok false why x y e = (refl, cc)

-- the field stands at the front of the bytes, and the rest follows
pub record Takes (bytes field rest : List ℕ) : Type 0 where
  pub parts : bytes ≡ field ++ rest
  pub rest_fits : AreBytes rest

pub Takes-then : (a x b y c : List ℕ) → Takes a x b → Takes b y c → Takes a (x ++ y) c
Takes-then a x b y c p q = record {
  parts = p.parts ∙ ap (λ (t : List ℕ). x ++ t) q.parts ∙ sym (append_assoc x y c);
  rest_fits = q.rest_fits;
}

-- ---- a field of n bytes

pub record TakesBytes (n : ℕ) (bytes field rest : List ℕ) : Type 0 where
  pub takes : Takes bytes field rest
  pub len : length field ≡ n
  pub field_fits : AreBytes field

pub bytes_takes : (n : ℕ) (bytes : List ℕ) (x : List ℕ × List ℕ) → AreBytes bytes → bytes_at n bytes ≡ Ok x → TakesBytes n bytes x.0 x.1
bytes_takes n bytes x fits e =
    let g = guard_ok (ltb (length bytes) n) Cut (take n bytes, drop n bytes) x e in
    let long : n ≤ length bytes = ltb-false _ _ g.0 in
    subst (λ (y : List ℕ × List ℕ). TakesBytes n bytes y.0 y.1) g.1 (record {
      takes = record { parts = sym (take-append-drop n bytes); rest_fits = AreBytes-drop n bytes fits };
      len = omega (arith, length-take n bytes);
      field_fits = AreBytes-take n bytes fits;
    })

pub bytes_again : (n : ℕ) (field rest : List ℕ) → length field ≡ n → bytes_at n (field ++ rest) ≡ Ok (field, rest)
bytes_again n field rest len =
    let long : ltb (length (field ++ rest)) n ≡ false = le-ltb _ _ (omega (arith, length-append field rest)) in
    rw (long, take_at field rest n len, drop_at field rest n len) refl

-- ---- a date

pub record TakesDate (bytes : List ℕ) (d : ℕ) (rest : List ℕ) : Type 0 where
  pub takes : Takes bytes (date d) rest
  pub most : d ≤ MAX_TICKS

pub date_takes : (bytes : List ℕ) (x : ℕ × List ℕ) → AreBytes bytes → date_at bytes ≡ Ok x → TakesDate bytes x.0 x.1
unfolding date_at
date_takes bytes x fits e =
    let b = bind_ok (bytes_at 8 bytes) (λ f. cond (ltb MAX_TICKS (from_be_bytes w64 f.0)) (Err BadDate) (Ok (from_be_bytes w64 f.0, f.1))) x e in
    let t = bytes_takes 8 bytes b.0 fits b.1 in
    let g = guard_ok (ltb MAX_TICKS (from_be_bytes w64 b.0.0)) BadDate (from_be_bytes w64 b.0.0, b.0.1) x b.2 in
    let most : from_be_bytes w64 b.0.0 ≤ MAX_TICKS = ltb-false _ _ g.0 in
    let same : date (from_be_bytes w64 b.0.0) ≡ b.0.0 = be_bytes_8 b.0.0 _ t.len t.field_fits refl in
    let takes : Takes bytes (date (from_be_bytes w64 b.0.0)) b.0.1 = subst (λ (f : List ℕ). Takes bytes f b.0.1) (sym same) t.takes in
    subst (λ (y : ℕ × List ℕ). TakesDate bytes y.0 y.1) g.1 (record { takes = takes; most = most })

pub date_again : (d : ℕ) (rest : List ℕ) → d ≤ MAX_TICKS → date_at (date d ++ rest) ≡ Ok (d, rest)
unfolding date_at
date_again d rest most =
    let back : from_be_bytes w64 (date d) ≡ d = from_be_bytes-to_be_bytes_8 d (omega arith) in
    let fine : ltb MAX_TICKS d ≡ false = le-ltb _ _ most in
    rw (bytes_again 8 (date d) rest refl, back, fine) refl

-- ---- a reason

pub record TakesReason (bytes text rest : List ℕ) : Type 0 where
  pub takes : Takes bytes (reason_field text) rest
  pub reason : IsReason text

-- a length that was read is the number that stands in front
length_read_ok : (r : Result (ℕ × List ℕ) SevenBit) (x : ℕ × List ℕ) → length_read r ≡ Ok x → (r ≡ Ok x) × (x.0 ≤ MAX_REASON)
length_read_ok (Ok n) x e =
    let g = guard_ok (ltb MAX_REASON n.0) BadReason n x e in
    (ap number g.1, omega (arith, ltb-false _ _ g.0, ap (λ (y : ℕ × List ℕ). y.0) g.1))
  where
    number : ℕ × List ℕ → Result (ℕ × List ℕ) SevenBit
    number y = Ok y
length_read_ok (Err why) x e = absurd cc

pub length_takes : (bytes : List ℕ) (x : ℕ × List ℕ) → AreBytes bytes → length_at bytes ≡ Ok x → Takes bytes (seven x.0) x.1 × (x.0 ≤ MAX_REASON)
unfolding length_at
length_takes bytes x fits e =
    let r = length_read_ok (seven_at bytes) x e in
    let told = seven_told bytes x fits r.0 in
    (record { parts = told.0; rest_fits = AreBytes-behind (seven x.0) x.1 (subst AreBytes told.0 fits) }, r.1)

length_again : (n : ℕ) (rest : List ℕ) → n ≤ MAX_REASON → length_at (seven n ++ rest) ≡ Ok (n, rest)
unfolding length_at
length_again n rest le =
    let fine : ltb MAX_REASON n ≡ false = le-ltb _ _ le in
    rw (seven_again n rest (omega arith), fine) refl

text_ok : (b : Bool) (x y : List ℕ × List ℕ) → cond b (Ok x) (Err BadReason) ≡ Ok y → (b ≡ true) × (x ≡ y)
text_ok true x y e = (refl, cc)
text_ok false x y e = absurd cc

pub reason_takes : (bytes : List ℕ) (x : List ℕ × List ℕ) → AreBytes bytes → reason_at bytes ≡ Ok x → TakesReason bytes x.0 x.1
unfolding reason_at reason_field
reason_takes bytes x fits e =
    let b0 = bind_ok (length_at bytes) (λ len. bytes_at len.0 len.1 >>= (λ text. cond (is_utf8 text.0) (Ok text) (Err BadReason))) x e in
    let t0 = length_takes bytes b0.0 fits b0.1 in
    let b1 = bind_ok (bytes_at b0.0.0 b0.0.1) (λ text. cond (is_utf8 text.0) (Ok text) (Err BadReason)) x b0.2 in
    let t1 = bytes_takes b0.0.0 b0.0.1 b1.0 t0.0.rest_fits b1.1 in
    let g = text_ok (is_utf8 b1.0.0) b1.0 x b1.2 in
    let head : Takes bytes (seven (length b1.0.0)) b0.0.1 = subst (λ (n : ℕ). Takes bytes (seven n) b0.0.1) (sym t1.len) t0.0 in
    subst (λ (y : List ℕ × List ℕ). TakesReason bytes y.0 y.1) g.1 (record {
      takes = Takes-then bytes (seven (length b1.0.0)) b0.0.1 b1.0.0 b1.0.1 head t1.takes;
      reason = record { few = omega (arith, t0.1, t1.len); text = g.0 };
    })

pub reason_again : (text rest : List ℕ) → IsReason text → reason_at (reason_field text ++ rest) ≡ Ok (text, rest)
unfolding reason_at reason_field
reason_again text rest is =
    ap reason_at (append_assoc (seven (length text)) text rest)
    ∙ rw (length_again (length text) (text ++ rest) is.few, bytes_again (length text) text rest refl, is.text) refl
