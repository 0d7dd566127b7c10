-- Numbers in groups of 7 bits: one that stands in the bytes is read, and one that is read stands
-- there.
use Rattle.std.proofs.Common.{◌≡◌, ℕ, zero, suc, ◌+◌, ◌-◌, ◌*◌, ◌/◌, ◌%◌, ◌^◌, ◌<◌, ◌≤◌, ◌↔◌, Bool, true, false, cond, ltb, List, [], ◌∷◌, ◌++◌, length, get_or, take, drop, Result, Ok, Err, refl, sym, ap, subst, ◌∙◌, add-one, drop-cons, arith}
use Rattle.std.specs.List.{AllByRecursion}
use Rattle.std.proofs.lemmas.Bool.{ltb-true, ltb-false, lt-ltb, le-ltb}
use Rattle.std.proofs.lemmas.Bool.Decides.{nat_tests}
use Rattle.std.proofs.lemmas.List.{length-append, take_at, drop_at}
use Rattle.std.proofs.lemmas.Nat.{mul-add-lt}
use Rattle.std.proofs.Math.Nat.{pow-suc}
use Rattle.dp_base.specs.declared.seven_bit.SevenBit.{SevenBit}
use Rattle.dp_base.specs.declared.seven_bit.SevenBit.TheVariants.{Cut, Overlong}
use Rattle.dp_base.specs.Blocks.{AreBytes}
use Rattle.dp_base.specs.SevenBit.{groups, seven, is_overlong, behind, groups_at, seven_at, IsCut}

-- how many numbers have at most k groups before the last: 2 ^ 32 for four
abbrev pub reach : ℕ → ℕ
reach k = 16 * 128 ^ k

pub reach-suc : (k n : ℕ) → n < reach (suc k) → n / 128 < reach k
reach-suc k n lt = below (128 ^ k) (rw pow-suc at lt)
  where
    below : (p : ℕ) → n < 16 * (p * 128) → n / 128 < 16 * p
    below p lt = omega arith

reach-behind : (k b n : ℕ) → b < 256 → n < reach k → b - 128 + 128 * n < reach (suc k)
reach-behind k b n small lt = rw pow-suc (below (128 ^ k) lt)
  where
    below : (p : ℕ) → n < 16 * p → b - 128 + 128 * n < 16 * (p * 128)
    below p lt = omega arith

reach-some : (k : ℕ) → 16 ≤ reach k
reach-some zero = omega arith
reach-some (suc k) = rw pow-suc (more (128 ^ k) (reach-some k))
  where
    more : (p : ℕ) → 16 ≤ 16 * p → 16 ≤ 16 * (p * 128)
    more p le = omega arith

-- a last byte that is not refused
fine : (k b : ℕ) → (k ≡ 0 → b < 16) → (k < 4 → 0 < b) → is_overlong (suc k) b ≡ false
fine zero b small some = grind (arith, nat_tests)
fine (suc k) b small some = grind (arith, nat_tests)

first_small : (b : ℕ) → is_overlong 1 b ≡ false → b < 16
first_small b h = grind (arith, nat_tests)

not_empty : (k b : ℕ) → is_overlong (suc k) b ≡ false → k < 4 → 0 < b
not_empty k b h lt = grind (arith, nat_tests)

-- a number whose groups stand at the front is read
groups_again : (k n : ℕ) (rest : List ℕ) → k ≤ 4 → n < reach k → (k < 4 → 0 < n) → groups_at (suc k) (groups k n ++ rest) ≡ Ok (n, rest)
groups_again zero n rest le lt some =
    let last : ltb n 128 ≡ true = lt-ltb n 128 (omega arith) in
    let taken : is_overlong 1 n ≡ false = fine 0 n (λ e. omega arith) (λ h. some (omega arith)) in
    rw (last, taken) refl
groups_again (suc k) n rest le lt some =
    elim (ltb n 128) as (λ b. ltb n 128 ≡ b → groups_at (suc (suc k)) (cond b (n ∷ []) ((128 + n % 128) ∷ groups k (n / 128)) ++ rest) ≡ Ok (n, rest)) [
      | true ↦ λ h.
          let taken : is_overlong (suc (suc k)) n ≡ false = fine (suc k) n (λ e. absurd (omega arith)) some in
          rw (h, taken) refl
      | false ↦ λ h.
          let large : 128 ≤ n = ltb-false n 128 h in
          let high : ltb (128 + n % 128) 128 ≡ false = le-ltb _ _ (omega arith) in
          let again = groups_again k (n / 128) rest (omega arith) (reach-suc k n lt) (λ h. omega arith) in
          rw (high, again) (ap (λ (m : ℕ). read m rest) (joined n))
    ] refl
  where
    read : ℕ → List ℕ → Result (ℕ × List ℕ) SevenBit
    read m rest = Ok (m, rest)

    joined : (n : ℕ) → 128 + n % 128 - 128 + 128 * (n / 128) ≡ n
    joined n = omega arith

-- ---- what was read

-- a number whose groups stand at the front
pub record Told (k : ℕ) (bytes : List ℕ) (n : ℕ) (rest : List ℕ) : Type 0 where
  pub parts : bytes ≡ groups k n ++ rest
  pub below : n < reach k
  pub some : k < 4 → 0 < n

groups-last : (k b : ℕ) → ltb b 128 ≡ true → groups k b ≡ b ∷ []
groups-last zero b h = refl
groups-last (suc k) b h = rw h refl

last-below : (k b : ℕ) → b < 128 → is_overlong (suc k) b ≡ false → b < reach k
last-below zero b lt h = omega (arith, first_small b h)
last-below (suc k) b lt h = rw pow-suc (wide (128 ^ k) (reach-some k))
  where
    wide : (p : ℕ) → 16 ≤ 16 * p → b < 16 * (p * 128)
    wide p le = omega arith

told_last : (k b : ℕ) (rest : List ℕ) → ltb b 128 ≡ true → is_overlong (suc k) b ≡ false → Told k (b ∷ rest) b rest
told_last k b rest low taken = record {
  parts = ap (λ (t : List ℕ). t ++ rest) (sym (groups-last k b low));
  below = last-below k b (ltb-true b 128 low) taken;
  some = not_empty k b taken;
}

told_more : (k b n : ℕ) (bytes rest : List ℕ) → suc k ≤ 4 → b < 256 → 128 ≤ b → Told k bytes n rest → Told (suc k) (b ∷ bytes) (b - 128 + 128 * n) rest
told_more k b n bytes rest le small high told =
    let some : 0 < n = told.some (omega arith) in
    let large : ltb (b - 128 + 128 * n) 128 ≡ false = le-ltb _ _ (omega arith) in
    let low : 128 + (b - 128 + 128 * n) % 128 ≡ b = omega arith in
    let up : (b - 128 + 128 * n) / 128 ≡ n = omega arith in
    record {
      parts = rw (large, low, up) (ap (λ (t : List ℕ). b ∷ t) told.parts);
      below = reach-behind k b n small told.below;
      some = λ h. omega arith;
    }

abbrev read : ℕ × List ℕ → Result (ℕ × List ℕ) SevenBit
read r = Ok r

-- a test that did not refuse
guard : (b : Bool) (x y : ℕ × List ℕ) → cond b (Err Overlong) (read x) ≡ read y → (b ≡ false) × (x ≡ y)
guard true x y e = absurd cc
guard false x y e = (refl, cc)

-- the number behind a lowest group
behind_ok : (b : ℕ) (r : Result (ℕ × List ℕ) SevenBit) (y : ℕ × List ℕ) → behind b r ≡ read y
    → (x : ℕ × List ℕ) × (r ≡ read x) × ((b - 128 + 128 * x.0, x.1) ≡ y)
behind_ok b (Ok x) y e = (x, refl, cc)
behind_ok b (Err why) y e = absurd cc

pub groups_told : (k : ℕ) (bytes : List ℕ) (y : ℕ × List ℕ) → k ≤ 4 → AreBytes bytes → groups_at (suc k) bytes ≡ read y → Told k bytes y.0 y.1
groups_told k [] y le fits e = absurd cc
groups_told zero (b ∷ bytes) y le fits e =
    elim (ltb b 128) as (λ t. ltb b 128 ≡ t → cond t (cond (is_overlong 1 b) (Err Overlong) (read (b, bytes))) (Err Overlong) ≡ read y → Told zero (b ∷ bytes) y.0 y.1) [
      | true ↦ λ h e.
          let g = guard (is_overlong 1 b) (b, bytes) y e in
          subst (λ (r : ℕ × List ℕ). Told zero (b ∷ bytes) r.0 r.1) g.1 (told_last zero b bytes h g.0)
      | false ↦ λ h e. absurd cc
    ] refl e
groups_told (suc k) (b ∷ bytes) y le fits e =
    elim (ltb b 128) as (λ t. ltb b 128 ≡ t
    → cond t (cond (is_overlong (suc (suc k)) b) (Err Overlong) (read (b, bytes))) (behind b (groups_at (suc k) bytes)) ≡ read y → Told (suc k) (b ∷ bytes) y.0 y.1) [
      | true ↦ λ h e.
          let g = guard (is_overlong (suc (suc k)) b) (b, bytes) y e in
          subst (λ (r : ℕ × List ℕ). Told (suc k) (b ∷ bytes) r.0 r.1) g.1 (told_last (suc k) b bytes h g.0)
      | false ↦ λ h e.
          let x = behind_ok b (groups_at (suc k) bytes) y e in
          let told = groups_told k bytes x.0 (omega arith) (λ i. fits (suc i)) x.1 in
          subst (λ (r : ℕ × List ℕ). Told (suc k) (b ∷ bytes) r.0 r.1) x.2 (told_more k b x.0.0 bytes x.0.1 le (fits 0) (ltb-false b 128 h) told)
    ] refl e

-- ---- where the bytes end

abbrev AreHigh : List ℕ → Type 0
AreHigh bytes = AllByRecursion (λ b. 128 ≤ b) bytes

cut-behind : (b : ℕ) (r : Result (ℕ × List ℕ) SevenBit) → behind b r ≡ Err Cut → r ≡ Err Cut
cut-behind b (Ok x) e = absurd cc
cut-behind b (Err why) e = cc

not_cut : (t : Bool) (x : ℕ × List ℕ) → cond t (Err Overlong) (read x) ≡ Err Cut → ⊥
not_cut true x e = cc
not_cut false x e = cc

groups_cut : (k : ℕ) (bytes : List ℕ) → groups_at k bytes ≡ Err Cut → (length bytes < k) × AreHigh bytes
groups_cut zero bytes e = absurd cc
groups_cut (suc k) [] e = (omega arith, tt)
groups_cut (suc k) (b ∷ bytes) e =
    elim (ltb b 128) as (λ t. ltb b 128 ≡ t
    → cond t (cond (is_overlong (suc k) b) (Err Overlong) (read (b, bytes))) (behind b (groups_at k bytes)) ≡ Err Cut → (length (b ∷ bytes) < suc k) × AreHigh (b ∷ bytes)) [
      | true ↦ λ h e. absurd (not_cut (is_overlong (suc k) b) (b, bytes) e)
      | false ↦ λ h e.
          let more = groups_cut k bytes (cut-behind b (groups_at k bytes) e) in
          (omega (arith, more.0), (ltb-false b 128 h, more.1))
    ] refl e

cut_groups : (k : ℕ) (bytes : List ℕ) → length bytes < k → AreHigh bytes → groups_at k bytes ≡ Err Cut
cut_groups zero bytes lt high = absurd (omega arith)
cut_groups (suc k) [] lt high = refl
cut_groups (suc k) (b ∷ bytes) lt high =
    let up : ltb b 128 ≡ false = le-ltb b 128 high.0 in
    rw up (ap (behind b) (cut_groups k bytes (omega arith) high.1))

-- ---- the whole number

pub seven_again : (n : ℕ) (rest : List ℕ) → n < 2 ^ 32 → seven_at (seven n ++ rest) ≡ read (n, rest)
unfolding seven seven_at
seven_again n rest lt = groups_again 4 n rest (omega arith) lt (λ h. absurd (omega arith))

pub seven_told : (bytes : List ℕ) (y : ℕ × List ℕ) → AreBytes bytes → seven_at bytes ≡ read y → (bytes ≡ seven y.0 ++ y.1) × (y.0 < 2 ^ 32)
unfolding seven seven_at
seven_told bytes y fits e =
    let told = groups_told 4 bytes y (omega arith) fits e in
    (told.parts, told.below)

pub seven_cut : (bytes : List ℕ) → (seven_at bytes ≡ Err Cut) ↔ IsCut bytes
unfolding seven_at
seven_cut bytes = (groups_cut 5 bytes, λ is. cut_groups 5 bytes is.0 is.1)

read_is : (a b : ℕ) (x y : List ℕ) → read (a, x) ≡ read (b, y) → (a ≡ b) × (x ≡ y)
read_is a b x y same =
    let pair : (a, x) ≡ (b, y) = cc same in
    (ap (λ (p : ℕ × List ℕ). p.0) pair, ap (λ (p : ℕ × List ℕ). p.1) pair)

-- one number at most stands at the front
pub same_sevens : (a b : ℕ) (x y : List ℕ) → a < 2 ^ 32 → b < 2 ^ 32 → seven a ++ x ≡ seven b ++ y → (a ≡ b) × (x ≡ y)
same_sevens a b x y la lb e =
    let same : read (a, x) ≡ read (b, y) = sym (seven_again a x la) ∙ ap seven_at e ∙ seven_again b y lb in
    read_is a b x y same

-- ---- a reader that keeps the rest answers of lengths

pub record ReadsNumber (bytes : List ℕ) (n : ℕ) (rest : List ℕ) : Type 0 where
  pub short : length rest ≤ length bytes
  pub front : take (length bytes - length rest) bytes ≡ seven n
  pub back : drop (length bytes - length rest) bytes ≡ rest

pub reads_number : (bytes : List ℕ) (n : ℕ) (rest : List ℕ) → AreBytes bytes → seven_at bytes ≡ read (n, rest) → ReadsNumber bytes n rest
reads_number bytes n rest fits is =
    let told = seven_told bytes (n, rest) fits is in
    let len : length bytes ≡ length (seven n) + length rest = ap length told.0 ∙ length-append (seven n) rest in
    let count : length (seven n) ≡ length bytes - length rest = omega arith in
    record {
      short = omega arith;
      front = ap (take (length bytes - length rest)) told.0 ∙ take_at (seven n) rest _ count;
      back = ap (drop (length bytes - length rest)) told.0 ∙ drop_at (seven n) rest _ count;
    }

pub reads_same : (bytes : List ℕ) (n m : ℕ) (rest after : List ℕ) → seven_at bytes ≡ read (n, rest) → m < 2 ^ 32 → bytes ≡ seven m ++ after
    → (n ≡ m) × (length bytes - length rest ≡ length (seven m))
reads_same bytes n m rest after is lt parts =
    let same : read (n, rest) ≡ read (m, after) = sym is ∙ ap seven_at parts ∙ seven_again m after lt in
    let both = read_is n m rest after same in
    (both.0, omega (arith, ap length parts, length-append (seven m) after, ap length both.1))

-- ---- the loop of the reader

-- the number whose lower groups have a value, where a unit of the next group counts so much
abbrev pub above : ℕ → ℕ → Result (ℕ × List ℕ) SevenBit → Result (ℕ × List ℕ) SevenBit
above value unit (Ok r) = Ok (value + unit * r.0, r.1)
above value unit (Err why) = Err why

pub above-behind : (value unit b : ℕ) (r : Result (ℕ × List ℕ) SevenBit) → above value unit (behind b r) ≡ above (value + (b - 128) * unit) (unit * 128) r
above-behind value unit b (Ok r) = ap (λ (n : ℕ). read (n, r.1)) (regroup value unit (b - 128) r.0)
  where
    regroup : (v u c n : ℕ) → v + u * (c + 128 * n) ≡ v + c * u + u * 128 * n
    regroup v u c n = omega arith
above-behind value unit b (Err why) = refl

pub above-none : (r : Result (ℕ × List ℕ) SevenBit) → above 0 1 r ≡ r
above-none (Ok r) = ap (λ (n : ℕ). read (n, r.1)) (alone r.0)
  where
    alone : (n : ℕ) → 0 + 1 * n ≡ n
    alone n = omega arith
above-none (Err why) = refl

front_at : (bytes : List ℕ) (p : ℕ) → p < length bytes → drop p bytes ≡ get_or bytes p 0 ∷ drop (p + 1) bytes
front_at bytes p lt = rw (add-one, drop-cons bytes p 0) refl

-- the group at a place is the last
pub last_at : (bytes : List ℕ) (p value unit : ℕ) → p < 5 → p < length bytes → get_or bytes p 0 < 128 → (p ≡ 4 → get_or bytes p 0 ≤ 15)
    → (0 < p → get_or bytes p 0 ≡ 0 → ⊥) → above value unit (groups_at (5 - p) (drop p bytes)) ≡ read (value + get_or bytes p 0 * unit, drop (p + 1) bytes)
last_at bytes p value unit few lt low small some =
    let count : 5 - p ≡ suc (4 - p) = omega arith in
    let last : ltb (get_or bytes p 0) 128 ≡ true = lt-ltb _ _ low in
    let taken : is_overlong (suc (4 - p)) (get_or bytes p 0) ≡ false = fine (4 - p) _ (λ e. omega (arith, small (omega arith))) (λ h. positive _ (some (omega arith))) in
    rw (count, front_at bytes p lt, last, taken) (ap (λ (n : ℕ). read (n, drop (p + 1) bytes)) (turned value unit (get_or bytes p 0)))
  where
    turned : (v u b : ℕ) → v + u * b ≡ v + b * u
    turned v u b = omega arith

    positive : (b : ℕ) → (b ≡ 0 → ⊥) → 0 < b
    positive b ne = omega arith

-- the group at a place says that another follows
pub more_at : (bytes : List ℕ) (p value unit : ℕ) → p < 5 → p < length bytes → 128 ≤ get_or bytes p 0
    → above value unit (groups_at (5 - p) (drop p bytes))
    ≡ above (value + (get_or bytes p 0 - 128) * unit) (unit * 128) (groups_at (5 - (p + 1)) (drop (p + 1) bytes))
more_at bytes p value unit few lt high =
    let count : 5 - p ≡ suc (5 - (p + 1)) = omega arith in
    let up : ltb (get_or bytes p 0) 128 ≡ false = le-ltb _ _ high in
    rw (count, front_at bytes p lt, up) (above-behind value unit (get_or bytes p 0) (groups_at (5 - (p + 1)) (drop (p + 1) bytes)))

pub below-more : (p value b : ℕ) → value < 128 ^ p → 128 ≤ b → b < 256 → value + (b - 128) * 128 ^ p < 128 ^ (p + 1)
below-more p value b lt high small = rw (add-one, pow-suc) (more (128 ^ p) (b - 128) lt (omega arith))
  where
    more : (u c : ℕ) → value < u → c < 128 → value + c * u < u * 128
    more u c lt small = omega (arith, mul-add-lt c u value 128 small lt)

-- ---- the loop of the writer

pub groups_more : (k n : ℕ) → k ≤ 4 → 128 ≤ n → n < reach (4 - k) → (suc k ≤ 4) × (groups (4 - k) n ≡ (n % 128 + 128) ∷ groups (4 - (k + 1)) (n / 128)) × (n / 128 < reach (4 - (k + 1)))
groups_more k n le large lt =
    let some : 4 - k ≡ 0 → ⊥ = λ e. omega (arith, (subst (λ (j : ℕ). n < reach j) e lt)) in
    let count : 4 - k ≡ suc (4 - (k + 1)) = omega arith in
    let up : ltb n 128 ≡ false = le-ltb n 128 large in
    (omega arith, rw (count, up) (ap (λ (b : ℕ). b ∷ groups (4 - (k + 1)) (n / 128)) (turned n)), reach-suc (4 - (k + 1)) n (subst (λ (j : ℕ). n < reach j) count lt))
  where
    turned : (n : ℕ) → 128 + n % 128 ≡ n % 128 + 128
    turned n = omega arith

pub groups-end : (k n : ℕ) → n < 128 → groups k n ≡ n ∷ []
groups-end k n lt = groups-last k n (lt-ltb n 128 lt)
