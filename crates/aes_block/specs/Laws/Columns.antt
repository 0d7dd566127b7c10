-- Two fixed matrices (FIPS 197, 4.3) whose product is the identity undo each other.
use Rattle.std.proofs.Common.{◌≡◌, ℕ, ◌<◌, refl, sym, ap, ◌∙◌}
use Rattle.std.specs.Prelude.{bit_xor}
use Rattle.std.proofs.lemmas.Nat.{xor_comm, xor_lt}
use lib.Bits.{xor_assoc, xor_zero_r}
use Rattle.aes_block.specs.Field.{xtime, times_bits, times}
use Rattle.aes_block.specs.Laws.Products.{xor_swap, times-xor, times-lt}
use Rattle.aes_block.specs.Laws.Tables.{same_in_table}

-- the sum of four bytes
abbrev pub sum4 : ℕ → ℕ → ℕ → ℕ → ℕ
sum4 a b c d = bit_xor (bit_xor a b) (bit_xor c d)

-- the first comes last
pub sum4_turn : (a b c d : ℕ) → sum4 a b c d ≡ sum4 b c d a
sum4_turn a b c d =
    ap (λ (x : ℕ). bit_xor x (bit_xor c d)) (xor_comm a b)
    ∙ xor_assoc b a (bit_xor c d)
    ∙ ap (λ (x : ℕ). bit_xor b x) (xor_comm a (bit_xor c d) ∙ xor_assoc c d a)
    ∙ sym (xor_assoc b c (bit_xor d a))

-- two rows of four, column by column
rows-xor : (a b c d e f g h : ℕ) → bit_xor (sum4 a b c d) (sum4 e f g h) ≡ sum4 (bit_xor a e) (bit_xor b f) (bit_xor c g) (bit_xor d h)
rows-xor a b c d e f g h =
    xor_swap (bit_xor a b) (bit_xor c d) (bit_xor e f) (bit_xor g h)
    ∙ ap (λ (x : ℕ). bit_xor x (bit_xor (bit_xor c d) (bit_xor g h))) (xor_swap a b e f)
    ∙ ap (λ (x : ℕ). bit_xor (bit_xor (bit_xor a e) (bit_xor b f)) x) (xor_swap c d g h)

-- four rows of four are summed by columns
sum4_across : (a b c d e f g h i j k l m n o p : ℕ) → sum4 (sum4 a b c d) (sum4 e f g h) (sum4 i j k l) (sum4 m n o p)
    ≡ sum4 (sum4 a e i m) (sum4 b f j n) (sum4 c g k o) (sum4 d h l p)
sum4_across a b c d e f g h i j k l m n o p =
    ap (λ (x : ℕ). bit_xor x (bit_xor (sum4 i j k l) (sum4 m n o p))) (rows-xor a b c d e f g h)
    ∙ ap (λ (x : ℕ). bit_xor (sum4 (bit_xor a e) (bit_xor b f) (bit_xor c g) (bit_xor d h)) x) (rows-xor i j k l m n o p)
    ∙ rows-xor (bit_xor a e) (bit_xor b f) (bit_xor c g) (bit_xor d h) (bit_xor i m) (bit_xor j n) (bit_xor k o) (bit_xor l p)

times-sum4 : (f a b c d : ℕ) → a < 256 → b < 256 → c < 256 → d < 256 → times f (sum4 a b c d) ≡ sum4 (times f a) (times f b) (times f c) (times f d)
times-sum4 f a b c d ha hb hc hd =
    times-xor f (bit_xor a b) (bit_xor c d) (xor_lt 8 a b ha hb) (xor_lt 8 c d hc hd)
    ∙ ap (λ (x : ℕ). bit_xor x (times f (bit_xor c d))) (times-xor f a b ha hb)
    ∙ ap (λ (x : ℕ). bit_xor (bit_xor (times f a) (times f b)) x) (times-xor f c d hc hd)

-- byte 0 of the product of a column by the fixed matrix whose first row is p0, p3, p2, p1
abbrev pub first_of : ℕ → ℕ → ℕ → ℕ → ℕ → ℕ → ℕ → ℕ → ℕ
first_of p0 p3 p2 p1 s0 s1 s2 s3 = sum4 (times p0 s0) (times p3 s1) (times p2 s2) (times p1 s3)

pub first_of-lt : (p0 p3 p2 p1 s0 s1 s2 s3 : ℕ) → s0 < 256 → s1 < 256 → s2 < 256 → s3 < 256 → first_of p0 p3 p2 p1 s0 s1 s2 s3 < 256
first_of-lt p0 p3 p2 p1 s0 s1 s2 s3 h0 h1 h2 h3 =
    xor_lt 8 _ _ (xor_lt 8 _ _ (times-lt p0 s0 h0) (times-lt p3 s1 h1)) (xor_lt 8 _ _ (times-lt p2 s2 h2) (times-lt p1 s3 h3))

-- the product is linear in the column
pub first_of-xor : (p0 p3 p2 p1 s0 s1 s2 s3 t0 t1 t2 t3 : ℕ) → s0 < 256 → s1 < 256 → s2 < 256 → s3 < 256 → t0 < 256 → t1 < 256 → t2 < 256 → t3 < 256
    → first_of p0 p3 p2 p1 (bit_xor s0 t0) (bit_xor s1 t1) (bit_xor s2 t2) (bit_xor s3 t3)
    ≡ bit_xor (first_of p0 p3 p2 p1 s0 s1 s2 s3) (first_of p0 p3 p2 p1 t0 t1 t2 t3)
first_of-xor p0 p3 p2 p1 s0 s1 s2 s3 t0 t1 t2 t3 h0 h1 h2 h3 g0 g1 g2 g3 =
    (λ i. sum4 (times-xor p0 s0 t0 h0 g0 i) (times-xor p3 s1 t1 h1 g1 i) (times-xor p2 s2 t2 h2 g2 i) (times-xor p1 s3 t3 h3 g3 i))
    ∙ sym (rows-xor (times p0 s0) (times p3 s1) (times p2 s2) (times p1 s3) (times p0 t0) (times p3 t1) (times p2 t2) (times p1 t3))

-- the fixed matrix of p times that of q is the identity, as it acts on bytes: its first row
pub record Undoes (p0 p3 p2 p1 q0 q3 q2 q1 : ℕ) : Type 0 where
  pub one : (b : ℕ) → b < 256 → sum4 (times p0 (times q0 b)) (times p3 (times q1 b)) (times p2 (times q2 b)) (times p1 (times q3 b)) ≡ b
  pub first : (b : ℕ) → b < 256 → sum4 (times p0 (times q1 b)) (times p3 (times q2 b)) (times p2 (times q3 b)) (times p1 (times q0 b)) ≡ 0
  pub second : (b : ℕ) → b < 256 → sum4 (times p0 (times q2 b)) (times p3 (times q3 b)) (times p2 (times q0 b)) (times p1 (times q1 b)) ≡ 0
  pub third : (b : ℕ) → b < 256 → sum4 (times p0 (times q3 b)) (times p3 (times q0 b)) (times p2 (times q1 b)) (times p1 (times q2 b)) ≡ 0

pub first_of-first_of : (p0 p3 p2 p1 q0 q3 q2 q1 : ℕ) → Undoes p0 p3 p2 p1 q0 q3 q2 q1
    → (s0 s1 s2 s3 : ℕ) → s0 < 256 → s1 < 256 → s2 < 256 → s3 < 256
    → first_of p0 p3 p2 p1 (first_of q0 q3 q2 q1 s0 s1 s2 s3) (first_of q0 q3 q2 q1 s1 s2 s3 s0) (first_of q0 q3 q2 q1 s2 s3 s0 s1) (first_of q0 q3 q2 q1 s3 s0 s1 s2) ≡ s0
first_of-first_of p0 p3 p2 p1 q0 q3 q2 q1 u s0 s1 s2 s3 h0 h1 h2 h3 =
    let t : ℕ → ℕ → ℕ = times in
    let r0 = times-sum4 p0 (t q0 s0) (t q3 s1) (t q2 s2) (t q1 s3) (times-lt q0 s0 h0) (times-lt q3 s1 h1) (times-lt q2 s2 h2) (times-lt q1 s3 h3) in
    let r3 = times-sum4 p3 (t q0 s1) (t q3 s2) (t q2 s3) (t q1 s0) (times-lt q0 s1 h1) (times-lt q3 s2 h2) (times-lt q2 s3 h3) (times-lt q1 s0 h0)
    ∙ sym (sum4_turn (t p3 (t q1 s0)) (t p3 (t q0 s1)) (t p3 (t q3 s2)) (t p3 (t q2 s3))) in
    let r2 = times-sum4 p2 (t q0 s2) (t q3 s3) (t q2 s0) (t q1 s1) (times-lt q0 s2 h2) (times-lt q3 s3 h3) (times-lt q2 s0 h0) (times-lt q1 s1 h1)
    ∙ sum4_turn (t p2 (t q0 s2)) (t p2 (t q3 s3)) (t p2 (t q2 s0)) (t p2 (t q1 s1))
    ∙ sum4_turn (t p2 (t q3 s3)) (t p2 (t q2 s0)) (t p2 (t q1 s1)) (t p2 (t q0 s2)) in
    let r1 = times-sum4 p1 (t q0 s3) (t q3 s0) (t q2 s1) (t q1 s2) (times-lt q0 s3 h3) (times-lt q3 s0 h0) (times-lt q2 s1 h1) (times-lt q1 s2 h2)
    ∙ sum4_turn (t p1 (t q0 s3)) (t p1 (t q3 s0)) (t p1 (t q2 s1)) (t p1 (t q1 s2)) in
    (λ i. sum4 (r0 i) (r3 i) (r2 i) (r1 i))
    ∙ sum4_across
    (t p0 (t q0 s0)) (t p0 (t q3 s1)) (t p0 (t q2 s2)) (t p0 (t q1 s3))
    (t p3 (t q1 s0)) (t p3 (t q0 s1)) (t p3 (t q3 s2)) (t p3 (t q2 s3))
    (t p2 (t q2 s0)) (t p2 (t q1 s1)) (t p2 (t q0 s2)) (t p2 (t q3 s3))
    (t p1 (t q3 s0)) (t p1 (t q2 s1)) (t p1 (t q1 s2)) (t p1 (t q0 s3))
    ∙ (λ i. sum4 (u.one s0 h0 i) (u.third s1 h1 i) (u.second s2 h2 i) (u.first s3 h3 i))
    ∙ xor_zero_r (bit_xor s0 0) ∙ xor_zero_r s0

-- the matrix of InvMixColumns times that of MixColumns
pub unmixes : Undoes 14 11 13 9 2 3 1 1
unfolding xtime times_bits times
unmixes = record {
  one = same_in_table _ (λ b. b) 256 refl;
  first = same_in_table _ (λ b. 0) 256 refl;
  second = same_in_table _ (λ b. 0) 256 refl;
  third = same_in_table _ (λ b. 0) 256 refl;
}

-- the matrix of MixColumns times that of InvMixColumns
pub remixes : Undoes 2 3 1 1 14 11 13 9
unfolding xtime times_bits times
remixes = record {
  one = same_in_table _ (λ b. b) 256 refl;
  first = same_in_table _ (λ b. 0) 256 refl;
  second = same_in_table _ (λ b. 0) 256 refl;
  third = same_in_table _ (λ b. 0) 256 refl;
}
