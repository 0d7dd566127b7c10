-- Counter mode piece by piece, and that it undoes itself.
use Rattle.std.proofs.Common.{◌≡◌, ℕ, zero, suc, ◌+◌, ◌-◌, ◌*◌, ◌<◌, ◌≤◌, List, [], ◌∷◌, ◌++◌, length, take, drop, refl, sym, ap, ◌∙◌, arith, lit<, min, bit_xor, append_assoc, length-append, length-drop}
use Rattle.std.specs.Int.{w32, to_be_bytes, div_ceil}
use Rattle.std.specs.Int.Bits.{xor_assoc, xor_self, xor_zero_r}
use Rattle.std.proofs.lemmas.List.{append-nil, drop_all, take_at, drop_at, take_min, length-take, drop-drop}
use Rattle.std.proofs.lemmas.Slice.{take-put_mid, drop-put_mid}
use borrow.Rule.Slice.PartMut.{put_mid}
use Rattle.dp_base.specs.Blocks.{AreBytes, IsBlock, xor_bytes}
use Rattle.dp_base.proofs.Parts.{AreBytes-append}
use Rattle.dp_base.proofs.Sums.{AreBytes-xor}
use Rattle.gcm_mode.specs.Ctr.{counter_block, key_stream, gctr, ctr}

-- ---- the sum of lists of different lengths

pub length-xor_bytes-le : (xs ys : List ℕ) → length xs ≤ length ys → length (xor_bytes xs ys) ≡ length xs
length-xor_bytes-le [] ys le = refl
length-xor_bytes-le (x ∷ xs) [] le = absurd (omega arith)
length-xor_bytes-le (x ∷ xs) (y ∷ ys) le = ap suc (length-xor_bytes-le xs ys (omega arith))

xor_bytes-twice-le : (xs ys : List ℕ) → length xs ≤ length ys → xor_bytes (xor_bytes xs ys) ys ≡ xs
xor_bytes-twice-le [] ys le = refl
xor_bytes-twice-le (x ∷ xs) [] le = absurd (omega arith)
xor_bytes-twice-le (x ∷ xs) (y ∷ ys) le =
    let here : bit_xor (bit_xor x y) y ≡ x = rw (xor_assoc, xor_self, xor_zero_r) in
    let rest = xor_bytes-twice-le xs ys (omega arith) in
    cc

xor_bytes-append : (xs ys zs : List ℕ) → xor_bytes xs (ys ++ zs) ≡ xor_bytes (take (length ys) xs) ys ++ xor_bytes (drop (length ys) xs) zs
xor_bytes-append xs [] zs = refl
xor_bytes-append [] (y ∷ ys) zs = refl
xor_bytes-append (x ∷ xs) (y ∷ ys) zs = ap (λ rest. bit_xor x y ∷ rest) (xor_bytes-append xs ys zs)

-- ---- piece by piece

-- the nonce stands in front, and the number behind it
pub counter_block-made : (nonce number zeros : List ℕ) → length nonce ≡ 12 → length zeros ≡ 4 →
    put_mid 12 4 (nonce ++ zeros) number ≡ nonce ++ number
counter_block-made nonce number zeros len four =
    rw (take_at nonce zeros 12 len, drop_at nonce zeros 12 len, drop_all 4 zeros (omega arith), append-nil) refl

-- the first 16 bytes, or fewer at the end, take one block of the key stream
pub gctr-cons : (f : List ℕ → List ℕ) (nonce : List ℕ) (number : ℕ) (text : List ℕ) → 0 < length text →
    length (f (counter_block nonce number)) ≡ 16 →
    gctr f nonce number text ≡ xor_bytes (take 16 text) (f (counter_block nonce number)) ++ gctr f nonce (number + 1) (drop 16 text)
gctr-cons f nonce number text some full =
    let rest = length-drop 16 text in
    let count : div_ceil (length text) 16 ≡ suc (div_ceil (length (drop 16 text)) 16) = omega arith in
    let both = xor_bytes-append text (f (counter_block nonce number)) (key_stream f nonce (number + 1) (div_ceil (length (drop 16 text)) 16)) in
    rw count (rw full at both)

-- The whole result is what was written so far, and what the rest gives. Where the rest gives ys and
-- then what next gives, ys is written over the piece of the k bytes from the place a to the place e.
pub written : (rest next : List ℕ → List ℕ) (whole bytes ys : List ℕ) (a b k e : ℕ) → b ≡ a + 16 →
    e ≡ min (length bytes) b → k ≡ e - a → a < length bytes → length ys ≡ k →
    whole ≡ take a bytes ++ rest (drop a bytes) → rest (drop a bytes) ≡ ys ++ next (drop 16 (drop a bytes)) →
    whole ≡ take b (put_mid a k bytes ys) ++ next (drop b (put_mid a k bytes ys))
written rest next whole bytes ys a b k e wide end part within full so_far step =
    let size : length (put_mid a k bytes ys) ≡ length bytes = simp (length-append, length-take, length-drop) (omega arith) in
    let cut = take_min b (put_mid a k bytes ys) in
    let short : min b (length (put_mid a k bytes ys)) ≡ e = omega arith in
    let front = take-put_mid a k bytes ys e (omega arith) (omega arith) in
    let back = drop-put_mid a k bytes ys b (omega arith) (omega arith) full in
    let past = rw (← wide) at (drop-drop 16 a bytes) in
    let all : take b (put_mid a k bytes ys) ≡ take a bytes ++ ys = sym cut ∙ ap (λ (n : ℕ). take n (put_mid a k bytes ys)) short ∙ front in
    rw (all, back, append_assoc, ← past, ← step) so_far

-- a short piece has what its place has
pub take-piece : (bytes : List ℕ) (a e : ℕ) → e ≡ min (length bytes) (a + 16) → take (e - a) (drop a bytes) ≡ take 16 (drop a bytes)
take-piece bytes a e end =
    let rest = length-drop a bytes in
    let count : e - a ≡ min 16 (length (drop a bytes)) = omega arith in
    rw count (take_min 16 (drop a bytes))

-- the step of a piece from the place 16 i to the place e, of k bytes, under the number i + 2
pub gctr-piece : (f : List ℕ → List ℕ) (nonce whole bytes ys : List ℕ) (i e k : ℕ) →
    length (f (counter_block nonce (2 + i))) ≡ 16 → e ≡ min (length bytes) (16 * i + 16) → k ≡ e - 16 * i →
    16 * i < length bytes → ys ≡ xor_bytes (take k (drop (16 * i) bytes)) (f (counter_block nonce (2 + i))) →
    whole ≡ take (16 * i) bytes ++ gctr f nonce (2 + i) (drop (16 * i) bytes) →
    whole ≡ take (16 * (i + 1)) (put_mid (16 * i) k bytes ys) ++ gctr f nonce (2 + (i + 1)) (drop (16 * (i + 1)) (put_mid (16 * i) k bytes ys))
gctr-piece f nonce whole bytes ys i e k full end part within is so_far =
    let rest = length-drop (16 * i) bytes in
    let number : 2 + i + 1 ≡ 2 + (i + 1) = omega arith in
    let next : 16 * (i + 1) ≡ 16 * i + 16 = omega arith in
    let step = rw number at (gctr-cons f nonce (2 + i) (drop (16 * i) bytes) (omega arith) full) in
    let piece = rw (← part) at (take-piece bytes (16 * i) e end) in
    let same : ys ≡ xor_bytes (take 16 (drop (16 * i) bytes)) (f (counter_block nonce (2 + i))) = is ∙ rw piece refl in
    let short = length-take k (drop (16 * i) bytes) in
    let all = length-xor_bytes-le (take k (drop (16 * i) bytes)) (f (counter_block nonce (2 + i))) (omega arith) in
    let len : length ys ≡ k = ap length is ∙ omega arith in
    written (gctr f nonce (2 + i)) (gctr f nonce (2 + (i + 1))) whole bytes ys (16 * i) (16 * (i + 1)) k e
    next (rw next end) part within len so_far (rw same step)

-- ---- counter mode undoes itself, where the cipher keeps blocks blocks

AreBytes-be32 : (n : ℕ) → AreBytes (to_be_bytes w32 n)
AreBytes-be32 n zero = omega arith
AreBytes-be32 n (suc zero) = omega arith
AreBytes-be32 n (suc (suc zero)) = omega arith
AreBytes-be32 n (suc (suc (suc zero))) = omega arith
AreBytes-be32 n (suc (suc (suc (suc i)))) = lit< tt

module _ (f : List ℕ → List ℕ) (keeps : (b : List ℕ) → IsBlock b → IsBlock (f b)) (nonce : List ℕ) (len : length nonce ≡ 12) (are : AreBytes nonce) where
  pub IsBlock-counter_block : (number : ℕ) → IsBlock (counter_block nonce number)
  IsBlock-counter_block number =
      let n = length-append nonce (to_be_bytes w32 number) in
      (omega arith, AreBytes-append nonce (to_be_bytes w32 number) are (AreBytes-be32 number))

  pub length-key_stream : (number n : ℕ) → length (key_stream f nonce number n) ≡ 16 * n
  length-key_stream number zero = refl
  length-key_stream number (suc n) =
      let here = (keeps (counter_block nonce number) (IsBlock-counter_block number)).0 in
      let rest = length-key_stream (number + 1) n in
      let both = length-append (f (counter_block nonce number)) (key_stream f nonce (number + 1) n) in
      omega arith

  AreBytes-key_stream : (number n : ℕ) → AreBytes (key_stream f nonce number n)
  AreBytes-key_stream number zero = λ i. lit< tt
  AreBytes-key_stream number (suc n) =
      AreBytes-append (f (counter_block nonce number)) (key_stream f nonce (number + 1) n)
      ((keeps (counter_block nonce number) (IsBlock-counter_block number)).1) (AreBytes-key_stream (number + 1) n)

  long_enough : (number : ℕ) (text : List ℕ) → length text ≤ length (key_stream f nonce number (div_ceil (length text) 16))
  long_enough number text = let n = length-key_stream number (div_ceil (length text) 16) in omega arith

  pub length-ctr : (text : List ℕ) → length (ctr f nonce text) ≡ length text
  unfolding ctr
  length-ctr text = length-xor_bytes-le text (key_stream f nonce 2 (div_ceil (length text) 16)) (long_enough 2 text)

  pub ctr-ctr : (text : List ℕ) → ctr f nonce (ctr f nonce text) ≡ text
  unfolding ctr
  ctr-ctr text =
      let enough = long_enough 2 text in
      rw (length-xor_bytes-le text (key_stream f nonce 2 (div_ceil (length text) 16)) enough)
      (xor_bytes-twice-le text (key_stream f nonce 2 (div_ceil (length text) 16)) enough)

  pub AreBytes-ctr : (text : List ℕ) → AreBytes text → AreBytes (ctr f nonce text)
  unfolding ctr
  AreBytes-ctr text bytes = AreBytes-xor text (key_stream f nonce 2 (div_ceil (length text) 16)) bytes (AreBytes-key_stream 2 (div_ceil (length text) 16))
