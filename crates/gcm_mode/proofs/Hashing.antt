-- Bytes as blocks that are filled with zeros, and the hash of one list of blocks after another.
use Rattle.std.proofs.Common.{◌≡◌, ℕ, zero, suc, ◌+◌, ◌-◌, ◌*◌, ◌/◌, ◌%◌, ◌<◌, ◌≤◌, List, [], ◌∷◌, ◌++◌, length, take, drop, replicate, refl, sym, ap, ◌∙◌, inl, inr, arith, length-append, length-drop}
use Rattle.std.proofs.lemmas.Bool.{cases_lt}
use Rattle.std.proofs.lemmas.List.{append-nil, take_all, drop_all, drop-drop, length-replicate, length-take-le, take-append-le, drop-append-le}
use Rattle.std.specs.Simd.{first_chunks}
use Rattle.dp_base.specs.Split.{blocks}
use Rattle.dp_base.proofs.Split.{blocks-cons}
use Rattle.gcm_mode.specs.Ghash.{absorb, hash_blocks, zero_filled}

-- the block that a piece of bytes begins
abbrev pub filled : List ℕ → List ℕ
filled piece = piece ++ replicate (16 - length piece) 0

whole_piece : (bytes : List ℕ) → 16 ≤ length bytes →
    blocks (zero_filled bytes) ≡ filled (take 16 bytes) ∷ blocks (zero_filled (drop 16 bytes))
whole_piece bytes le =
    let zeros : List ℕ = replicate ((16 - length bytes % 16) % 16) 0 in
    let n = length-append bytes zeros in
    let rest = length-drop 16 bytes in
    let full = length-take-le 16 bytes le in
    let none : 16 - length (take 16 bytes) ≡ 0 = omega arith in
    let same : length bytes % 16 ≡ length (drop 16 bytes) % 16 = omega arith in
    rw (blocks-cons (bytes ++ zeros) (omega arith), take-append-le 16 bytes zeros le, drop-append-le 16 bytes zeros le, none, append-nil, same) refl

last_piece : (bytes : List ℕ) → 0 < length bytes → length bytes < 16 →
    blocks (zero_filled bytes) ≡ filled (take 16 bytes) ∷ blocks (zero_filled (drop 16 bytes))
last_piece bytes some short =
    let all : take 16 bytes ≡ bytes = take_all 16 bytes (omega arith) in
    let none : drop 16 bytes ≡ [] = drop_all 16 bytes (omega arith) in
    let count : (16 - length bytes % 16) % 16 ≡ 16 - length bytes = omega arith in
    let zeros : List ℕ = replicate (16 - length bytes) 0 in
    let n = length-append bytes zeros in
    let m : length zeros ≡ 16 - length bytes = length-replicate (16 - length bytes) 0 in
    rw (count, blocks-cons (bytes ++ zeros) (omega arith), take_all 16 (bytes ++ zeros) (omega arith), drop_all 16 (bytes ++ zeros) (omega arith), all, none) refl

-- the first 16 bytes, or fewer at the end, are one block
pub blocks-zero_filled : (bytes : List ℕ) → 0 < length bytes →
    blocks (zero_filled bytes) ≡ filled (take 16 bytes) ∷ blocks (zero_filled (drop 16 bytes))
blocks-zero_filled bytes some =
    elim (cases_lt (length bytes) 16) [ inl lt ↦ last_piece bytes some lt | inr le ↦ whole_piece bytes le ]

pub zero_filled-whole : (bytes : List ℕ) → length (zero_filled bytes) % 16 ≡ 0
zero_filled-whole bytes =
    let zeros : List ℕ = replicate ((16 - length bytes % 16) % 16) 0 in
    let n = length-append bytes zeros in
    let m : length zeros ≡ (16 - length bytes % 16) % 16 = length-replicate ((16 - length bytes % 16) % 16) 0 in
    omega arith

blocks-append-by : (n : ℕ) (xs ys : List ℕ) → length xs ≡ 16 * n → blocks (xs ++ ys) ≡ blocks xs ++ blocks ys
blocks-append-by zero [] ys e = refl
blocks-append-by zero (x ∷ xs) ys e = absurd (omega arith)
blocks-append-by (suc n) xs ys e =
    let le : 16 ≤ length xs = omega arith in
    let long = length-append xs ys in
    let rest = length-drop 16 xs in
    let front = take-append-le 16 xs ys le in
    let back = drop-append-le 16 xs ys le in
    rw (blocks-cons (xs ++ ys) (omega arith), blocks-cons xs le, front, back, blocks-append-by n (drop 16 xs) ys (omega arith)) refl

-- the blocks of whole blocks, and of what follows them
pub blocks-append : (xs ys : List ℕ) → length xs % 16 ≡ 0 → blocks (xs ++ ys) ≡ blocks xs ++ blocks ys
blocks-append xs ys whole = blocks-append-by (length xs / 16) xs ys (omega arith)

pub hash_blocks-append : (h y : ℕ) (xs ys : List (List ℕ)) → hash_blocks h y (xs ++ ys) ≡ hash_blocks h (hash_blocks h y xs) ys
hash_blocks-append h y [] ys = refl
hash_blocks-append h y (x ∷ xs) ys = hash_blocks-append h (absorb h y x) xs ys

-- the block that what is left of bytes begins, if there is any
abbrev pub ends : List ℕ → List (List ℕ)
ends [] = []
ends (x ∷ xs) = filled (x ∷ xs) ∷ []

pub ends-some : (bytes : List ℕ) → 0 < length bytes → ends bytes ≡ filled bytes ∷ []
ends-some [] some = absurd (omega arith)
ends-some (x ∷ xs) some = refl

one_block : (bytes : List ℕ) → 0 < length bytes → length bytes < 16 → blocks (zero_filled bytes) ≡ filled bytes ∷ []
one_block bytes some short =
    let all = take_all 16 bytes (omega arith) in
    let none = drop_all 16 bytes (omega arith) in
    blocks-zero_filled bytes some ∙ rw (all, none) refl

short_blocks : (bytes : List ℕ) → length bytes < 16 → blocks (zero_filled bytes) ≡ ends bytes
short_blocks [] short = refl
short_blocks (x ∷ xs) short = one_block (x ∷ xs) (omega arith) short

whole_blocks : (n : ℕ) (bytes : List ℕ) → n ≡ length bytes / 16 →
    blocks (zero_filled bytes) ≡ first_chunks 16 n bytes ++ ends (drop (n * 16) bytes)
whole_blocks zero bytes e = short_blocks bytes (omega arith)
whole_blocks (suc n) bytes e =
    let le : 16 ≤ length bytes = omega arith in
    let rest = length-drop 16 bytes in
    let full = length-take-le 16 bytes le in
    let none : 16 - length (take 16 bytes) ≡ 0 = omega arith in
    let front : filled (take 16 bytes) ≡ take 16 bytes = rw (none, append-nil) refl in
    let past : suc n * 16 ≡ 16 + n * 16 = omega arith in
    let back : drop (n * 16) (drop 16 bytes) ≡ drop (suc n * 16) bytes = drop-drop (n * 16) 16 bytes ∙ ap (λ (i : ℕ). drop i bytes) (sym past) in
    blocks-zero_filled bytes (omega arith) ∙ rw (front, whole_blocks n (drop 16 bytes) (omega arith), back) refl

-- the whole blocks of bytes, and what is left of them, filled
pub blocks-parts : (bytes : List ℕ) →
    blocks (zero_filled bytes) ≡ first_chunks 16 (length bytes / 16) bytes ++ ends (drop (length bytes / 16 * 16) bytes)
blocks-parts bytes = whole_blocks (length bytes / 16) bytes refl

-- the hash of whole blocks and of the block that ends them
pub hash_blocks-parts : (h y : ℕ) (bytes rest : List ℕ) (whole : List (List ℕ)) →
    whole ≡ first_chunks 16 (length bytes / 16) bytes → rest ≡ drop (length bytes / 16 * 16) bytes →
    hash_blocks h (hash_blocks h y whole) (ends rest) ≡ hash_blocks h y (blocks (zero_filled bytes))
hash_blocks-parts h y bytes rest whole front back =
    sym (hash_blocks-append h y whole (ends rest)) ∙ rw (front, back, ← blocks-parts bytes) refl
