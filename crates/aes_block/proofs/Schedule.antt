-- The schedule of a key: each word from the words before it, and the key in its first words.
use Rattle.std.proofs.Common.{◌≡◌, ℕ, zero, suc, ◌+◌, ◌-◌, ◌*◌, ◌<◌, ◌≤◌, List, [], ◌∷◌, ◌++◌, length, set, take, slice_index, bit_xor, refl, sym, ◌∙◌, add-one, arith, inl, inr, le-ltb, lt-ltb}
use Rattle.std.specs.Int.{w32, from_be_bytes, to_be_bytes}
use Rattle.std.specs.List.{flat_map}
use Rattle.std.proofs.lemmas.Bool.{cases_lt}
use Rattle.std.proofs.lemmas.List.{append_assoc, flat_map_more, get_or-take, length_push, take-append-le, take_all, take_more, take_more_set}
use Rattle.std.proofs.lemmas.Nat.{be_bytes_4}
use Rattle.dp_base.specs.Blocks.{AreBytes}
use Rattle.aes_block.specs.KeyExpansion.{IsKeyLength, added_word, first_words, key_words, next_word}
use Rattle.aes_block.specs.Laws.Bytes.{AreBytes-four}

-- a key has 4 to 8 words
pub key_words-some : (key : List ℕ) → IsKeyLength (length key) → 4 ≤ key_words key
key_words-some key (inl short) = omega arith
key_words-some key (inr (inl middle)) = omega arith
key_words-some key (inr (inr long)) = omega arith

pub key_words-few : (key : List ℕ) → IsKeyLength (length key) → key_words key ≤ 8
key_words-few key (inl short) = omega arith
key_words-few key (inr (inl middle)) = omega arith
key_words-few key (inr (inr long)) = omega arith

pub length-first_words : (key : List ℕ) (n : ℕ) → length (first_words key n) ≡ n
unfolding first_words
length-first_words key zero = refl
length-first_words key (suc n) =
    omega (arith, length_push (first_words key n) (next_word key (first_words key n) n), length-first_words key n)

pub take-first_words : (key : List ℕ) (n m : ℕ) → n ≤ m → take n (first_words key m) ≡ first_words key n
unfolding first_words
take-first_words key n zero h = let none : n ≡ 0 = omega arith in rw none refl
take-first_words key n (suc m) h = elim (cases_lt m n) [
  | inl above ↦
      let all : n ≡ suc m = omega arith in
      rw all (take_all (suc m) (first_words key (suc m)) (omega (arith, length-first_words key (suc m))))
  | inr below ↦
      take-append-le n (first_words key m) (next_word key (first_words key m) m ∷ []) (omega (arith, length-first_words key m))
      ∙ take-first_words key n m below
]

-- the first words are the key's
pub next_word-first : (key words : List ℕ) (i : ℕ) → i < key_words key → next_word key words i
    ≡ from_be_bytes w32 (slice_index key (4 * i) ∷ slice_index key (4 * i + 1) ∷ slice_index key (4 * i + 2) ∷ slice_index key (4 * i + 3) ∷ [])
unfolding next_word
next_word-first key words i h = rw (lt-ltb i (key_words key) h) refl

pub next_word-later : (key words : List ℕ) (i : ℕ) → key_words key ≤ i → next_word key words i
    ≡ bit_xor (slice_index words (i - key_words key)) (added_word (key_words key) i (slice_index words (i - 1)))
unfolding next_word
next_word-later key words i h = rw (le-ltb i (key_words key) h) refl

-- a word sees only the words before it
next_word-take : (key words : List ℕ) (i : ℕ) → 0 < key_words key → next_word key (take i words) i ≡ next_word key words i
next_word-take key words i some = elim (cases_lt i (key_words key)) [
  | inl first ↦ next_word-first key (take i words) i first ∙ sym (next_word-first key words i first)
  | inr later ↦
      next_word-later key (take i words) i later
      ∙ rw (get_or-take i words (i - key_words key) 0 (omega arith), get_or-take i words (i - 1) 0 (omega arith))
      (sym (next_word-later key words i later))
]

-- the words before i are the schedule's, and so is the next one
pub first_words_more : (key words : List ℕ) (i : ℕ) → 0 < key_words key → i < length words → take i words ≡ first_words key i
    → take (i + 1) (set words i (next_word key words i)) ≡ first_words key (i + 1)
unfolding first_words
first_words_more key words i some h held =
    rw (take_more_set words i (next_word key words i) h, ← (next_word-take key words i some), held, add-one) refl

take_four : (xs : List ℕ) (i j k l m : ℕ) → j ≡ i + 1 → k ≡ j + 1 → l ≡ k + 1 → m ≡ l + 1 → l < length xs
    → take m xs ≡ take i xs ++ slice_index xs i ∷ slice_index xs j ∷ slice_index xs k ∷ slice_index xs l ∷ []
take_four xs i j k l m ej ek el em h =
    rw (em, take_more xs l 0 h) (rw (el, take_more xs k 0 (omega arith)) (rw (ek, take_more xs j 0 (omega arith)) (rw (ej, take_more xs i 0 (omega arith)) (simp append_assoc))))

-- the words of a key as bytes
pub flat_map-first_words : (key : List ℕ) (n : ℕ) → AreBytes key → n ≤ key_words key
    → flat_map (to_be_bytes w32) (first_words key n) ≡ take (4 * n) key
unfolding first_words
flat_map-first_words key zero bytes h = refl
flat_map-first_words key (suc n) bytes h =
    let words : List ℕ = first_words key n in
    let at : ℕ → ℕ = λ i. slice_index key i in
    let four : List ℕ = at (4 * n) ∷ at (4 * n + 1) ∷ at (4 * n + 2) ∷ at (4 * n + 3) ∷ [] in
    let fours : AreBytes four = AreBytes-four (at (4 * n)) (at (4 * n + 1)) (at (4 * n + 2)) (at (4 * n + 3)) (bytes (4 * n)) (bytes (4 * n + 1)) (bytes (4 * n + 2)) (bytes (4 * n + 3)) in
    let word : to_be_bytes w32 (next_word key words n) ≡ four =
    be_bytes_4 four (next_word key words n) refl fours (next_word-first key words n (omega arith)) in
    sym (flat_map_more (to_be_bytes w32) [] words (next_word key words n))
    ∙ (λ i. flat_map-first_words key n bytes (omega arith) i ++ word i)
    ∙ sym (take_four key (4 * n) (4 * n + 1) (4 * n + 2) (4 * n + 3) (4 * suc n) refl (omega arith) (omega arith) (omega arith) (omega arith))
