-- A table lists the values of a function, so what computes of the table holds at each entry.
use Rattle.std.proofs.Common.{◌≡◌, ℕ, zero, suc, ◌<◌, List, [], ◌∷◌, ◌++◌, length, slice_index, refl, sym, ap, ◌∙◌, arith, inl, inr}
use Rattle.std.proofs.lemmas.List.{get_or_append_left, get_or_push, length_push}
use Rattle.std.proofs.lemmas.Bool.{cases_lt}

-- f 0, …, f (n - 1)
abbrev pub table_of : (ℕ → ℕ) → ℕ → List ℕ
table_of f zero = []
table_of f (suc n) = table_of f n ++ f n ∷ []

pub length-table_of : (f : ℕ → ℕ) (n : ℕ) → length (table_of f n) ≡ n
length-table_of f zero = refl
length-table_of f (suc n) = omega (arith, length_push (table_of f n) (f n), length-table_of f n)

pub slice_index-table_of : (f : ℕ → ℕ) (n i : ℕ) → i < n → slice_index (table_of f n) i ≡ f i
slice_index-table_of f zero i h = absurd (omega arith)
slice_index-table_of f (suc n) i h =
    let len : length (table_of f n) ≡ n = length-table_of f n in
    elim (cases_lt i n) [
      | inl below ↦ get_or_append_left (table_of f n) (f n ∷ []) 0 i (omega arith) ∙ slice_index-table_of f n i below
      | inr above ↦
          let last : i ≡ n = omega arith in
          rw last (get_or_push (table_of f n) (f n) 0 n len)
    ]

-- two functions with one table agree at each of its places
pub same_in_table : (f g : ℕ → ℕ) (n : ℕ) → table_of f n ≡ table_of g n → (i : ℕ) → i < n → f i ≡ g i
same_in_table f g n same i h =
    sym (slice_index-table_of f n i h) ∙ ap (λ (t : List ℕ). slice_index t i) same ∙ slice_index-table_of g n i h
