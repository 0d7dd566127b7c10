-- A table of four parts, each of which lists the values of a function.
use Rattle.std.proofs.Common.{◌≡◌, ℕ, ◌+◌, ◌<◌, List, ◌++◌, length, slice_index, ap, ◌∙◌, arith}
use Rattle.std.proofs.lemmas.List.{get_or_append_left, get_or-append-add}
use Rattle.aes_block.specs.Laws.Tables.{length-table_of, slice_index-table_of, table_of}

-- f 0, …, f (n - 1), and then the same of g, h and k
abbrev pub rows : (f g h k : ℕ → ℕ) → ℕ → List ℕ
rows f g h k n = table_of f n ++ (table_of g n ++ (table_of h n ++ table_of k n))

-- an entry of the first part, and one past it
here : (f : ℕ → ℕ) (n i : ℕ) (rest : List ℕ) → i < n → slice_index (table_of f n ++ rest) i ≡ f i
here f n i rest within =
    get_or_append_left (table_of f n) rest 0 i (omega (arith, length-table_of f n)) ∙ slice_index-table_of f n i within

past : (f : ℕ → ℕ) (n i j : ℕ) (rest : List ℕ) → j ≡ n + i → slice_index (table_of f n ++ rest) j ≡ slice_index rest i
past f n i j rest e =
    let at : j ≡ length (table_of f n) + i = omega (arith, length-table_of f n) in
    ap (λ (m : ℕ). slice_index (table_of f n ++ rest) m) at ∙ get_or-append-add (table_of f n) rest i 0

module _ (f g h k : ℕ → ℕ) (n i : ℕ) where
  pub in_first : i < n → slice_index (rows f g h k n) i ≡ f i
  in_first within = here f n i (table_of g n ++ (table_of h n ++ table_of k n)) within

  pub in_second : (j : ℕ) → j ≡ n + i → i < n → slice_index (rows f g h k n) j ≡ g i
  in_second j e within =
      past f n i j (table_of g n ++ (table_of h n ++ table_of k n)) e ∙ here g n i (table_of h n ++ table_of k n) within

  pub in_third : (j : ℕ) → j ≡ n + n + i → i < n → slice_index (rows f g h k n) j ≡ h i
  in_third j e within =
      past f n (n + i) j (table_of g n ++ (table_of h n ++ table_of k n)) (omega arith)
      ∙ past g n i (n + i) (table_of h n ++ table_of k n) (omega arith) ∙ here h n i (table_of k n) within

  pub in_fourth : (j : ℕ) → j ≡ n + n + n + i → i < n → slice_index (rows f g h k n) j ≡ k i
  in_fourth j e within =
      past f n (n + n + i) j (table_of g n ++ (table_of h n ++ table_of k n)) (omega arith)
      ∙ past g n (n + i) (n + n + i) (table_of h n ++ table_of k n) (omega arith)
      ∙ past h n i (n + i) (table_of k n) (omega arith) ∙ slice_index-table_of k n i within
