-- Lists of bytes: what keeps every number a byte, and what gives a list back.
use Rattle.std.proofs.Common.{◌≡◌, ℕ, zero, suc, ◌<◌, List, [], ◌∷◌, ◌++◌, length, map, slice_index, refl, arith, lit<, mod-lt}
use Rattle.std.specs.List.{range_with_len}
use Rattle.std.specs.Int.{w32, byte_at, bytes_high_first, to_be_bytes}
use Rattle.std.proofs.lemmas.List.{append_assoc, get_or_at, length_push}
use Rattle.dp_base.specs.Blocks.{AreBytes}

pub AreBytes-nil : AreBytes []
AreBytes-nil i = lit< tt

pub AreBytes-cons : (x : ℕ) (xs : List ℕ) → x < 256 → AreBytes xs → AreBytes (x ∷ xs)
AreBytes-cons x xs h hs zero = h
AreBytes-cons x xs h hs (suc i) = hs i

pub AreBytes-four : (a b c d : ℕ) → a < 256 → b < 256 → c < 256 → d < 256 → AreBytes (a ∷ b ∷ c ∷ d ∷ [])
AreBytes-four a b c d ha hb hc hd =
    AreBytes-cons a (b ∷ c ∷ d ∷ []) ha (AreBytes-cons b (c ∷ d ∷ []) hb (AreBytes-cons c (d ∷ []) hc (AreBytes-cons d [] hd AreBytes-nil)))

-- where f gives bytes for all numbers
pub AreBytes-map_all : (f : ℕ → ℕ) → ((x : ℕ) → f x < 256) → (xs : List ℕ) → AreBytes (map f xs)
AreBytes-map_all f h [] = AreBytes-nil
AreBytes-map_all f h (x ∷ xs) = AreBytes-cons (f x) (map f xs) (h x) (AreBytes-map_all f h xs)

-- where f gives bytes for bytes
pub AreBytes-map : (f : ℕ → ℕ) → ((x : ℕ) → x < 256 → f x < 256) → (xs : List ℕ) → AreBytes xs → AreBytes (map f xs)
AreBytes-map f h [] hx = AreBytes-nil
AreBytes-map f h (x ∷ xs) hx = AreBytes-cons (f x) (map f xs) (h x (hx 0)) (AreBytes-map f h xs (λ i. hx (suc i)))

pub map-map : (f g : ℕ → ℕ) → ((x : ℕ) → x < 256 → g (f x) ≡ x) → (xs : List ℕ) → AreBytes xs → map g (map f xs) ≡ xs
map-map f g h [] hx = refl
map-map f g h (x ∷ xs) hx = let rest = map-map f g h xs (λ i. hx (suc i)) in λ i. h x (hx 0) i ∷ rest i

byte_at-lt : (k n : ℕ) → byte_at k n < 256
byte_at-lt zero n = mod-lt n (lit< tt)
byte_at-lt (suc k) n = mod-lt _ (lit< tt)

AreBytes-bytes_high_first : (k n : ℕ) → AreBytes (bytes_high_first k n)
AreBytes-bytes_high_first zero n = AreBytes-nil
AreBytes-bytes_high_first (suc k) n = AreBytes-cons (byte_at k n) (bytes_high_first k n) (byte_at-lt k n) (AreBytes-bytes_high_first k n)

pub AreBytes-to_be_bytes : (word : ℕ) → AreBytes (to_be_bytes w32 word)
AreBytes-to_be_bytes word = AreBytes-bytes_high_first 4 word

listed_from : (n : ℕ) (before xs : List ℕ) → length xs ≡ n → map (λ i. slice_index (before ++ xs) i) (range_with_len (length before) n) ≡ xs
listed_from zero before [] h = refl
listed_from zero before (x ∷ xs) h = absurd (omega arith)
listed_from (suc n) before [] h = absurd (omega arith)
listed_from (suc n) before (x ∷ xs) h =
    let first : slice_index (before ++ x ∷ xs) (length before) ≡ x = get_or_at before x xs 0 (length before) refl in
    let rest = rw (length_push before x, append_assoc) at (listed_from n (before ++ x ∷ []) xs (omega arith)) in
    λ i. first i ∷ rest i

-- the bytes at the places 0, …, n - 1 of a list of n
pub listed : (n : ℕ) (xs : List ℕ) → length xs ≡ n → map (λ i. slice_index xs i) (range_with_len 0 n) ≡ xs
listed n xs h = listed_from n [] xs h
