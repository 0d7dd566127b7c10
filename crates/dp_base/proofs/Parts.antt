-- Parts and joins of lists of bytes.
use Rattle.std.proofs.Common.{ℕ, zero, suc, ◌<◌, List, [], ◌∷◌, ◌++◌, Fits, w8, slice_index, take, drop, replicate, lit<}
use Rattle.std.proofs.Math.Facts.{Fits-lt-pow}
use Rattle.dp_base.specs.Blocks.{AreBytes}

pub AreBytes-take : (n : ℕ) (bytes : List ℕ) → AreBytes bytes → AreBytes (take n bytes)
AreBytes-take zero bytes p i = lit< tt
AreBytes-take (suc n) [] p i = lit< tt
AreBytes-take (suc n) (x ∷ xs) p zero = p 0
AreBytes-take (suc n) (x ∷ xs) p (suc i) = AreBytes-take n xs (λ j. p (suc j)) i

pub AreBytes-drop : (n : ℕ) (bytes : List ℕ) → AreBytes bytes → AreBytes (drop n bytes)
AreBytes-drop zero bytes p i = p i
AreBytes-drop (suc n) [] p i = lit< tt
AreBytes-drop (suc n) (x ∷ xs) p i = AreBytes-drop n xs (λ j. p (suc j)) i

pub AreBytes-append : (xs ys : List ℕ) → AreBytes xs → AreBytes ys → AreBytes (xs ++ ys)
AreBytes-append [] ys p q i = q i
AreBytes-append (x ∷ xs) ys p q zero = p 0
AreBytes-append (x ∷ xs) ys p q (suc i) = AreBytes-append xs ys (λ j. p (suc j)) q i

pub AreBytes-replicate : (n byte : ℕ) → byte < 256 → AreBytes (replicate n byte)
AreBytes-replicate zero byte lt i = lit< tt
AreBytes-replicate (suc n) byte lt zero = lt
AreBytes-replicate (suc n) byte lt (suc i) = AreBytes-replicate n byte lt i

-- what a slice of bytes says of each
pub AreBytes-from_fits : (bytes : List ℕ) → ((i : ℕ) → Fits w8 (slice_index bytes i)) → AreBytes bytes
AreBytes-from_fits bytes fits i = Fits-lt-pow (fits i)
