-- What several reads or writes moved. Nothing is said of bytes that aren't told.
use Rattle.std.specs.Prelude.{◌≡◌, ℕ, ◌<◌, ◌≤◌, List, ◌++◌, length, take, drop, Option, Some, None}

-- the first n of the bytes left were taken, or all where they are fewer
abbrev pub TakesFront : ℕ → Option (List ℕ) → Option (List ℕ) → List ℕ → Type 0
TakesFront n None after bytes = Unit {0}
TakesFront n (Some left) after bytes = (bytes ≡ take n left) × (after ≡ Some (drop n left))

-- at most n bytes were taken, from the front of those left
abbrev pub TakesAtMost : ℕ → Option (List ℕ) → Option (List ℕ) → Type 0
TakesAtMost n None after = Unit {0}
TakesAtMost n (Some left) after = (k : ℕ) × (k ≤ n) × (after ≡ Some (drop k left))

-- fewer than n bytes were taken, from the front of those left
abbrev pub TakesFewer : ℕ → Option (List ℕ) → Option (List ℕ) → Type 0
TakesFewer n None after = Unit {0}
TakesFewer n (Some left) after = (k : ℕ) × (k < n) × (k ≤ length left) × (after ≡ Some (drop k left))

-- the bytes were written behind those written before
abbrev pub Writes : Option (List ℕ) → Option (List ℕ) → List ℕ → Type 0
Writes None after bytes = Unit {0}
Writes (Some written) after bytes = after ≡ Some (written ++ bytes)

-- bytes from their front were written behind those written before
abbrev pub WritesFront : Option (List ℕ) → Option (List ℕ) → List ℕ → Type 0
WritesFront None after bytes = Unit {0}
WritesFront (Some written) after bytes = (k : ℕ) × (k ≤ length bytes) × (after ≡ Some (written ++ take k bytes))
