-- A loop over a list of bytes, which writes one block after another in its place.
use Rattle.std.proofs.Common.{◌≡◌, ℕ, ◌+◌, ◌*◌, ◌≤◌, List, ◌++◌, length, take, drop, arith, append_assoc}
use Rattle.std.proofs.lemmas.List.{drop-drop}
use Rattle.std.proofs.lemmas.Slice.{take-put_mid, drop-put_mid}
use borrow.Rule.Slice.PartMut.{put_mid}

-- The whole result is what was written so far, and what the rest gives. Where the rest gives ys and
-- then what next gives, ys is written over the block.
pub advanced : (rest next : List ℕ → List ℕ) (whole bytes ys : List ℕ) (i k : ℕ) → k ≡ 16 → length ys ≡ 16 →
    16 * i + 16 ≤ length bytes → whole ≡ take (16 * i) bytes ++ rest (drop (16 * i) bytes) →
    rest (drop (16 * i) bytes) ≡ ys ++ next (drop 16 (drop (16 * i) bytes)) →
    whole ≡ take (16 * (i + 1)) (put_mid (16 * i) k bytes ys) ++ next (drop (16 * (i + 1)) (put_mid (16 * i) k bytes ys))
advanced rest next whole bytes ys i k wide full within so_far step =
    let front = take-put_mid (16 * i) k bytes ys (16 * (i + 1)) (omega arith) (omega arith) in
    let back = drop-put_mid (16 * i) k bytes ys (16 * (i + 1)) (omega arith) (omega arith) (omega arith) in
    let one_more : 16 * i + 16 ≡ 16 * (i + 1) = omega arith in
    let past = rw one_more at (drop-drop 16 (16 * i) bytes) in
    rw (front, back, append_assoc, ← past, ← step) so_far
