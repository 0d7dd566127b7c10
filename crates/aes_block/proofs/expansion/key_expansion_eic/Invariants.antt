-- the words before this one are mixed, but for the first four, and the others are the schedule's
use Rattle.std.proofs.Common.{◌≡◌, ℕ, ◌<◌, ◌≤◌, length, slice_index}
use Rattle.std.specs.Int.{w32, to_be_bytes}
use Rattle.aes_block.specs.Columns.{column_product}
use Rattle.aes_block.proofs.expansion.key_expansion_eic.Given as goal

abbrev pub invariant-loop-i : goal.invariant-loop-i
invariant-loop-i l = record {
  long : length l.inverse ≡ 60;
  first : (k : ℕ) → k < 4 → slice_index l.inverse k ≡ slice_index l.words k;
  mixed : (k : ℕ) → 4 ≤ k → k < l.i → to_be_bytes w32 (slice_index l.inverse k) ≡ column_product 14 9 13 11 (to_be_bytes w32 (slice_index l.words k));
  rest : (k : ℕ) → l.i ≤ k → slice_index l.inverse k ≡ slice_index l.words k;
}
