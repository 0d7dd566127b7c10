-- what is written, and what the blocks from the number on add to it
use Rattle.std.proofs.Common.{◌≡◌, ◌-◌, ◌+◌, ◌≤◌, ◌++◌, length, take}
use Rattle.std.specs.Int.{div_ceil}
use Rattle.kdf_ctr.specs.Kdf.{fixed_data, blocks, kdf}
use Rattle.kdf_ctr.proofs.counter.derive.Given as goal

abbrev pub invariant-loop-at : goal.invariant-loop-at
invariant-loop-at g l = record {
  within : l.at ≤ length l.fn.out;
  few : l.number ≤ l.at + 1;
  whole :
      kdf g.P.Prf.value g.P.Prf.value_len l.key l.label l.context (length l.fn.out)
      ≡ take l.at l.out
      ++ take (length l.fn.out - l.at)
      (blocks g.P.Prf.value l.key (fixed_data l.label l.context (length l.fn.out)) l.number (div_ceil (length l.fn.out - l.at) g.P.Prf.value_len));
}

abbrev pub decreases-loop-at : goal.decreases-loop-at
decreases-loop-at g l = length l.out - l.at
