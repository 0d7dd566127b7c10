use Rattle.std.proofs.Common.{◌≡◌, ◌+◌, ◌*◌, ◌++◌, refl, ap, ◌∙◌, arith, inl, inr}
use Rattle.std.specs.Int.{w32, to_be_bytes}
use Rattle.std.proofs.lemmas.Bool.{cases_lt}
use Rattle.std.proofs.lemmas.List.{get_or-set_other, get_or-set_same, length-set}
use Rattle.aes_block.specs.Cipher.{inv_mix_columns}
use Rattle.aes_block.proofs.expansion.key_expansion_eic.Goals as goal

pub loop-i-init : goal.loop-i-init
loop-i-init c = record {
  long = c.told-words;
  first = λ k low. refl;
  mixed = λ k low high. absurd (omega arith);
  rest = λ k high. refl;
}

pub loop-i-preserved : goal.loop-i-preserved
loop-i-preserved c =
    let held = c.loop-i.invariant in
    let i = c.loop-i.i in
    let before = c.loop-i.inverse in
    let word = c.inv_mix_column.result in record {
      long = length-set before i word ∙ held.long;
      first = λ k low. get_or-set_other before i k word 0 (λ e. omega arith) ∙ held.first k low;
      mixed = λ k low high. elim (cases_lt k i) [
        | inl below ↦ ap (to_be_bytes w32) (get_or-set_other before i k word 0 (λ e. omega arith)) ∙ held.mixed k low below
        | inr above ↦
            let at : k ≡ i = omega arith in
            rw at (ap (to_be_bytes w32) (get_or-set_same before i word 0 (omega arith)) ∙ c.inv_mix_column.ensures)
      ];
      rest = λ k high. get_or-set_other before i k word 0 (λ e. omega arith) ∙ held.rest k (omega arith);
    }

pub returns : goal.returns
unfolding inv_mix_columns
returns c =
    let held = c.loop-i.invariant in
    let nr = c.args.rounds in record {
      first = λ i. to_be_bytes w32 (held.first 0 (omega arith) i) ++ to_be_bytes w32 (held.first 1 (omega arith) i)
          ++ to_be_bytes w32 (held.first 2 (omega arith) i) ++ to_be_bytes w32 (held.first 3 (omega arith) i);
      mixed = λ r low high i. held.mixed (4 * r) (omega arith) (omega arith) i ++ held.mixed (4 * r + 1) (omega arith) (omega arith) i
          ++ held.mixed (4 * r + 2) (omega arith) (omega arith) i ++ held.mixed (4 * r + 3) (omega arith) (omega arith) i;
      last = λ i. to_be_bytes w32 (held.rest (4 * nr) (omega arith) i) ++ to_be_bytes w32 (held.rest (4 * nr + 1) (omega arith) i)
          ++ to_be_bytes w32 (held.rest (4 * nr + 2) (omega arith) i) ++ to_be_bytes w32 (held.rest (4 * nr + 3) (omega arith) i);
    }
