use Rattle.std.proofs.Common.{length, arith, rules}
use Rattle.aes_block.specs.KeyExpansion.{IsKeyLength}
use Rattle.aes_block.proofs.Expanded.{IsExpanded-schedule, key_of-schedule}
use Rattle.aes_block.proofs.aes.Aes.new.Goals as goal

pub invariant_of-result : goal.invariant_of-result
invariant_of-result c =
    let key = c.args.key.now in
    let sized : IsKeyLength (length key) = search rules in
    IsExpanded-schedule key c.key_expansion-words.result c.key_expansion_eic-inverse.result sized (λ i. omega (arith, c.type_inv.key i)) c.key_expansion-words.ensures c.key_expansion_eic-inverse.ensures

pub returns-in-16-clause-value : goal.returns-in-16-clause-value
returns-in-16-clause-value c =
    let key = c.args.key.now in
    let sized : IsKeyLength (length key) = search rules in
    key_of-schedule key c.key_expansion-words.result sized (λ i. omega (arith, c.type_inv.key i)) c.key_expansion-words.ensures
