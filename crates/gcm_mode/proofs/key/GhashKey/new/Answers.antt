use Rattle.std.proofs.Common.{◌∙◌}
use Rattle.gcm_mode.proofs.Turns.{IsTable-key}
use Rattle.gcm_mode.proofs.key.GhashKey.new.Goals as goal

pub invariant_of-result : goal.invariant_of-result
invariant_of-result c =
    let key = IsTable-key c.table.result c.number_of-a.result c.table.ensures in
    rw key c.table.ensures

pub returns : goal.returns
returns c = IsTable-key c.table.result c.number_of-a.result c.table.ensures ∙ c.number_of-a.ensures
