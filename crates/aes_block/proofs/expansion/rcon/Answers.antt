use Rattle.std.proofs.Common.{◌≡◌, ◌+◌, ◌-◌, ◌∙◌, ap, arith}
use Rattle.aes_block.specs.Field.{xtime}
use Rattle.aes_block.specs.KeyExpansion.{power_of_x, rcon}
use Rattle.aes_block.specs.Laws.Tables.{slice_index-table_of}
use Rattle.aes_block.proofs.expansion.rcon.Goals as goal

pub returns : goal.returns
unfolding xtime power_of_x rcon
returns c =
    let at : c.args.j - 1 + 1 ≡ c.args.j = omega arith in
    slice_index-table_of (λ k. rcon (k + 1)) 10 (c.args.j - 1) (omega arith) ∙ ap rcon at
