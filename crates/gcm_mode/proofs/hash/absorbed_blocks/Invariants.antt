-- the blocks before the place are absorbed
use Rattle.std.proofs.Common.{◌≡◌, drop}
use Rattle.gcm_mode.specs.Ghash.{hash_blocks}
use Rattle.gcm_mode.proofs.hash.absorbed_blocks.Given as goal

abbrev pub invariant-loop-block : goal.invariant-loop-block
invariant-loop-block l =
    hash_blocks l.key l.y (drop l.block-index l.blocks) ≡ hash_blocks l.key l.state l.blocks
