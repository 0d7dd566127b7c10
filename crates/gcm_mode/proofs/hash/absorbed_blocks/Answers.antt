use Rattle.std.proofs.Common.{[], add-one, drop-cons}
use Rattle.std.proofs.lemmas.List.{drop_all}
use Rattle.gcm_mode.proofs.hash.absorbed_blocks.Goals as goal

pub loop-block-preserved : goal.loop-block-preserved
loop-block-preserved c =
    let i = c.loop-block.block-index in
    let blocks = c.args.blocks.now in
    let cons = drop-cons blocks i [] c.loop-block-test.true in
    let y = c.product-y.ensures in
    let x = c.number_of.ensures in
    rw (y, x, add-one) (rw cons at c.loop-block.invariant)

pub returns : goal.returns
returns c =
    let none = drop_all c.loop-block.block-index c.args.blocks.now c.loop-block-test.false in
    rw none at c.loop-block.invariant
