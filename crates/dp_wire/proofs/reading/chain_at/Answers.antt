use Rattle.std.proofs.Common.{◌∙◌, ap, sym}
use Rattle.dp_base.proofs.Parts.{AreBytes-from_fits}
use Rattle.dp_wire.specs.Chains.{chain_of}
use Rattle.dp_wire.proofs.Chains.{views, read}
use Rattle.dp_wire.proofs.reading.chain_at.Goals as goal

pub slice_bounds-new-count : goal.slice_bounds-new-count
slice_bounds-new-count c =
    let v = views c.args.len c.in_ok-count.count c.args.rest.now c.in_ok-count.purposes.now c.in_ok-after.after.now (AreBytes-from_fits c.args.rest.now c.type_inv.rest) c.in_ok-count.ensures c.in_ok-after.ensures in
    v.short

pub new-chain-requires : goal.new-chain-requires
new-chain-requires c =
    let v = views c.args.len c.in_ok-count.count c.args.rest.now c.in_ok-count.purposes.now c.in_ok-after.after.now (AreBytes-from_fits c.args.rest.now c.type_inv.rest) c.in_ok-count.ensures c.in_ok-after.ensures in
    v.is

pub returns : goal.returns
returns c =
    let v = views c.args.len c.in_ok-count.count c.args.rest.now c.in_ok-count.purposes.now c.in_ok-after.after.now (AreBytes-from_fits c.args.rest.now c.type_inv.rest) c.in_ok-count.ensures c.in_ok-after.ensures in
    ap (λ b. read (chain_of b) c.in_ok-after.after.now) c.new-chain.ensures ∙ sym v.told
