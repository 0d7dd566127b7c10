use Rattle.cbc_mode.proofs.Sums.{xor_bytes-swap}
use Rattle.cbc_mode.proofs.chain.encrypt_next.Goals as goal

pub returns-clause-block : goal.returns-clause-block
returns-clause-block g c =
    let swap = xor_bytes-swap c.args.before.now c.args.block.now in
    cc
