use Rattle.std.proofs.Common.{length, ap, arith}
use Rattle.std.specs.Prelude.{string_bytes}
use Rattle.purpose_chain.specs.declared.chain.TheConstants.{MAX_CHAIN}
use Rattle.purpose_chain.proofs.Short.{one-le}
use Rattle.purpose_chain.proofs.chain.put_purposes.Goals as goal

pub put_purpose-requires : goal.put_purpose-requires
put_purpose-requires c =
    let short = one-le string_bytes c.args.purposes.now c.loop-purpose.purpose-index c.purpose-item.result MAX_CHAIN c.loop-purpose-test.true c.purpose-item.is c.requires in
    omega (arith, short, ap length c.as_str.ensures.value)
