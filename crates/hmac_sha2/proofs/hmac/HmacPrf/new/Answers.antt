use Rattle.std.proofs.lemmas.List.{take-replicate}
use Rattle.hmac_sha2.proofs.hmac.HmacPrf.new.Goals as goal

pub write_block_key-requires : goal.write_block_key-requires
write_block_key-requires g c =
    let fits = g.met.H.BlockHash.block_at_most in
    rw c.block_size.ensures (take-replicate g.H.BlockHash.block 128 0 fits)
