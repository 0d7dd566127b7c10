use Rattle.std.proofs.Common.{◌<◌, bit_xor, length, slice_index, arith}
use Rattle.std.proofs.lemmas.List.{get_or_default}
use Rattle.std.proofs.lemmas.List.Edits.{map_over_more}
use Rattle.hmac_sha2.proofs.hmac.xor_each.Goals as goal

pub loop-byte-preserved : goal.loop-byte-preserved
loop-byte-preserved c =
    let i = c.loop-byte.byte-index in
    let bytes = c.loop-byte.bytes in
    let byte = slice_index bytes i in
    let within : i < length c.args.bytes.now = omega arith in
    let read = get_or_default bytes i 0 byte (omega arith) in
    map_over_more (λ b. bit_xor b c.args.pad) c.args.bytes.now bytes i byte within c.loop-byte.invariant read
