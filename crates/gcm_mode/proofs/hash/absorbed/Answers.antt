use Rattle.std.proofs.Common.{◌≡◌, ◌<◌, [], length, refl, ap, ◌∙◌, arith, tests}
use Rattle.std.proofs.lemmas.List.{nil_from_length}
use Rattle.gcm_mode.specs.Ghash.{hash_blocks}
use Rattle.gcm_mode.proofs.Hashing.{filled, ends, ends-some, hash_blocks-parts}
use Rattle.gcm_mode.proofs.hash.absorbed.Goals as goal

pub returns-then-is_empty : goal.returns-then-is_empty
returns-then-is_empty c =
    let key = c.args.key.now in
    let rest = c.as_chunks.result.1.now in
    let empty : length rest ≡ 0 = grind (arith, tests, c.is_empty.ensures, c.if-is_empty.true) in
    let none : rest ≡ [] = nil_from_length rest empty in
    let done : c.absorbed_blocks-y.result ≡ hash_blocks key c.absorbed_blocks-y.result (ends rest) = rw none refl in
    done ∙ ap (λ y. hash_blocks key y (ends rest)) c.absorbed_blocks-y.ensures
    ∙ hash_blocks-parts key c.args.state c.args.bytes.now rest c.as_chunks.result.0.now c.as_chunks.ensures.front c.as_chunks.ensures.back

pub returns-else-is_empty : goal.returns-else-is_empty
returns-else-is_empty c =
    let key = c.args.key.now in
    let rest = c.as_chunks.result.1.now in
    let some : 0 < length rest = grind (arith, tests, c.is_empty.ensures, c.if-is_empty.false) in
    let last = ends-some rest some in
    let piece : c.filled.result ≡ filled rest = c.filled.ensures in
    let done : c.product.result ≡ hash_blocks key c.absorbed_blocks-y.result (ends rest) =
    c.product.ensures ∙ rw (last, c.number_of.ensures, piece) refl in
    done ∙ ap (λ y. hash_blocks key y (ends rest)) c.absorbed_blocks-y.ensures
    ∙ hash_blocks-parts key c.args.state c.args.bytes.now rest c.as_chunks.result.0.now c.as_chunks.ensures.front c.as_chunks.ensures.back
