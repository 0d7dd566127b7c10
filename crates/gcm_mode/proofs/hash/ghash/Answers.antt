use Rattle.std.proofs.Common.{◌≡◌, ◌++◌, ◌∷◌, [], refl, ap, ◌∙◌, arith, length-append}
use Rattle.dp_base.specs.Split.{blocks}
use Rattle.gcm_mode.specs.Ghash.{zero_filled, length_block, ghash}
use Rattle.gcm_mode.specs.Product.{block_of}
use Rattle.gcm_mode.proofs.Hashing.{blocks-append, hash_blocks-append, zero_filled-whole}
use Rattle.gcm_mode.proofs.hash.ghash.Goals as goal

pub returns : goal.returns
unfolding ghash
returns c =
    let aad = c.args.aad.now in
    let text = c.args.text.now in
    let lengths = length_block aad text in
    let first = zero_filled-whole aad in
    let second = zero_filled-whole text in
    let both = length-append (zero_filled aad) (zero_filled text) in
    let split : blocks (zero_filled aad ++ zero_filled text ++ lengths) ≡ (blocks (zero_filled aad) ++ blocks (zero_filled text)) ++ (lengths ∷ []) =
    blocks-append (zero_filled aad ++ zero_filled text) lengths (omega arith) ∙ rw (blocks-append (zero_filled aad) (zero_filled text) first) refl in
    rw (split, hash_blocks-append, hash_blocks-append)
    (c.block_of.ensures ∙ ap block_of (c.product.ensures ∙ rw (c.number_of.ensures, c.length_block-lengths.ensures, c.absorbed-state.ensures, c.absorbed.ensures, c.new-key.ensures) refl))
