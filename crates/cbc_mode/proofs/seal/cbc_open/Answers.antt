-- The cases of a body by the text that it was made from.
use Rattle.std.proofs.Common.{◌≡◌, ◌-◌, ℕ, List, length, take, arith, tests, ◌∙◌}
use Rattle.cbc_mode.specs.Pad.{IsPadded, last_byte}
use Rattle.dp_base.proofs.Parts.{AreBytes-from_fits, AreBytes-take}
use Rattle.cbc_mode.proofs.Inverse.{AreInverse, AreBytes-plaintext}
use Rattle.cbc_mode.proofs.Opening.{ciphertext-opened, plaintext-sealed, HasWholeBlocks-sealed}
use Rattle.cbc_mode.proofs.Padding.{IsPadded-pad, take-pad}
use Rattle.cbc_mode.proofs.seal.cbc_open.Given.{Over}
use Rattle.cbc_mode.proofs.seal.cbc_open.Goals as goal
use Rattle.cbc_mode.proofs.seal.cbc_open.Goals.{then-is_empty-via-then-is_empty, then-is_empty-via-else-is_empty+then-body-ne0}

-- what the laws of the cipher say
inverse : (g : Over) (cipher : g.row.B.Denot) → AreInverse (g.B.BlockCipher.cipher cipher) (g.B.BlockCipher.decipher cipher)
inverse g cipher = record {
  enciphers = g.met.B.BlockCipher.enciphers cipher;
  deciphers = g.met.B.BlockCipher.deciphers cipher;
  undoes = g.met.B.BlockCipher.undoes cipher;
  redoes = g.met.B.BlockCipher.redoes cipher;
}

pub returns-then-is_empty-clause-only : goal.returns-then-is_empty-clause-only
returns-then-is_empty-clause-only g c text are sealed =
    let pair = inverse g c.args.cipher.now in
    let whole = HasWholeBlocks-sealed _ _ pair c.args.iv.now c.args.body.now (c.told-iv, c.fits-iv) text are sealed in
    elim c.then-is_empty.branch [
      | then-is_empty-via-then-is_empty w ↦ grind (arith, tests)
      | then-is_empty-via-else-is_empty+then-body-ne0 w ↦ absurd (omega arith)
    ]

pub returns-in_default-clause-only : goal.returns-in_default-clause-only
returns-in_default-clause-only g c text are sealed =
    let pair = inverse g c.args.cipher.now in
    let same = plaintext-sealed _ _ pair c.args.iv.now c.args.body.now (c.told-iv, c.fits-iv) text are sealed in
    let items = c.deref.ensures.value in
    let was = c.in_ok-text.ensures in
    let padded : IsPadded c.deref.result.now = rw (items ∙ was ∙ same) (IsPadded-pad text) in
    absurd (c.in_default.ensures.none padded)

-- what is left of the deciphered bytes
cut : (out items now whole : List ℕ) (n count len : ℕ) → out ≡ take (n - count) items → items ≡ whole → now ≡ items →
    count ≡ last_byte now → length now ≡ len → n ≡ len → out ≡ take (length whole - last_byte whole) whole
cut out items now whole n count len a b c d e f = cc

pub returns-clause-found : goal.returns-clause-found
returns-clause-found g c =
    let pair = inverse g c.args.cipher.now in
    let are = AreBytes-from_fits c.args.body.now c.type_inv.body in
    let some = c.in-Some.ensures.some in
    let deciphered = c.in_ok-text.ensures in
    let padded = rw (c.deref.ensures.value ∙ deciphered) at some.1 in
    let again = ciphertext-opened _ _ pair c.args.iv.now c.args.body.now (c.told-iv, c.fits-iv) are (omega arith) padded in
    let left = cut _ _ _ _ _ _ _ c.truncate.ensures.items deciphered c.deref.ensures.value some.0 c.deref.ensures.len c.len.ensures in
    rw left again

pub returns-clause-bytes : goal.returns-clause-bytes
returns-clause-bytes g c =
    let pair = inverse g c.args.cipher.now in
    let given = AreBytes-from_fits c.args.body.now c.type_inv.body in
    let are = AreBytes-plaintext _ _ pair c.args.iv.now c.args.body.now (c.told-iv, c.fits-iv) (omega arith) given in
    rw (c.truncate.ensures.items, c.in_ok-text.ensures) (AreBytes-take (c.len.result - c.in-Some.count) _ are)

pub returns-clause-only : goal.returns-clause-only
returns-clause-only g c text are sealed =
    let pair = inverse g c.args.cipher.now in
    let same = plaintext-sealed _ _ pair c.args.iv.now c.args.body.now (c.told-iv, c.fits-iv) text are sealed in
    let some = c.in-Some.ensures.some in
    let left = cut _ _ _ _ _ _ _ c.truncate.ensures.items (c.in_ok-text.ensures ∙ same) c.deref.ensures.value some.0 c.deref.ensures.len c.len.ensures in
    left ∙ take-pad text
