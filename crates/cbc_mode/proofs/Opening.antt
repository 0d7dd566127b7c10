-- What a body says of the text that it was made from.
use Rattle.std.proofs.Common.{◌≡◌, ℕ, ◌-◌, ◌%◌, List, length, take, ap, sym, arith}
use Rattle.dp_base.specs.Blocks.{AreBytes, IsBlock}
use Rattle.cbc_mode.specs.Cbc.{ciphertext, plaintext, HasWholeBlocks}
use Rattle.cbc_mode.specs.Pad.{pad, last_byte, IsPadded}
use Rattle.cbc_mode.proofs.Inverse.{AreInverse, plaintext-ciphertext, ciphertext-plaintext, length-ciphertext, length-plaintext}
use Rattle.cbc_mode.proofs.Padding.{AreBytes-pad, length-pad, pad_len-bounds, pad-whole, pad-take}

module _ (f g : List ℕ → List ℕ) (pair : AreInverse f g) (iv body : List ℕ) (block : IsBlock iv) where
  -- a padded text that the body deciphers to has this body
  pub ciphertext-opened : AreBytes body → length body % 16 ≡ 0 → IsPadded (plaintext g iv body) →
      body ≡ ciphertext f iv (pad (take (length (plaintext g iv body) - last_byte (plaintext g iv body)) (plaintext g iv body)))
  ciphertext-opened are whole padded =
      let even : length (plaintext g iv body) % 16 ≡ 0 = rw (length-plaintext f g pair iv body block whole are) whole in
      let again = ciphertext-plaintext f g pair iv body block whole are in
      rw (← pad-take (plaintext g iv body) even padded) (sym again)

  module _ (text : List ℕ) (are : AreBytes text) (sealed : body ≡ ciphertext f iv (pad text)) where
    -- the body of a text deciphers to the padded text
    pub plaintext-sealed : plaintext g iv body ≡ pad text
    plaintext-sealed =
        rw sealed (plaintext-ciphertext f g pair iv (pad text) block (pad-whole text) (AreBytes-pad text are))

    pub HasWholeBlocks-sealed : HasWholeBlocks body
    HasWholeBlocks-sealed =
        let n = length-ciphertext f g pair iv (pad text) block (pad-whole text) (AreBytes-pad text are) in
        let m = length-pad text in
        let b = pad_len-bounds text in
        let w = pad-whole text in
        let e = ap length sealed in
        (omega arith, omega arith)
