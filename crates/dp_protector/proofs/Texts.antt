-- The text of a body, as a value and as a fact.
use Rattle.std.proofs.Common.{◌≡◌, ℕ, ◌%◌, ◌==◌, ◌&&◌, Bool, true, false, List, length, Some, refl, ap, ◌∙◌, subst, arith}
use Rattle.std.specs.Prelude.{bytes_eq, nat_lt}
use Rattle.std.specs.Cmp.Lexicographic.{bytes_decides}
use Rattle.std.proofs.lemmas.Bool.Decides.{nat_tests}
use Rattle.dp_base.specs.Blocks.{AreBytes}
use Rattle.dp_base.specs.Lengths.{iv_len}
use Rattle.dp_base.specs.declared.alg.Alg.{Alg}
use Rattle.dp_base.specs.declared.alg.Alg.TheVariants.{Cbc256, Cbc512, Gcm}
use Rattle.dp_base.proofs.Parts.{AreBytes-take}
use Rattle.aes_block.specs.Cipher.{aes_cipher, aes_decipher}
use Rattle.aes_block.specs.Laws.{IsBlock-aes_cipher}
use Rattle.cbc_mode.specs.Cbc.{ciphertext, plaintext, HasWholeBlocks}
use Rattle.cbc_mode.specs.Pad.{pad}
use Rattle.cbc_mode.proofs.Inverse.{AreBytes-plaintext, plaintext-ciphertext}
use Rattle.cbc_mode.proofs.Opening.{HasWholeBlocks-sealed}
use Rattle.cbc_mode.proofs.Padding.{AreBytes-pad, pad-whole, take-pad}
use Rattle.gcm_mode.proofs.Counting.{AreBytes-ctr, ctr-ctr}
use Rattle.context_header.specs.Keys.{KeyPair}
use Rattle.dp_encryptor.proofs.Undoing.{inverse}
use Rattle.payload_view.specs.Payload.{Parts}
use Rattle.dp_encryptor.specs.Body.{Opens, enciphered, tag}
use Rattle.dp_protector.specs.Opening.{before_padding, deciphered, has_whole_blocks, is_body_of, open_parts, text_if}

-- ---- from the fact to the value

unpadded : (key iv text : List ℕ) → length iv ≡ 16 → AreBytes iv → AreBytes text → before_padding (plaintext (aes_decipher key) iv (ciphertext (aes_cipher key) iv (pad text))) ≡ text
unpadded key iv text len are bytes =
    ap before_padding (plaintext-ciphertext (aes_cipher key) (aes_decipher key) (inverse key) iv (pad text) (len, are) (pad-whole text) (AreBytes-pad text bytes))
    ∙ take-pad text

-- the text comes back
deciphered-again : (alg : Alg) (key iv text : List ℕ) → length iv ≡ iv_len alg → AreBytes iv → AreBytes text → deciphered alg key iv (enciphered alg key iv text) ≡ text
deciphered-again (Cbc256 size) key iv text len are bytes = unpadded key iv text len are bytes
deciphered-again (Cbc512 size) key iv text len are bytes = unpadded key iv text len are bytes
deciphered-again (Gcm size) key iv text len are bytes = ctr-ctr (aes_cipher key) (IsBlock-aes_cipher key) iv len are text

blocks_tested : (c : List ℕ) → HasWholeBlocks c → (nat_lt 0 (length c) && (length c % 16 == 0)) ≡ true
blocks_tested c has = let some = has.0 in let whole = has.1 in grind (arith, nat_tests)

-- what is enciphered of a text is whole blocks
whole-again : (alg : Alg) (key iv text : List ℕ) → length iv ≡ iv_len alg → AreBytes iv → AreBytes text → has_whole_blocks alg (enciphered alg key iv text) ≡ true
whole-again (Cbc256 size) key iv text len are bytes =
    blocks_tested _ (HasWholeBlocks-sealed (aes_cipher key) (aes_decipher key) (inverse key) iv (ciphertext (aes_cipher key) iv (pad text)) (len, are) text bytes refl)
whole-again (Cbc512 size) key iv text len are bytes =
    blocks_tested _ (HasWholeBlocks-sealed (aes_cipher key) (aes_decipher key) (inverse key) iv (ciphertext (aes_cipher key) iv (pad text)) (len, are) text bytes refl)
whole-again (Gcm size) key iv text len are bytes = refl

same_bytes : (xs ys : List ℕ) → xs ≡ ys → bytes_eq xs ys ≡ true
same_bytes xs ys e = (bytes_decides xs ys).1 e

-- a body that opens to a text has it as its value
pub open_parts-is : (alg : Alg) (keys : KeyPair) (parts : Parts) (text : List ℕ) → length parts.iv ≡ iv_len alg → AreBytes parts.iv → AreBytes text
    → Opens alg keys parts text → open_parts alg keys parts ≡ Some text
unfolding open_parts
open_parts-is alg keys parts text len are bytes opens =
    let back : deciphered alg keys.encryption parts.iv parts.enciphered ≡ text =
    ap (deciphered alg keys.encryption parts.iv) opens.1 ∙ deciphered-again alg keys.encryption parts.iv text len are bytes in
    let whole : has_whole_blocks alg parts.enciphered ≡ true =
    ap (has_whole_blocks alg) opens.1 ∙ whole-again alg keys.encryption parts.iv text len are bytes in
    let tagged = same_bytes parts.tag (tag alg keys parts.iv parts.enciphered) opens.0 in
    let is = same_bytes parts.enciphered (enciphered alg keys.encryption parts.iv text) opens.1 in
    rw (back, whole, tagged, is) refl

-- ---- from the value to the fact

text_if-some : (b : Bool) (text other : List ℕ) → text_if b text ≡ Some other → (b ≡ true) × (text ≡ other)
text_if-some true text other e = (refl, cc)
text_if-some false text other e = absurd cc

and_parts : (a b : Bool) → (a && b) ≡ true → (a ≡ true) × (b ≡ true)
and_parts true b e = (refl, e)
and_parts false b e = absurd cc

blocks_true : (c : List ℕ) → (nat_lt 0 (length c) && (length c % 16 == 0)) ≡ true → length c % 16 ≡ 0
blocks_true c e = grind (arith, nat_tests)

unpadded_bytes : (key iv c : List ℕ) → length iv ≡ 16 → AreBytes iv → AreBytes c → length c % 16 ≡ 0 → AreBytes (before_padding (plaintext (aes_decipher key) iv c))
unpadded_bytes key iv c len are bytes whole =
    AreBytes-take _ _ (AreBytes-plaintext (aes_cipher key) (aes_decipher key) (inverse key) iv c (len, are) whole bytes)

-- what is deciphered is bytes
deciphered-bytes : (alg : Alg) (key iv c : List ℕ) → length iv ≡ iv_len alg → AreBytes iv → AreBytes c → has_whole_blocks alg c ≡ true → AreBytes (deciphered alg key iv c)
deciphered-bytes (Cbc256 size) key iv c len are bytes whole = unpadded_bytes key iv c len are bytes (blocks_true c whole)
deciphered-bytes (Cbc512 size) key iv c len are bytes whole = unpadded_bytes key iv c len are bytes (blocks_true c whole)
deciphered-bytes (Gcm size) key iv c len are bytes whole = AreBytes-ctr (aes_cipher key) (IsBlock-aes_cipher key) iv len are c bytes

-- what a body with a text as its value is
pub open_parts-fact : (alg : Alg) (keys : KeyPair) (parts : Parts) (text : List ℕ) → open_parts alg keys parts ≡ Some text → Opens alg keys parts text
unfolding open_parts
open_parts-fact alg keys parts text e =
    let given = text_if-some (is_body_of alg keys parts (deciphered alg keys.encryption parts.iv parts.enciphered)) (deciphered alg keys.encryption parts.iv parts.enciphered) text e in
    let outer = and_parts (has_whole_blocks alg parts.enciphered && bytes_eq parts.tag (tag alg keys parts.iv parts.enciphered)) (bytes_eq parts.enciphered (enciphered alg keys.encryption parts.iv (deciphered alg keys.encryption parts.iv parts.enciphered))) given.0 in
    let inner = and_parts (has_whole_blocks alg parts.enciphered) (bytes_eq parts.tag (tag alg keys parts.iv parts.enciphered)) outer.0 in
    let tagged = (bytes_decides parts.tag (tag alg keys parts.iv parts.enciphered)).0 inner.1 in
    let is = (bytes_decides parts.enciphered (enciphered alg keys.encryption parts.iv (deciphered alg keys.encryption parts.iv parts.enciphered))).0 outer.1 in
    (tagged, is ∙ ap (enciphered alg keys.encryption parts.iv) given.1)

-- a body that has a text as its value opens to it
pub open_parts-opens : (alg : Alg) (keys : KeyPair) (parts : Parts) (text : List ℕ) → length parts.iv ≡ iv_len alg → AreBytes parts.iv → AreBytes parts.enciphered
    → open_parts alg keys parts ≡ Some text → Opens alg keys parts text × AreBytes text
unfolding open_parts
open_parts-opens alg keys parts text len are bytes e =
    let given = text_if-some (is_body_of alg keys parts (deciphered alg keys.encryption parts.iv parts.enciphered)) (deciphered alg keys.encryption parts.iv parts.enciphered) text e in
    let outer = and_parts (has_whole_blocks alg parts.enciphered && bytes_eq parts.tag (tag alg keys parts.iv parts.enciphered)) (bytes_eq parts.enciphered (enciphered alg keys.encryption parts.iv (deciphered alg keys.encryption parts.iv parts.enciphered))) given.0 in
    let inner = and_parts (has_whole_blocks alg parts.enciphered) (bytes_eq parts.tag (tag alg keys parts.iv parts.enciphered)) outer.0 in
    (open_parts-fact alg keys parts text e, subst AreBytes given.1 (deciphered-bytes alg keys.encryption parts.iv parts.enciphered len are bytes inner.0))
