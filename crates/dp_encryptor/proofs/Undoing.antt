-- What a sealed body says of the text that it was made from.
use Rattle.std.proofs.Common.{◌≡◌, ℕ, ◌+◌, ◌-◌, List, [], ◌++◌, length, take, drop, replicate, refl, sym, ap, subst, ◌∙◌, arith, append_assoc, length-append}
use Rattle.std.proofs.lemmas.List.{take_at, drop_at}
use Rattle.sha2.proofs.Facts256.{length-sha256}
use Rattle.sha2.proofs.Facts512.{length-sha512}
use Rattle.dp_base.specs.Blocks.{AreBytes}
use Rattle.dp_base.specs.Lengths.{iv_len, tag_len}
use Rattle.dp_base.specs.declared.alg.Alg.{Alg}
use Rattle.dp_base.specs.declared.alg.Alg.TheVariants.{Cbc256, Cbc512, Gcm}
use Rattle.aes_block.specs.Cipher.{aes_cipher, aes_decipher}
use Rattle.aes_block.specs.Laws.{IsBlock-aes_cipher, IsBlock-aes_decipher, aes_cipher-aes_decipher, aes_decipher-aes_cipher}
use Rattle.cbc_mode.specs.Cbc.{ciphertext}
use Rattle.cbc_mode.specs.Pad.{pad}
use Rattle.cbc_mode.proofs.Inverse.{AreInverse, plaintext-ciphertext}
use Rattle.cbc_mode.proofs.Padding.{AreBytes-pad, pad-whole, take-pad}
use Rattle.cbc_mode.specs.Pad.{last_byte}
use Rattle.cbc_mode.specs.Cbc.{plaintext}
use Rattle.gcm_mode.specs.Ctr.{counter_block, ctr}
use Rattle.gcm_mode.specs.Ghash.{ghash}
use Rattle.gcm_mode.specs.Product.{block_of}
use Rattle.gcm_mode.specs.Gcm.{gcm_tag}
use Rattle.gcm_mode.proofs.Counting.{IsBlock-counter_block, length-xor_bytes-le, ctr-ctr}
use Rattle.payload_view.specs.Payload.{Parts, joined, parts_of}
use Rattle.context_header.specs.Keys.{KeyPair}
use Rattle.dp_encryptor.specs.Body.{Secret, subkeys, enciphered, tag, sealed, Opens}

-- ---- the parts of parts that were joined

same_parts : (m v c t w x y z : List ℕ) → w ≡ m → x ≡ v → y ≡ c → z ≡ t →
    (let one : Parts = record { modifier = w; iv = x; enciphered = y; tag = z } in one)
    ≡ (let two : Parts = record { modifier = m; iv = v; enciphered = c; tag = t } in two)
same_parts m v c t w x y z a b d e = cc

module _ (alg : Alg) (m v c t : List ℕ) (ml : length m ≡ 16) (vl : length v ≡ iv_len alg) (tl : length t ≡ tag_len alg) where
  long : length (m ++ v ++ c ++ t) ≡ 16 + iv_len alg + length c + tag_len alg
  long = simp length-append (omega arith)

  modifier_again : take 16 (m ++ v ++ c ++ t) ≡ m
  modifier_again = rw (append_assoc, append_assoc) (take_at m (v ++ (c ++ t)) 16 ml)

  iv_again : take (iv_len alg) (drop 16 (m ++ v ++ c ++ t)) ≡ v
  iv_again =
      let rest : drop 16 (m ++ v ++ c ++ t) ≡ v ++ (c ++ t) = rw (append_assoc, append_assoc) (drop_at m (v ++ (c ++ t)) 16 ml) in
      rw rest (take_at v (c ++ t) (iv_len alg) vl)

  enciphered_again : take (length (m ++ v ++ c ++ t) - (16 + iv_len alg + tag_len alg)) (drop (16 + iv_len alg) (m ++ v ++ c ++ t)) ≡ c
  enciphered_again =
      let n = length-append m v in
      let rest : drop (16 + iv_len alg) (m ++ v ++ c ++ t) ≡ c ++ t =
      rw append_assoc (drop_at (m ++ v) (c ++ t) (16 + iv_len alg) (omega arith)) in
      let all = long in
      rw rest (take_at c t (length (m ++ v ++ c ++ t) - (16 + iv_len alg + tag_len alg)) (omega arith))

  tag_again : drop (length (m ++ v ++ c ++ t) - tag_len alg) (m ++ v ++ c ++ t) ≡ t
  tag_again =
      let n = length-append m v in
      let k = length-append (m ++ v) c in
      let all = long in
      drop_at (m ++ v ++ c) t (length (m ++ v ++ c ++ t) - tag_len alg) (omega arith)

-- the parts again
pub parts_of-joined : (alg : Alg) (parts : Parts) → length parts.modifier ≡ 16 → length parts.iv ≡ iv_len alg → length parts.tag ≡ tag_len alg →
    parts_of alg (joined parts) ≡ parts
parts_of-joined alg parts ml vl tl =
    same_parts _ _ _ _ _ _ _ _
    (modifier_again alg parts.modifier parts.iv parts.enciphered parts.tag ml vl tl)
    (iv_again alg parts.modifier parts.iv parts.enciphered parts.tag ml vl tl)
    (enciphered_again alg parts.modifier parts.iv parts.enciphered parts.tag ml vl tl)
    (tag_again alg parts.modifier parts.iv parts.enciphered parts.tag ml vl tl)

-- ---- the length of a tag

pub length-gcm_tag : (key nonce aad c : List ℕ) → length nonce ≡ 12 → AreBytes nonce → length (gcm_tag (aes_cipher key) nonce aad c) ≡ 16
unfolding gcm_tag ghash block_of
length-gcm_tag key nonce aad c len are =
    let keeps = IsBlock-aes_cipher key in
    let full = (keeps (counter_block nonce 1) (IsBlock-counter_block (aes_cipher key) keeps nonce len are 1)).0 in
    length-xor_bytes-le (ghash (aes_cipher key (replicate 16 0)) aad c) (aes_cipher key (counter_block nonce 1)) (omega arith)

pub length-tag : (alg : Alg) (keys : KeyPair) (iv c : List ℕ) → length iv ≡ iv_len alg → AreBytes iv → length (tag alg keys iv c) ≡ tag_len alg
length-tag (Cbc256 size) keys iv c len are = length-sha256 _
length-tag (Cbc512 size) keys iv c len are = length-sha512 _
length-tag (Gcm size) keys iv c len are = length-gcm_tag keys.encryption iv [] c len are

-- the body of a text opens to it
pub Opens-sealed : (secret : Secret) (aad modifier iv text : List ℕ) → length modifier ≡ 16 → length iv ≡ iv_len secret.alg → AreBytes iv →
    Opens secret.alg (subkeys secret aad modifier) (parts_of secret.alg (joined (sealed secret aad modifier iv text))) text
Opens-sealed secret aad modifier iv text ml vl are =
    let keys = subkeys secret aad modifier in
    let tl = length-tag secret.alg keys iv (enciphered secret.alg keys.encryption iv text) vl are in
    let again = parts_of-joined secret.alg (sealed secret aad modifier iv text) ml vl tl in
    subst (λ (parts : Parts). Opens secret.alg keys parts text) (sym again) (refl, refl)

-- ---- one text

pub inverse : (key : List ℕ) → AreInverse (aes_cipher key) (aes_decipher key)
inverse key = record {
  enciphers = IsBlock-aes_cipher key;
  deciphers = IsBlock-aes_decipher key;
  undoes = aes_decipher-aes_cipher key;
  redoes = aes_cipher-aes_decipher key;
}

opened : (key iv text : List ℕ) → length iv ≡ 16 → AreBytes iv → AreBytes text → plaintext (aes_decipher key) iv (ciphertext (aes_cipher key) iv (pad text)) ≡ pad text
opened key iv text len are bytes =
    plaintext-ciphertext (aes_cipher key) (aes_decipher key) (inverse key) iv (pad text) (len, are) (pad-whole text) (AreBytes-pad text bytes)

unpadded : (text other : List ℕ) → pad text ≡ pad other → text ≡ other
unpadded text other e =
    sym (take-pad text) ∙ ap (λ (whole : List ℕ). take (length whole - last_byte whole) whole) e ∙ take-pad other

cbc_one : (key iv text other : List ℕ) → length iv ≡ 16 → AreBytes iv → AreBytes text → AreBytes other →
    ciphertext (aes_cipher key) iv (pad text) ≡ ciphertext (aes_cipher key) iv (pad other) → text ≡ other
cbc_one key iv text other len are a b e =
    unpadded text other (sym (opened key iv text len are a) ∙ ap (plaintext (aes_decipher key) iv) e ∙ opened key iv other len are b)

gcm_one : (key iv text other : List ℕ) → length iv ≡ 12 → AreBytes iv → ctr (aes_cipher key) iv text ≡ ctr (aes_cipher key) iv other → text ≡ other
gcm_one key iv text other len are e =
    let keeps = IsBlock-aes_cipher key in
    sym (ctr-ctr (aes_cipher key) keeps iv len are text) ∙ ap (ctr (aes_cipher key) iv) e ∙ ctr-ctr (aes_cipher key) keeps iv len are other

enciphered_one : (alg : Alg) (key iv text other : List ℕ) → length iv ≡ iv_len alg → AreBytes iv → AreBytes text → AreBytes other →
    enciphered alg key iv text ≡ enciphered alg key iv other → text ≡ other
enciphered_one (Cbc256 size) key iv text other len are a b e = cbc_one key iv text other len are a b e
enciphered_one (Cbc512 size) key iv text other len are a b e = cbc_one key iv text other len are a b e
enciphered_one (Gcm size) key iv text other len are a b e = gcm_one key iv text other len are e

-- no body opens to two texts
pub Opens-one : (alg : Alg) (keys : KeyPair) (parts : Parts) (text other : List ℕ) → length parts.iv ≡ iv_len alg → AreBytes parts.iv →
    AreBytes text → AreBytes other → Opens alg keys parts text → Opens alg keys parts other → text ≡ other
Opens-one alg keys parts text other len are a b p q =
    enciphered_one alg keys.encryption parts.iv text other len are a b (sym p.1 ∙ q.1)
