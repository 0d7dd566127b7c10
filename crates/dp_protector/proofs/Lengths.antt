-- How much longer a payload is than its plaintext.
use Rattle.std.proofs.Common.{◌≡◌, ℕ, zero, suc, ◌+◌, ◌*◌, ◌-◌, ◌≤◌, Bool, true, false, ◌&&◌, List, [], ◌∷◌, ◌++◌, length, take, drop, Option, Some, None, Result, Ok, Err, refl, sym, ap, ◌∙◌, arith, lit<, length-append}
use Rattle.std.specs.Prelude.{nat_le, nat_lt, if◌then◌else◌}
use Rattle.std.specs.Int.{w64, to_be_bytes}
use Rattle.std.specs.Str.{is_utf8}
use Rattle.std.proofs.lemmas.Bool.Decides.{nat_tests}
use Rattle.std.proofs.lemmas.List.{length-take, length-take-le, length-drop}
use Rattle.base64.specs.Engines.{url_safe_no_pad}
use Rattle.base64.specs.Rfc4648.{encode_symbols}
use Rattle.dp_base.specs.Blocks.{AreBytes}
use Rattle.dp_base.specs.Draws.{DrawState}
use Rattle.dp_base.specs.Lengths.{iv_len, tag_len}
use Rattle.dp_base.specs.declared.alg.Alg.{Alg}
use Rattle.dp_base.specs.declared.alg.Alg.TheVariants.{Cbc256, Cbc512, Gcm}
use Rattle.dp_base.proofs.Parts.{AreBytes-append, AreBytes-drop}
use Rattle.aes_block.specs.Cipher.{aes_cipher, aes_decipher}
use Rattle.aes_block.specs.Laws.{IsBlock-aes_cipher}
use Rattle.cbc_mode.specs.Cbc.{ciphertext}
use Rattle.cbc_mode.specs.Pad.{pad}
use Rattle.cbc_mode.proofs.Inverse.{length-ciphertext}
use Rattle.cbc_mode.proofs.Padding.{AreBytes-pad, length-pad, pad-whole, pad_len-bounds}
use Rattle.gcm_mode.proofs.Counting.{length-ctr}
use Rattle.key_elements.specs.declared.element.KeyRecord.{KeyRecord}
use Rattle.key_ring.specs.Ring.{RingOf, default_key}
use Rattle.payload_view.specs.Payload.{parts_of, plain_len}
use Rattle.dp_encryptor.specs.Body.{enciphered, subkeys, tag}
use Rattle.dp_encryptor.proofs.Undoing.{inverse, length-tag}
use Rattle.purpose_chain.specs.Chain.{aad, first_bytes}
use Rattle.dp_base.specs.Guid.{guid}
use Rattle.timed_payload.specs.Timed.{expiry_of, split, timed}
use Rattle.timed_payload.specs.declared.expiry.TimedRefused.TheVariants.{Expired, Invalid}
use Rattle.dp_base.specs.declared.ticks.TheConstants.{MAX_TICKS}
use Rattle.dp_protector.specs.declared.refused.TimedOpenRefused.{TimedOpenRefused}
use Rattle.dp_protector.specs.declared.refused.ProtectRefused.{ProtectRefused}
use Rattle.dp_protector.specs.declared.refused.ProtectRefused.TheVariants.{TooLong}
use Rattle.dp_protector.specs.declared.refused.TextRefused.TheVariants.{NotText}
use Rattle.dp_protector.specs.declared.refused.UnprotectRefused.{UnprotectRefused}
use Rattle.timed_payload.specs.declared.expiry.TimedRefused.{TimedRefused}
use Rattle.dp_protector.specs.Algorithms.{alg_of}
use Rattle.dp_protector.specs.Payload.{seal, secret}
use Rattle.dp_protector.specs.Protect.{Sealed, draw_len, protects, sealed_for, sealed_under, sealing, within}
use Rattle.dp_protector.specs.Opening.{Opening, open_body, opened}
use Rattle.dp_protector.specs.Text.{as_text, given_as_text, protects_text, text_of}
use Rattle.dp_protector.specs.Timed.{TimedOpening, as_timed, opened_timed, protects_timed, timed_chain, without_expiry}
use Rattle.dp_protector.proofs.Bodies.{AreBytes-enciphered, AreBytes-iv, open_body-long, open_body-short}
use Rattle.dp_protector.proofs.Everywhere.{head_len}
use Rattle.dp_protector.proofs.Sealing.{draw_len-is}
use Rattle.dp_protector.proofs.Taken.{taken}
use Rattle.dp_protector.proofs.Texts.{open_parts-opens}

abbrev parted_as : ℕ × List ℕ → Result (ℕ × List ℕ) TimedRefused
parted_as p = Ok p

abbrev opened_as : TimedOpening → Result TimedOpening TimedOpenRefused
opened_as o = Ok o

abbrev ok_of : List ℕ → Result (List ℕ) ProtectRefused
ok_of x = Ok x

-- ---- a text and what is enciphered of it

padded : (key iv text : List ℕ) → length iv ≡ 16 → AreBytes iv → AreBytes text
    → (length text ≤ length (ciphertext (aes_cipher key) iv (pad text))) × (length (ciphertext (aes_cipher key) iv (pad text)) ≤ length text + 16)
padded key iv text len are bytes =
    let whole = length-ciphertext (aes_cipher key) (aes_decipher key) (inverse key) iv (pad text) (len, are) (pad-whole text) (AreBytes-pad text bytes) in
    let all = length-pad text in
    let some = pad_len-bounds text in
    (omega (arith, whole, all), omega (arith, whole, all, some.1))

-- it is as long as the text, or longer by a block at the most
length-enciphered : (alg : Alg) (key iv text : List ℕ) → length iv ≡ iv_len alg → AreBytes iv → AreBytes text
    → (length text ≤ length (enciphered alg key iv text)) × (length (enciphered alg key iv text) ≤ length text + 16)
length-enciphered (Cbc256 size) key iv text len are bytes = padded key iv text len are bytes
length-enciphered (Cbc512 size) key iv text len are bytes = padded key iv text len are bytes
length-enciphered (Gcm size) key iv text len are bytes =
    let same = length-ctr (aes_cipher key) (IsBlock-aes_cipher key) iv len are text in
    (omega (arith, same), omega (arith, same))

-- ---- what is sealed

fixed-lengths : (alg : Alg) → (12 ≤ iv_len alg) × (iv_len alg ≤ 16) × (tag_len alg ≤ 64)
fixed-lengths (Cbc256 size) = (omega arith, omega arith, omega arith)
fixed-lengths (Cbc512 size) = (omega arith, omega arith, omega arith)
fixed-lengths (Gcm size) = (omega arith, omega arith, omega arith)

-- a payload has at most 132 bytes more than its text
length-seal : (alg : Alg) (key : KeyRecord) (chain : List (List ℕ)) (drawn text : List ℕ) → length drawn ≡ 16 + iv_len alg → AreBytes drawn → AreBytes text
    → length (seal alg key chain (take 16 drawn) (drop 16 drawn) text) ≤ length text + 132
unfolding seal
length-seal alg key chain drawn text len are bytes =
    let m = take 16 drawn in
    let iv = drop 16 drawn in
    let keys = subkeys (secret alg key) (aad key.id.0 chain) m in
    let c = enciphered alg keys.encryption iv text in
    let t = tag alg keys iv c in
    let vl : length iv ≡ iv_len alg = omega (arith, length-drop 16 drawn, len) in
    let ml : length m ≡ 16 = length-take-le 16 drawn (omega (arith, len)) in
    let fixed = fixed-lengths alg in
    omega (
      arith,
      head_len key.id.0,
      length-append (first_bytes ++ guid key.id.0) (m ++ iv ++ c ++ t),
      length-append (m ++ iv ++ c) t,
      length-append (m ++ iv) c,
      length-append m iv,
      ml,
      vl,
      (length-enciphered alg keys.encryption iv text vl (AreBytes-drop 16 drawn are) bytes).1,
      length-tag alg keys iv c vl (AreBytes-drop 16 drawn are),
      fixed.1,
      fixed.2,
    )

ok_same : {x y : List ℕ} → ok_of x ≡ ok_of y → x ≡ y
ok_same e = cc

length-sealing : (ring : RingOf) (chain : List (List ℕ)) (drawn text payload : List ℕ) → length drawn ≡ draw_len ring → AreBytes drawn → AreBytes text
    → sealing ring chain drawn text ≡ Ok payload → length payload ≤ length text + 132
unfolding sealing
length-sealing ring chain drawn text payload len are bytes e = at (default_key ring.list ring.made_at) refl e
  where
    at : (o : Option KeyRecord) → default_key ring.list ring.made_at ≡ o → sealed_under o chain drawn text ≡ Ok payload → length payload ≤ length text + 132
    at None is told = absurd cc
    at (Some key) is told = under (alg_of key.alg) refl told
      where
        under : (a : Option Alg) → alg_of key.alg ≡ a → sealed_for a key chain drawn text ≡ Ok payload → length payload ≤ length text + 132
        under None has told = absurd cc
        under (Some alg) has told =
            let made : payload ≡ seal alg key chain (take 16 drawn) (drop 16 drawn) text = sym (ok_same told) in
            rw made (length-seal alg key chain drawn text (len ∙ draw_len-is ring key alg is has) are bytes)

-- ---- what each call that protects gives

within-ok : (most : ℕ) (text payload : List ℕ) (given : Result (List ℕ) ProtectRefused) → within most text given ≡ Ok payload → (length text ≤ most) × (given ≡ Ok payload)
within-ok most text payload given e = at (nat_lt most (length text)) refl e
  where
    at : (b : Bool) → nat_lt most (length text) ≡ b → (if b then Err (TooLong (length text)) else given) ≡ Ok payload → (length text ≤ most) × (given ≡ Ok payload)
    at true is told = absurd cc
    at false is told = (grind (arith, nat_tests), told)

-- the payload of a plaintext
pub length-protects : {old new : DrawState} (ring : RingOf) (chain : List (List ℕ)) (plain payload : List ℕ) → AreBytes plain
    → Sealed (draw_len ring) (λ drawn. protects ring chain drawn plain) old new payload → length payload ≤ 1000132
length-protects ring chain plain payload are is =
    let given = within-ok 1000000 plain payload (sealing ring chain is.drawn plain) is.value_is in
    omega (arith, given.0, length-sealing ring chain is.drawn plain payload is.len_is is.bytes are given.1)

-- as a text
symbols-few : (t m : List ℕ) → length (encode_symbols t m) ≤ 2 * length m
unfolding encode_symbols
symbols-few t [] = omega arith
symbols-few t (a ∷ []) = omega arith
symbols-few t (a ∷ b ∷ []) = omega arith
symbols-few t (a ∷ b ∷ c ∷ rest) = omega (arith, symbols-few t rest)

length-text_of : (payload : List ℕ) → length (text_of payload) ≤ 2 * length payload
length-text_of payload =
    let symbols = encode_symbols url_safe_no_pad.encode_table payload in
    omega (arith, length-append symbols [], symbols-few url_safe_no_pad.encode_table payload)

pub length-protects_text : {old new : DrawState} (ring : RingOf) (chain : List (List ℕ)) (text given : List ℕ) → AreBytes text
    → Sealed (draw_len ring) (λ drawn. protects_text ring chain drawn text) old new given → length given ≤ 1500264
length-protects_text ring chain text given are is =
    let kept = within-ok 750000 text given (given_as_text (sealing ring chain is.drawn text)) is.value_is in
    at (sealing ring chain is.drawn text) refl kept.0 kept.1
  where
    at : (r : Result (List ℕ) ProtectRefused) → sealing ring chain is.drawn text ≡ r → length text ≤ 750000 → given_as_text r ≡ Ok given → length given ≤ 1500264
    at (Err why) told few e = absurd cc
    at (Ok payload) told few e =
        let same : text_of payload ≡ given = ok_same e in
        omega (arith, few, ap length same, length-text_of payload, length-sealing ring chain is.drawn text payload is.len_is is.bytes are told)

-- with an expiry in front
AreBytes-be64 : (n : ℕ) → AreBytes (to_be_bytes w64 n)
AreBytes-be64 n zero = omega arith
AreBytes-be64 n (suc zero) = omega arith
AreBytes-be64 n (suc (suc zero)) = omega arith
AreBytes-be64 n (suc (suc (suc zero))) = omega arith
AreBytes-be64 n (suc (suc (suc (suc zero)))) = omega arith
AreBytes-be64 n (suc (suc (suc (suc (suc zero))))) = omega arith
AreBytes-be64 n (suc (suc (suc (suc (suc (suc zero)))))) = omega arith
AreBytes-be64 n (suc (suc (suc (suc (suc (suc (suc zero))))))) = omega arith
AreBytes-be64 n (suc (suc (suc (suc (suc (suc (suc (suc i)))))))) = lit< tt

pub length-protects_timed : {old new : DrawState} (ring : RingOf) (chain : List (List ℕ)) (expiry : ℕ) (plain payload : List ℕ) → AreBytes plain
    → Sealed (draw_len ring) (λ drawn. protects_timed ring chain drawn expiry plain) old new payload → length payload ≤ 1000132
length-protects_timed ring chain expiry plain payload are is =
    let given = within-ok 999992 plain payload (sealing ring (timed_chain chain) is.drawn (timed expiry plain)) is.value_is in
    omega (arith, given.0, length-sealing ring (timed_chain chain) is.drawn (timed expiry plain) payload is.len_is is.bytes (AreBytes-append (to_be_bytes w64 expiry) plain (AreBytes-be64 expiry) are) given.1)

-- ---- what is opened

-- a body has the room of its fixed parts more than its text
length-body : (alg : Alg) (key : KeyRecord) (chain : List (List ℕ)) (body text : List ℕ) → AreBytes body → open_body alg key chain body ≡ Some text
    → length text + plain_len alg ≤ length body
length-body alg key chain body text are e = at (nat_lt (length body) (plain_len alg)) refl
  where
    some_none : None ≡ Some text → ⊥
    some_none same = absurd cc

    at : (b : Bool) → nat_lt (length body) (plain_len alg) ≡ b → length text + plain_len alg ≤ length body
    at true is = absurd (some_none (sym (open_body-short alg key chain body (grind (arith, nat_tests))) ∙ e))
    at false is =
        let room : plain_len alg ≤ length body = grind (arith, nat_tests) in
        let parts = parts_of alg body in
        let keys = subkeys (secret alg key) (aad key.id.0 chain) parts.modifier in
        let vl : length parts.iv ≡ iv_len alg =
        length-take-le (iv_len alg) (drop 16 body) (omega (arith, room, length-drop 16 body)) in
        let opens = open_parts-opens alg keys parts text vl (AreBytes-iv alg body are) (AreBytes-enciphered alg body are)
        (sym (open_body-long alg key chain body (λ short. absurd (omega (arith, room, short)))) ∙ e) in
        omega (
          arith,
          room,
          (length-enciphered alg keys.encryption parts.iv text vl (AreBytes-iv alg body are) opens.1).0,
          ap length opens.0.1,
          length-take (length body - plain_len alg) (drop (16 + iv_len alg) body),
        )

-- a payload has its head more than its plaintext
pub length-opened : (ring : RingOf) (chain : List (List ℕ)) (payload : List ℕ) (allow : Bool) (o : Opening) → AreBytes payload
    → opened ring chain payload allow ≡ Ok o → length o.plain + 20 ≤ length payload
length-opened ring chain payload allow o are e =
    let t = taken ring chain payload allow o e in
    omega (arith, length-drop 20 payload, length-body t.alg t.s.key chain (drop 20 payload) o.plain (AreBytes-drop 20 payload are) t.body)

pub length-as_text : (ring : RingOf) (chain : List (List ℕ)) (payload : List ℕ) (allow : Bool) (o : Opening) → AreBytes payload
    → as_text (opened ring chain payload allow) ≡ Ok o → length o.plain + 20 ≤ length payload
length-as_text ring chain payload allow o are e = at (opened ring chain payload allow) refl e
  where
    text : (b : Bool) (p : Opening) → (if b then Ok p else Err NotText) ≡ Ok o → p ≡ o
    text true p told = cc
    text false p told = absurd cc

    at : (r : Result Opening UnprotectRefused) → opened ring chain payload allow ≡ r → as_text r ≡ Ok o → length o.plain + 20 ≤ length payload
    at (Err why) is told = absurd cc
    at (Ok p) is told =
        omega (arith, ap (λ (x : Opening). length x.plain) (text (is_utf8 p.plain) p told), length-opened ring chain payload allow p are is)

rest_same : {p q : ℕ × List ℕ} → parted_as p ≡ parted_as q → p.1 ≡ q.1
rest_same {p = p} {q = q} e = let same : p ≡ q = cc in ap (λ (x : ℕ × List ℕ). x.1) same

-- the plaintext behind an expiry is the rest
split-short : (bytes : List ℕ) (now expiry : ℕ) (plain : List ℕ) → split bytes now ≡ Ok (expiry, plain) → length plain ≤ length bytes
unfolding split
split-short bytes now expiry plain e =
    at (nat_le 8 (length bytes) && nat_le (expiry_of bytes) MAX_TICKS) (nat_lt (expiry_of bytes) now) e
  where
    parts : ℕ × List ℕ
    parts = (expiry_of bytes, drop 8 bytes)

    at : (b c : Bool) → (if b then (if c then Err (Expired (expiry_of bytes)) else Ok parts) else Err Invalid) ≡ Ok (expiry, plain) → length plain ≤ length bytes
    at true true told = absurd cc
    at true false told = omega (arith, ap length (rest_same told), length-drop 8 bytes)
    at false c told = absurd cc

pub length-opened_timed : (ring : RingOf) (chain : List (List ℕ)) (payload : List ℕ) (allow : Bool) (now : ℕ) (o : TimedOpening) → AreBytes payload
    → opened_timed ring chain payload allow now ≡ Ok o → length o.plain + 20 ≤ length payload
unfolding opened_timed
length-opened_timed ring chain payload allow now o are e = at (opened ring (timed_chain chain) payload allow) refl e
  where
    rest : (p : Opening) (r : Result (ℕ × List ℕ) TimedRefused) → split p.plain now ≡ r → without_expiry p r ≡ Ok o → length o.plain ≤ length p.plain
    rest p (Err why) is told = absurd cc
    rest p (Ok parts) is told =
        let same : parts.1 ≡ o.plain = plain_same told in
        omega (arith, ap length same, split-short p.plain now parts.0 parts.1 is)
      where
        plain_same : {a b : TimedOpening} → opened_as a ≡ opened_as b → a.plain ≡ b.plain
        plain_same {a = a} {b = b} s = let same : a ≡ b = cc in ap (λ (x : TimedOpening). x.plain) same

    at : (r : Result Opening UnprotectRefused) → opened ring (timed_chain chain) payload allow ≡ r → as_timed now r ≡ Ok o → length o.plain + 20 ≤ length payload
    at (Err why) is told = absurd cc
    at (Ok p) is told =
        omega (arith, rest p (split p.plain now) refl told, length-opened ring (timed_chain chain) payload allow p are is)
