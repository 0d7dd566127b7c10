-- What texts and payloads that expire open to, from what their payloads open to.
use Rattle.std.proofs.Common.{◌≡◌, ◌⊎◌, ℕ, ◌≤◌, Bool, true, false, List, [], ◌∷◌, length, Option, Some, None, Result, Ok, Err, refl, sym, ap, ◌∙◌, arith, length-append, inl, inr}
use Rattle.std.specs.Result.{result_ok}
use Rattle.std.specs.Str.{is_utf8}
use Rattle.std.specs.Prelude.{◌↔◌}
use Rattle.base64.proofs.EngineFacts.{decode_of_iff}
use Rattle.base64.specs.declared.decode.DecodeError.{DecodeError}
use Rattle.dp_base.specs.Blocks.{AreBytes}
use Rattle.base64.specs.Engines.{url_safe_no_pad}
use Rattle.base64.specs.GeneralPurpose.{IsDecodeFailure, decode_of, encode_of}
use Rattle.base64.specs.Rfc4648.{encode_symbols}
use Rattle.base64.specs.declared.decode.DecodeAllocError.{DecodeAllocError}
use Rattle.base64.specs.declared.decode.DecodeAllocError.TheVariants as decoding
use Rattle.key_ring.specs.Ring.{RingOf}
use Rattle.timed_payload.specs.declared.expiry.TimedRefused.{TimedRefused}
use Rattle.timed_payload.specs.Timed.{split}
use Rattle.dp_protector.specs.declared.refused.UnprotectRefused.{UnprotectRefused}
use Rattle.dp_protector.specs.declared.refused.UnprotectRefused.TheVariants as payloads
use Rattle.dp_protector.specs.declared.refused.TextRefused.{TextRefused}
use Rattle.dp_protector.specs.declared.refused.TextRefused.TheVariants as texts
use Rattle.dp_protector.specs.declared.refused.TimedOpenRefused.{TimedOpenRefused}
use Rattle.dp_protector.specs.declared.refused.TimedOpenRefused.TheVariants as timed
use Rattle.dp_protector.specs.Refusals.{of_decoding, refused_expiry, refused_in_text, refused_in_timed}
use Rattle.dp_protector.specs.Opening.{Opening, WantsMemory, opened}
use Rattle.dp_protector.specs.Text.{as_text, opened_payload, opened_text, payload_of, text_of}
use Rattle.dp_protector.specs.Timed.{TimedOpening, as_timed, opened_timed, timed_chain, without_expiry}

-- ---- base64url

-- no text is shorter than its payload
symbols-long : (t m : List ℕ) → length m ≤ length (encode_symbols t m)
unfolding encode_symbols
symbols-long t [] = omega arith
symbols-long t (a ∷ []) = omega arith
symbols-long t (a ∷ b ∷ []) = omega arith
symbols-long t (a ∷ b ∷ c ∷ rest) = let more = symbols-long t rest in omega arith

pub payload-short : (text payload : List ℕ) → text ≡ encode_of url_safe_no_pad payload → length payload ≤ length text
payload-short text payload e =
    let long = symbols-long url_safe_no_pad.encode_table payload in
    let same = ap length e in
    let joined = length-append (encode_symbols url_safe_no_pad.encode_table payload) [] in
    omega arith

pub payload-found : (text payload : List ℕ) → decode_of url_safe_no_pad text ≡ Ok payload → payload_of text ≡ Some payload
unfolding payload_of
payload-found text payload e = ap result_ok e

pub payload-refused : (why : DecodeAllocError) (text : List ℕ) → IsDecodeFailure url_safe_no_pad text why
    → (of_decoding why ≡ texts.Memory) ⊎ ((of_decoding why ≡ texts.BadText) × (payload_of text ≡ None))
unfolding payload_of
payload-refused (decoding.DecodeError why) text e = inr (refl, ap result_ok e)
payload-refused decoding.OutOfMemory text e = inl refl

some_ok : (r : Result (List ℕ) DecodeError) (payload : List ℕ) → (result_ok r ≡ Some payload) ↔ (r ≡ Ok payload)
some_ok (Ok x) payload = (λ e. cc, λ e. cc)
some_ok (Err why) payload = (λ e. absurd cc, λ e. absurd cc)

pub payload-one : (text payload : List ℕ) → AreBytes text → AreBytes payload → (payload_of text ≡ Some payload) ↔ (text ≡ text_of payload)
unfolding payload_of
payload-one text payload a b =
    let iff = decode_of_iff url_safe_no_pad text payload (refl, refl) a b in
    let ok = some_ok (decode_of url_safe_no_pad text) payload in
    (λ e. iff.0 (ok.0 e), λ e. ok.1 (iff.1 e))

-- ---- texts

module _ (ring : RingOf) (chain : List (List ℕ)) (allow : Bool) where
  pub text-none : (text : List ℕ) (why : TextRefused) → (why ≡ texts.Memory) ⊎ ((why ≡ texts.BadText) × (payload_of text ≡ None))
      → (opened_text ring chain text allow ≡ Err why) ⊎ (why ≡ texts.Memory)
  unfolding opened_text
  text-none text why (inl memory) = inr memory
  text-none text why (inr (bad, none)) = inl (ap (λ (o : Option (List ℕ)). opened_payload ring chain o allow) none ∙ ap Err (sym bad))

  module _ (payload : List ℕ) where
    pub text-payload : (text : List ℕ) → payload_of text ≡ Some payload → opened_text ring chain text allow ≡ as_text (opened ring chain payload allow)
    unfolding opened_text
    text-payload text found = ap (λ (o : Option (List ℕ)). opened_payload ring chain o allow) found

    pub text-refused : (why : UnprotectRefused) → (opened ring chain payload allow ≡ Err why) ⊎ ((why ≡ payloads.Memory) × WantsMemory (opened ring chain payload allow))
        → (as_text (opened ring chain payload allow) ≡ Err (refused_in_text why)) ⊎ (refused_in_text why ≡ texts.Memory)
    text-refused why (inl told) = inl (ap as_text told)
    text-refused why (inr (memory, wants)) = inr (ap refused_in_text memory)

    pub text-ok : (o : Opening) (plain : List ℕ) → opened ring chain payload allow ≡ Ok o → is_utf8 o.plain ≡ true → o.plain ≡ plain
        → as_text (opened ring chain payload allow) ≡ Ok (record { plain = plain; revoked = o.revoked; default_changed = o.default_changed })
    text-ok o plain told utf8 same =
        let with_plain : List ℕ → Result Opening TextRefused = λ p. Ok (record { plain = p; revoked = o.revoked; default_changed = o.default_changed }) in
        ap as_text told ∙ rw utf8 refl ∙ ap with_plain same

    pub text-not : (o : Opening) → opened ring chain payload allow ≡ Ok o → is_utf8 o.plain ≡ false → as_text (opened ring chain payload allow) ≡ Err texts.NotText
    text-not o told utf8 = ap as_text told ∙ rw utf8 refl

-- ---- payloads that expire

module _ (ring : RingOf) (chain child : List (List ℕ)) (payload : List ℕ) (allow : Bool) (now : ℕ) (is : child ≡ timed_chain chain) where
  of_child : opened_timed ring chain payload allow now ≡ as_timed now (opened ring child payload allow)
  unfolding opened_timed
  of_child = ap (λ (d : List (List ℕ)). as_timed now (opened ring d payload allow)) (sym is)

  pub timed-refused : (why : UnprotectRefused) → (opened ring child payload allow ≡ Err why) ⊎ ((why ≡ payloads.Memory) × WantsMemory (opened ring child payload allow))
      → (opened_timed ring chain payload allow now ≡ Err (refused_in_timed why)) ⊎ (refused_in_timed why ≡ timed.Memory)
  timed-refused why (inl told) = inl (of_child ∙ ap (as_timed now) told)
  timed-refused why (inr (memory, wants)) = inr (ap refused_in_timed memory)

  module _ (o : Opening) (told : opened ring child payload allow ≡ Ok o) where
    pub timed-expiry : (why : TimedRefused) → Err why ≡ split o.plain now → opened_timed ring chain payload allow now ≡ Err (refused_expiry why)
    timed-expiry why e = of_child ∙ ap (as_timed now) told ∙ ap (without_expiry o) (sym e)

    pub timed-ok : (parts : ℕ × List ℕ) (plain : List ℕ) → Ok parts ≡ split o.plain now → parts.1 ≡ plain
        → opened_timed ring chain payload allow now ≡ Ok (record { plain = plain; expiry = parts.0; revoked = o.revoked; default_changed = o.default_changed })
    timed-ok parts plain e same =
        let with_plain : List ℕ → Result TimedOpening TimedOpenRefused =
        λ p. Ok (record { plain = p; expiry = parts.0; revoked = o.revoked; default_changed = o.default_changed }) in
        of_child ∙ ap (as_timed now) told ∙ ap (without_expiry o) (sym e) ∙ ap with_plain same

-- ---- tests

pub not_true : (b : Bool) → (b ≡ true → ⊥) → b ≡ false
not_true true h = absurd (h refl)
not_true false h = refl

pub false_not_true : false ≡ true → ⊥
false_not_true e = absurd cc
