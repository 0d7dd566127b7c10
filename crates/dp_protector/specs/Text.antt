-- Payloads as texts, in base64url (RFC 4648, 5) without padding (3.2), whose plaintexts are texts too.
use Rattle.std.specs.Prelude.{◌≡◌, ◌⊎◌, ℕ, Bool, if◌then◌else◌, List, Option, Some, None, Result, Ok, Err, string_bytes}
use Rattle.std.specs.Result.{result_ok}
use Rattle.std.specs.Str.{is_utf8}
use Rattle.base64.specs.Engines.{url_safe_no_pad}
use Rattle.base64.specs.GeneralPurpose.{decode_of, encode_of}
use Rattle.key_ring.specs.Ring.{RingOf}
use Rattle.dp_protector.specs.declared.opened.OpenedText.{OpenedText}
use Rattle.dp_protector.specs.declared.refused.ProtectRefused.{ProtectRefused}
use Rattle.dp_protector.specs.declared.refused.UnprotectRefused.{UnprotectRefused}
use Rattle.dp_protector.specs.declared.refused.TextRefused.{TextRefused}
use Rattle.dp_protector.specs.declared.refused.TextRefused.TheVariants.{BadText, NotText, Memory}
use Rattle.dp_protector.specs.declared.text.TheConstants.{MAX_TEXT}
use Rattle.dp_protector.specs.Refusals.{refused_in_text}
use Rattle.dp_protector.specs.Protect.{sealing, within}
use Rattle.dp_protector.specs.Opening.{Opening, opened}

-- a payload as a text
abbrev pub text_of : List ℕ → List ℕ
text_of payload = encode_of url_safe_no_pad payload

-- the payload that a text is of, if it is of one; each payload has one text (3.5)
unfoldable pub payload_of : List ℕ → Option (List ℕ)
payload_of text = result_ok (decode_of url_safe_no_pad text)

abbrev pub given_as_text : Result (List ℕ) ProtectRefused → Result (List ℕ) ProtectRefused
given_as_text (Ok payload) = Ok (text_of payload)
given_as_text (Err why) = Err why

-- the payload of a text, as a text, or why there is none
abbrev pub protects_text : RingOf → List (List ℕ) → List ℕ → List ℕ → Result (List ℕ) ProtectRefused
protects_text ring chain drawn text = within MAX_TEXT text (given_as_text (sealing ring chain drawn text))

-- a plaintext that is to be a text
abbrev pub as_text : Result Opening UnprotectRefused → Result Opening TextRefused
as_text (Ok o) = if is_utf8 o.plain then Ok o else Err NotText
as_text (Err why) = Err (refused_in_text why)

abbrev pub opened_payload : RingOf → List (List ℕ) → Option (List ℕ) → Bool → Result Opening TextRefused
opened_payload ring chain None allow = Err BadText
opened_payload ring chain (Some payload) allow = as_text (opened ring chain payload allow)

-- what a text opens to by the ring, for a chain, or why it doesn't open: the first that holds
unfoldable pub opened_text : RingOf → List (List ℕ) → List ℕ → Bool → Result Opening TextRefused
opened_text ring chain text allow = opened_payload ring chain (payload_of text) allow

-- what is opened, as clauses see it
abbrev pub opening_text : OpenedText → Opening
opening_text o = record { plain = string_bytes o.text; revoked = o.revoked; default_changed = o.default_changed }

-- the answer is what is due, but for want of memory
abbrev pub TextAnswers : Result OpenedText TextRefused → Result Opening TextRefused → Type 0
TextAnswers (Ok o) due = due ≡ Ok (opening_text o)
TextAnswers (Err why) due = (due ≡ Err why) ⊎ (why ≡ Memory)
