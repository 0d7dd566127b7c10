-- The refusals of parts as those of a whole payload, and those of a payload as what is told of a text or
-- of a payload that expires. Want of memory is told alike at each.
use Rattle.base64.specs.declared.decode.DecodeAllocError.{DecodeAllocError}
use Rattle.base64.specs.declared.decode.DecodeAllocError.TheVariants as decoding
use Rattle.payload_view.specs.declared.head.HeadRefused.{HeadRefused}
use Rattle.payload_view.specs.declared.head.HeadRefused.TheVariants as heads
use Rattle.dp_encryptor.specs.declared.encryptor.BodyRefused.{BodyRefused}
use Rattle.dp_encryptor.specs.declared.encryptor.BodyRefused.TheVariants as bodies
use Rattle.timed_payload.specs.declared.expiry.TimedRefused.{TimedRefused}
use Rattle.timed_payload.specs.declared.expiry.TimedRefused.TheVariants as expiries
use Rattle.dp_protector.specs.declared.refused.UnprotectRefused.{UnprotectRefused}
use Rattle.dp_protector.specs.declared.refused.UnprotectRefused.TheVariants as payloads
use Rattle.dp_protector.specs.declared.refused.TextRefused.{TextRefused}
use Rattle.dp_protector.specs.declared.refused.TextRefused.TheVariants as texts
use Rattle.dp_protector.specs.declared.refused.TimedOpenRefused.{TimedOpenRefused}
use Rattle.dp_protector.specs.declared.refused.TimedOpenRefused.TheVariants as timed

abbrev pub of_head : HeadRefused → UnprotectRefused
of_head heads.BadHeader = payloads.BadHeader
of_head heads.BadVersion = payloads.BadVersion

abbrev pub of_body : BodyRefused → UnprotectRefused
of_body bodies.Tampered = payloads.Tampered
of_body bodies.Memory = payloads.Memory

abbrev pub of_decoding : DecodeAllocError → TextRefused
of_decoding (decoding.DecodeError why) = texts.BadText
of_decoding decoding.OutOfMemory = texts.Memory

abbrev pub refused_in_text : UnprotectRefused → TextRefused
refused_in_text payloads.BadHeader = texts.Body payloads.BadHeader
refused_in_text payloads.BadVersion = texts.Body payloads.BadVersion
refused_in_text (payloads.KeyNotFound id) = texts.Body (payloads.KeyNotFound id)
refused_in_text (payloads.KeyRevoked id) = texts.Body (payloads.KeyRevoked id)
refused_in_text (payloads.KeyUnusable id) = texts.Body (payloads.KeyUnusable id)
refused_in_text payloads.Tampered = texts.Body payloads.Tampered
refused_in_text payloads.Memory = texts.Memory

abbrev pub refused_in_timed : UnprotectRefused → TimedOpenRefused
refused_in_timed payloads.BadHeader = timed.Body payloads.BadHeader
refused_in_timed payloads.BadVersion = timed.Body payloads.BadVersion
refused_in_timed (payloads.KeyNotFound id) = timed.Body (payloads.KeyNotFound id)
refused_in_timed (payloads.KeyRevoked id) = timed.Body (payloads.KeyRevoked id)
refused_in_timed (payloads.KeyUnusable id) = timed.Body (payloads.KeyUnusable id)
refused_in_timed payloads.Tampered = timed.Body payloads.Tampered
refused_in_timed payloads.Memory = timed.Memory

abbrev pub refused_expiry : TimedRefused → TimedOpenRefused
refused_expiry expiries.Invalid = timed.Invalid
refused_expiry (expiries.Expired at) = timed.Expired at
