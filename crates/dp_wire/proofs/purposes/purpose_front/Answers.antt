use Rattle.std.proofs.Common.{◌≡◌, true, false, sym, ap, ◌∙◌, arith}
use Rattle.std.specs.Str.{is_utf8}
use Rattle.std.proofs.lemmas.Str.{is_utf8-from_IsUtf8, IsUtf8-from_is_utf8}
use Rattle.dp_wire.specs.Chains.{counted, purpose_front}
use Rattle.dp_wire.proofs.Chains.{counted_some, counted_none, not_text}
use Rattle.dp_wire.proofs.purposes.purpose_front.Goals as goal

pub returns-in-Ok-from_utf8 : goal.returns-in-Ok-from_utf8
unfolding purpose_front
returns-in-Ok-from_utf8 c =
    let text : is_utf8 c.split_at.result.0.now ≡ true = is_utf8-from_IsUtf8 _ c.in-Ok-from_utf8.ensures.cases.1 in
    let same : c.in-Ok-from_utf8.purpose.now ≡ c.split_at.result.0.now = c.in-Ok-from_utf8.ensures.cases.0 in
    sym (counted_some (c.in-Ok.found.0, c.in-Ok.found.1.now) c.in-Ok-from_utf8.purpose.now _ (omega arith) (same ∙ c.split_at.ensures.front) c.split_at.ensures.back (ap is_utf8 same ∙ text)) ∙ ap counted c.in-Ok.ensures

pub returns-in-Err-from_utf8 : goal.returns-in-Err-from_utf8
unfolding purpose_front
returns-in-Err-from_utf8 c =
    let text : is_utf8 c.split_at.result.0.now ≡ false = not_text _ (λ e. c.in-Err-from_utf8.ensures.cases.0 (IsUtf8-from_is_utf8 _ e)) in
    sym (counted_none (c.in-Ok.found.0, c.in-Ok.found.1.now) _ (omega arith) c.split_at.ensures.front text) ∙ ap counted c.in-Ok.ensures
