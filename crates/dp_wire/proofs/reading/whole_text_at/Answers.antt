use Rattle.std.proofs.Common.{◌≡◌, true, false, refl}
use Rattle.std.specs.Str.{is_utf8}
use Rattle.std.proofs.lemmas.Str.{is_utf8-from_IsUtf8, IsUtf8-from_is_utf8}
use Rattle.dp_wire.specs.Reading.{whole_text_at}
use Rattle.dp_wire.proofs.Chains.{not_text}
use Rattle.dp_wire.proofs.reading.whole_text_at.Goals as goal

pub returns-in-Ok : goal.returns-in-Ok
unfolding whole_text_at
returns-in-Ok c =
    let text : is_utf8 c.args.rest.now ≡ true = is_utf8-from_IsUtf8 _ c.in-Ok.ensures.cases.1 in
    rw (text, c.in-Ok.ensures.cases.0) refl

pub returns-in-Err : goal.returns-in-Err
unfolding whole_text_at
returns-in-Err c =
    let text : is_utf8 c.args.rest.now ≡ false = not_text _ (λ e. c.in-Err.ensures.cases.0 (IsUtf8-from_is_utf8 _ e)) in
    rw (text, c.wrong.ensures) refl
