use Rattle.std.proofs.Common.{◌≡◌, Bool, true, false, refl, sym}
use Rattle.std.specs.Str.{is_utf8}
use Rattle.std.proofs.lemmas.Str.{is_utf8-from_IsUtf8, IsUtf8-from_is_utf8}
use Rattle.key_elements.specs.Reading.{reason_at}
use Rattle.key_elements.proofs.reading.read_reason.Goals as goal

not_text : (b : Bool) → (b ≡ true → ⊥) → b ≡ false
not_text true h = absurd (h refl)
not_text false h = refl

pub returns-in-Ok : goal.returns-in-Ok
unfolding reason_at
returns-in-Ok c =
    let text : is_utf8 c.in_ok-text.text.now ≡ true = is_utf8-from_IsUtf8 _ c.in-Ok.ensures.cases.1 in
    rw (sym c.in_ok-len.ensures, sym c.in_ok-text.ensures, text, c.in-Ok.ensures.cases.0) refl

pub returns-in-Err : goal.returns-in-Err
unfolding reason_at
returns-in-Err c =
    let text : is_utf8 c.in_ok-text.text.now ≡ false = not_text _ (λ e. c.in-Err.ensures.cases.0 (IsUtf8-from_is_utf8 _ e)) in
    rw (sym c.in_ok-len.ensures, sym c.in_ok-text.ensures, text) refl
