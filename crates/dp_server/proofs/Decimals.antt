-- A text that reads as a number, with no sign and no zero in front, is the number's decimal text.
use Rattle.std.proofs.Common.{◌≡◌, ℕ, zero, suc, ◌^◌, ◌<◌, List, length, Result, Ok, sym, ap, subst, ◌∙◌, arith}
use Rattle.std.specs.Fmt.{decimal}
use Rattle.std.specs.List.{slice_index}
use Rattle.std.specs.Result.{OkIff}
use Rattle.std.specs.Str.Parse.{AllDigits, digits_value, ParsesUnsigned}
use Rattle.std.proofs.lemmas.Fmt.{decimal-digits_value, decimal_digit, first_decimal}
use Rattle.std.proofs.lemmas.Str.Parse.{IsNumeralModel, numerals_by_value, tells_digits, parse_plain}
use Rattle.dp_server.specs.Words.{IsPlain}

own : IsNumeralModel (AllDigits 10) (digits_value 10)
own = numerals_by_value _ tells_digits

abbrev IsSmallNumeral : List ℕ → Type 0
IsSmallNumeral text = AllDigits 10 text × (0 < length text) × (digits_value 10 text < 2 ^ 64)

-- the text of a number that is read
pub text_of : {E : Type 0} (text : List ℕ) (r : Result ℕ E) (n : ℕ) → IsPlain text → ParsesUnsigned 64 10 text r → r ≡ Ok n → text ≡ decimal n
text_of {E} text r n plain parses e =
    let read = subst (λ (q : Result ℕ E). OkIff q (IsSmallNumeral text) (digits_value 10 text)) e (parse_plain own 64 text r parses plain.0) in
    let no_more : slice_index text 0 ≡ 48 → length text ≡ 1 = λ z. omega (arith, plain.1 z, read.0.1) in
    sym (decimal-digits_value own text read.0.0 read.0.1 no_more read.0.2) ∙ ap decimal (sym read.1)

-- the text of a number has no sign and no zero in front
pub IsPlain-decimal : (n : ℕ) → n < 2 ^ 64 → IsPlain (decimal n)
IsPlain-decimal zero small = subst IsPlain (sym (decimal_digit 0 (omega arith))) (λ e. absurd (omega arith), λ e. omega arith)
IsPlain-decimal (suc n) small =
    let first : 48 < slice_index (decimal (suc n)) 0 = first_decimal (suc n) (omega arith) small in
    (λ e. absurd (omega arith), λ e. absurd (omega arith))
