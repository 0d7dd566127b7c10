use Rattle.std.proofs.Common.{◌≡◌, sym, subst, ◌∙◌, arith}
use Rattle.std.proofs.lemmas.Fmt.{parse-decimal}
use Rattle.dp_server.specs.Words.{IsPlain}
use Rattle.dp_server.proofs.Decimals.{text_of, IsPlain-decimal}
use Rattle.dp_server.proofs.words.moment_of.Goals as goal

pub returns-then-not-is_plain-clause-only : goal.returns-then-not-is_plain-clause-only
returns-then-not-is_plain-clause-only c = λ n le e.
    let plain : IsPlain c.as_bytes.result.now = subst IsPlain (sym (c.as_bytes.ensures.value ∙ e)) (IsPlain-decimal n (omega arith)) in
    let told = c.is_plain.ensures.1 plain in
    absurd cc

pub returns-in-Ok-clause-value : goal.returns-in-Ok-clause-value
returns-in-Ok-clause-value c =
    let plain : IsPlain c.args.text.now = subst IsPlain c.as_bytes.ensures.value (c.is_plain.ensures.0 c.if-not-is_plain.false) in
    (text_of c.args.text.now c.parse.result c.in-Ok.moment plain c.parse.ensures.value.0 c.in-Ok.is, omega arith)

pub returns-in-Ok-clause-only : goal.returns-in-Ok-clause-only
returns-in-Ok-clause-only c = λ n le e.
    let read = parse-decimal 64 n c.args.text.now c.parse.result (omega arith) (omega arith) e c.parse.ensures.value.0 in
    cc (read, c.in-Ok.is)

pub returns-in_default-clause-only : goal.returns-in_default-clause-only
returns-in_default-clause-only c = λ n le e.
    let read = parse-decimal 64 n c.args.text.now c.parse.result (omega arith) (omega arith) e c.parse.ensures.value.0 in
    let same : n ≡ c.in-Ok.moment = cc (read, c.in-Ok.is) in
    absurd (omega arith)

pub returns-in_default-2-clause-only : goal.returns-in_default-2-clause-only
returns-in_default-2-clause-only c = λ n le e.
    let read = parse-decimal 64 n c.args.text.now c.parse.result (omega arith) (omega arith) e c.parse.ensures.value.0 in
    absurd (cc (read, c.in_default.is))
