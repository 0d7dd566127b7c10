use Rattle.std.proofs.Common.{◌<◌, ℕ, List, length, Result, Err, sym, ap, arith}
use Rattle.key_elements.specs.declared.reason.TooLong.{TooLong}
use Rattle.key_elements.specs.declared.reason.TheConstants.{MAX_REASON}
use Rattle.key_elements.proofs.Fields.{reason_takes}
use Rattle.key_elements.proofs.reading.reason_at.Goals as goal

abbrev refused : TooLong → Result (List ℕ) TooLong
refused why = Err why

pub returns-in-Err-TooLong : goal.returns-in-Err-TooLong
returns-in-Err-TooLong c =
    let t = reason_takes c.args.bytes.now (c.in_ok-text.text.now, c.in_ok-text.rest.now) (λ i. omega (arith, c.type_inv.bytes i)) (sym c.in_ok-text.ensures) in
    let long : MAX_REASON < length c.in_ok-text.text.now = c.in-Err-TooLong.ensures.too_long.0 (ap refused c.in-Err-TooLong.field-0-is) in
    absurd (omega (arith, t.reason.few))
