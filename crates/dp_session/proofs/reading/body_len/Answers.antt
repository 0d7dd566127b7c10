use Rattle.std.proofs.Common.{refl, sym, subst}
use Rattle.std.proofs.lemmas.Nat.{be_bytes_4}
use Rattle.dp_wire.specs.Frame.{IsBodyLen}
use Rattle.dp_session.proofs.Taking.{bad_length}
use Rattle.dp_session.proofs.reading.body_len.Goals as goal

pub returns-in-Ok-clause-len : goal.returns-in-Ok-clause-len
returns-in-Ok-clause-len c =
    (subst IsBodyLen (sym c.in-Ok.ensures.value) (c.in-Ok.ensures.ok.0 refl), sym (be_bytes_4 c.args.head.now c.in-Ok.len c.told-head c.fits-head c.in-Ok.ensures.value))

pub returns-in-Err-clause-bad : goal.returns-in-Err-clause-bad
returns-in-Err-clause-bad c = rw c.why_of.ensures (bad_length _ c.frame_len.result c.in-Err.refused c.in-Err.is c.frame_len.ensures.zero c.frame_len.ensures.too_large)
