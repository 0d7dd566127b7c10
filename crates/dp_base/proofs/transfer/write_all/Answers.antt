use Rattle.std.proofs.Common.{◌∙◌, arith}
use Rattle.std.proofs.lemmas.List.{take_rest}
use Rattle.dp_base.proofs.KnownBytes.{Appends-more}
use Rattle.dp_base.proofs.transfer.write_all.Goals as goal

pub loop-at-preserved : goal.loop-at-preserved
loop-at-preserved g c =
    let more = rw (take_rest c.args.bytes.now c.loop-at.at) at c.in_ok-at.ensures.bytes in
    record {
      within = omega (arith, c.in_ok-at.ensures.bound);
      written = Appends-more _ _ _ c.args.bytes.now c.loop-at.at c.in_ok-at.field-0 c.loop-at.invariant.written more;
      no_fault = c.in_ok-at.ensures.no_fault ∙ c.loop-at.invariant.no_fault;
    }
