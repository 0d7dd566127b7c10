use Rattle.std.proofs.Common.{◌∙◌}
use Rattle.dp_base.proofs.KnownBytes.{Consumes-both}
use Rattle.dp_base.proofs.Buffers.{take-put_mid-add, put_mid-within}
use Rattle.dp_base.proofs.transfer.read_full.Goals as goal

pub loop-count-preserved : goal.loop-count-preserved
loop-count-preserved g c =
    let count = c.loop-count.count in
    let more = c.in_ok-more.more in
    let both = Consumes-both _ _ _ _ _ c.loop-count.invariant.read c.in_ok-more.ensures.bytes.0 in
    record {
      within = put_mid-within count _ more c.loop-count.buffer c.read.new.buffer c.loop-count.invariant.within c.in_ok-more.ensures.bound;
      read = rw (take-put_mid-add count _ more c.loop-count.buffer c.read.new.buffer c.loop-count.invariant.within c.in_ok-more.ensures.bound) both;
      no_fault = c.in_ok-more.ensures.no_fault ∙ c.loop-count.invariant.no_fault;
    }
