use Rattle.std.proofs.Common.{[], ◌∷◌, ◌++◌, sym, ap, ◌∙◌, arith, below_more}
use Rattle.key_ring.proofs.Puts.{put_record-at, put_record-new, same_key-read, other_key-read}
use Rattle.key_ring.proofs.keys.put_record.Goals as goal

pub returns-then-index-latest : goal.returns-then-index-latest
returns-then-index-latest c =
    let here = same_key-read c.loop-place.keys.items c.loop-place.place c.index.result.now c.args.latest.now (omega arith) c.index.ensures c.if-index-latest.true in
    rw c.loop-place.invariant.same (sym (put_record-at c.args.latest.now c.args.keys.now.items c.loop-place.place (omega arith) c.loop-place.invariant.others (rw c.loop-place.invariant.same at here)))

pub returns : goal.returns
returns c =
    c.in_ok-push.ensures.items ∙ ap (λ xs. xs ++ c.args.latest.now ∷ []) c.loop-place.invariant.same
    ∙ sym (put_record-new c.args.latest.now c.args.keys.now.items (λ k lt. c.loop-place.invariant.others k (omega arith)))

pub loop-place-preserved : goal.loop-place-preserved
loop-place-preserved c =
    let here = other_key-read c.loop-place.keys.items c.loop-place.place c.index.result.now c.args.latest.now (omega arith) c.index.ensures c.if-index-latest.false in
    record {
      same = c.loop-place.invariant.same;
      others = below_more _ _ c.loop-place.invariant.others (rw c.loop-place.invariant.same at here);
    }
