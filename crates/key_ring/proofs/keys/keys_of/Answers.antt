use Rattle.std.proofs.Common.{ap, sym, ◌∙◌, arith}
use Rattle.key_ring.specs.Keys.{key_in, keys_of}
use Rattle.key_ring.specs.Put.{put_record}
use Rattle.key_ring.proofs.KeysOf.{keys_of-more, keys_of-skip}
use Rattle.key_ring.proofs.keys.keys_of.Goals as goal
use Rattle.key_ring.proofs.keys.keys_of.Goals.{in-Some+in_ok-put_record, in_default}

pub loop-place-init : goal.loop-place-init
unfolding keys_of
loop-place-init c = c.new-keys.ensures.items

pub loop-place-preserved : goal.loop-place-preserved
loop-place-preserved c =
    let e = c.element_at.result.now in
    let here = c.element_at.ensures e in
    elim c.match-key_in.branch [
      | in-Some+in_ok-put_record w ↦
          ap (λ v. v.items) w.keys-is ∙ w.in_ok-put_record.ensures ∙ ap (put_record w.in-Some.key.now) c.loop-place.invariant
          ∙ sym (keys_of-more c.args.list.now c.loop-place.place e w.in-Some.key.now (omega arith) (w.in-Some.ensures ∙ ap key_in here))
      | in_default w ↦
          ap (λ v. v.items) w.keys-is ∙ c.loop-place.invariant ∙ sym (keys_of-skip c.args.list.now c.loop-place.place e (omega arith) (w.in_default.ensures ∙ ap key_in here))
    ]
