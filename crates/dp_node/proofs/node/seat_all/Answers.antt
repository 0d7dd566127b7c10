use Rattle.std.proofs.Common.{◌≡◌, ◌+◌, false, ◌∷◌, [], length, length-append, subst, sym, ap, ◌∙◌, arith}
use Rattle.std.proofs.lemmas.List.Elements.{All-pop}
use Rattle.std.specs.Arc.{arc_value}
use Rattle.swap_cell.specs.Cells.{setter_cell}
use Rattle.flight_turn.specs.Seats.{IsSeatOf, AreNew, number, holds, recorded, raised_to}
use Rattle.dp_node.specs.NodeOpening.{IsEndOf, IsOpened, AreOpened}
use Rattle.dp_node.proofs.Positions.{at_push, at_front}
use Rattle.dp_node.proofs.NodeOpenings.{opened_at}
use Rattle.dp_node.proofs.node.seat_all.Goals as goal

pub loop-seat-preserved : goal.loop-seat-preserved
loop-seat-preserved c =
    let inv = c.loop-seat.invariant in let turn = arc_value c.args.turn.now in let ring = c.args.ring.now in
    let seats = c.pop.new.self.items in let seat = c.in-Some.seat in let es = c.in-Some.ensures.items in
    let viewers = c.pop-in-Some.new.self.items in let ev = c.in-Some-pop.ensures.items in
    let made = c.loop-seat.passes.items in let pass = c.in_ok-over.field-0 in let ep = c.in_ok-push.ensures.items in
    let ls : length c.loop-seat.seats.items ≡ length seats + 1 = ap (λ z. length z) es ∙ length-append seats (seat ∷ []) in
    let lv : length c.loop-seat.viewers.items ≡ length viewers + 1 = ap (λ z. length z) ev ∙ length-append viewers (c.in-Some-pop.viewer ∷ []) in
    let lp : length c.push.new.self.items ≡ length made + 1 = ap (λ z. length z) ep ∙ length-append made (pass ∷ []) in
    let i0 = inv.0 in let i4 = inv.4 in let k = c.len-pass.ensures in (
      omega arith,
      (All-pop (IsEndOf turn ring) _ viewers _ c.pop-in-Some.ensures.items inv.1).0,
      (All-pop (IsSeatOf setter_cell turn) _ seats _ c.pop.ensures.items inv.2).0,
      at_front (λ i s. (number s ≡ i + 1) × (holds s ≡ false) × (recorded s ≡ 0) × (raised_to s ≡ 0)) seats seat (subst AreNew es inv.3),
      omega arith,
      subst (AreOpened c.args.facts ring (length c.args.seats.items)) (sym ep)
          (at_push (IsOpened c.args.facts ring (length c.args.seats.items)) made pass inv.5
          (opened_at c.args.facts ring (length c.args.seats.items) (length made) _ _ pass c.in_ok-over.ensures (omega arith))),
    )
