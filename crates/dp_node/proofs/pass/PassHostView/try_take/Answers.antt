use Rattle.std.proofs.Common.{◌∙◌, sym, ap, subst, None, Some, true}
use Rattle.swap_cell.specs.Cells.{setter_cell}
use Rattle.flight_turn.specs.Seats.{IsSeatOf, turn_mark}
use Rattle.dp_node.specs.Floor.{floor_of}
use Rattle.node_calls.proofs.Books.{IsFrontOf-trans}
use Rattle.dp_node.proofs.Leading.{in_hand, up_learn, led_take}
use Rattle.dp_node.proofs.pass.PassHostView.try_take.Goals as goal

pub invariant_of-self : goal.invariant_of-self
invariant_of-self c =
    let me = c.args.self.now in let v = me.viewer in let w = c.learn.new.self in let t = c.tell.ensures in let l = c.learn.ensures in let took = c.in-Ok.ensures in
    let up = up_learn v w c.tell.result l.learnt l.in_line in record {
      seated = subst (λ t. IsSeatOf setter_cell t c.try_take.new.seat) c.deref.ensures took.seat;
      numbered = took.same.0.0.1 ∙ me.numbered;
      cell = me.cell ∙ sym l.cell;
      line = IsFrontOf-trans me.notes.looked.value.list (floor_of v) (floor_of w) me.line up;
      holds = took.taken.1.1;
      leads = in_hand w c.tell.new.self
          (led_take v w c.tell.result l.learnt c.in-Ok.setter c.tell.new.self l.in_line (took.mark ∙ ap (turn_mark setter_cell) c.deref.ensures ∙ me.cell) l.cell t.here t.told t.last t.same);
    }

pub returns-in-Ok-clause-takes : goal.returns-in-Ok-clause-takes
returns-in-Ok-clause-takes c = let me = c.args.self.now in let w = c.learn.new.self in (
  floor_of w,
  up_learn me.viewer w c.tell.result c.learn.ensures.learnt c.learn.ensures.in_line,
  λ i. record {
    facts = me.notes.facts;
    own = me.notes.own;
    looked = me.notes.looked.value;
    held = true;
    floor = floor_of w;
    acts = c.push.ensures i;
    single = None;
    turn = Some (record { steps = c.in-Ok.ensures.same.0.1 i; read = c.in-Ok.ensures.taken.0 i });
  },
)

pub returns-in-Err-clause-another : goal.returns-in-Err-clause-another
returns-in-Err-clause-another c = let me = c.args.self.now in let busy = c.in-Err.ensures in λ e. busy.another (me.holds ∙ c.requires) (e ∙ sym me.numbered)
