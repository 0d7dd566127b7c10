use Rattle.std.proofs.Common.{◌++◌, ◌∷◌, [], ◌∙◌, sym, ap, is_some, None, Some}
use Rattle.node_calls.specs.HostState.{latest}
use Rattle.dp_node.specs.Floor.{floor_of}
use Rattle.dp_node.specs.Passes.{at_turn}
use Rattle.node_calls.proofs.Books.{IsFrontOf-trans}
use Rattle.dp_node.proofs.Leading.{led_up, up_same, extends_look, floor_look, up_look, line_look}
use Rattle.dp_node.proofs.pass.PassHostView.look.Goals as goal

pub invariant_of-self : goal.invariant_of-self
invariant_of-self c =
    let me = c.args.self.now in let v = me.viewer in let w = c.look_at.new.viewer in let up = up_look v w c.in-Ok.ring c.in-Ok.ensures.looked in record {
      seated = me.seated;
      numbered = me.numbered;
      cell = me.cell ∙ sym c.look_at.ensures.cell;
      line = rw c.of-self.ensures (line_look v w c.in-Ok.ring c.in-Ok.ensures.looked);
      holds = me.holds;
      leads = λ s e. led_up v w s c.look_at.ensures.cell up (me.leads s e);
    }

pub invariant_of-self-in-Err-1 : goal.invariant_of-self-in-Err-1
invariant_of-self-in-Err-1 c =
    let me = c.args.self.now in let v = me.viewer in let w = c.look_at.new.viewer in let up = up_same v w c.in-Err.ensures.memory in record {
      seated = me.seated;
      numbered = me.numbered;
      cell = me.cell ∙ sym c.look_at.ensures.cell;
      line = IsFrontOf-trans me.notes.looked.value.list (floor_of v) (floor_of w) me.line up;
      holds = me.holds;
      leads = λ s e. led_up v w s c.look_at.ensures.cell up (me.leads s e);
    }

pub returns-in-Ok-clause-ring : goal.returns-in-Ok-clause-ring
returns-in-Ok-clause-ring c =
    let me = c.args.self.now in let up = extends_look me.viewer c.look_at.new.viewer c.in-Ok.ring c.in-Ok.ensures.looked in
    (up, IsFrontOf-trans me.notes.looked.value.list (floor_of me.viewer) c.in-Ok.ring.list me.line up, tt)

pub returns-in-Ok-clause-ok : goal.returns-in-Ok-clause-ok
returns-in-Ok-clause-ok c =
    let me = c.args.self.now in λ i. record {
      facts = me.notes.facts;
      own = me.notes.own;
      looked = c.of-self.ensures i;
      held = is_some me.setter;
      floor = floor_look me.viewer c.look_at.new.viewer c.in-Ok.ring c.in-Ok.ensures.looked i;
      acts = (c.push.ensures ∙ ap (λ a. latest (me.notes.acts ++ a ∷ [])) c.look_step.ensures) i;
      single = None;
      turn = Some (at_turn me.seat);
    }
