use Rattle.std.proofs.Common.{◌++◌, ◌∷◌, [], ◌∙◌, length, sym, ap, None, Some}
use Rattle.ring_world.specs.declared.step.Step.TheVariants.{Publish}
use Rattle.node_calls.specs.HostState.{latest}
use Rattle.dp_node.specs.Passes.{at_turn}
use Rattle.dp_node.proofs.Leading.{in_hand, floor_publish, line_publish, led_publish, led_still}
use Rattle.dp_node.proofs.pass.PassHost.publish.Goals as goal

pub learn-requires : goal.learn-requires
learn-requires g c = let me = c.args.self.now in record {
  cell = c.tell.ensures.cell ∙ c.set.ensures.cell ∙ (me.leads c.in-Some.setter c.in-Some.is).cell;
}

pub invariant_of-self : goal.invariant_of-self
invariant_of-self g c =
    let me = c.args.self.now in let v = me.viewer in let w = c.learn.new.self in let s = c.in-Some.setter in let s1 = c.set.new.self in let s2 = c.tell.new.self in
    let led = me.leads s c.in-Some.is in let told = c.tell.ensures in let set = c.in-Ok.ensures.set in let l = c.learn.ensures in record {
      seated = me.seated;
      numbered = me.numbered;
      cell = me.cell ∙ sym l.cell;
      line = rw c.of-looked.ensures (line_publish v w c.tell.result l.learnt s s1 s2 c.args.ring led c.requires.extends set told.told);
      holds = me.holds ∙ c.requires.held;
      leads = in_hand w s2 (led_publish v w c.tell.result l.learnt s s1 s2 c.args.ring led c.requires.extends set told.told l.cell c.set.ensures.cell told.here told.same);
    }

pub invariant_of-self-in-Err-1 : goal.invariant_of-self-in-Err-1
invariant_of-self-in-Err-1 g c =
    let me = c.args.self.now in let s = c.in-Some.setter in record {
      seated = me.seated;
      numbered = me.numbered;
      cell = me.cell;
      line = me.line;
      holds = me.holds ∙ c.requires.held;
      leads = in_hand me.viewer c.set.new.self (led_still me.viewer s c.set.new.self c.set.ensures.cell c.in-Err.ensures.back.1 (me.leads s c.in-Some.is));
    }

pub returns-in-Ok-clause-ok : goal.returns-in-Ok-clause-ok
returns-in-Ok-clause-ok g c =
    let me = c.args.self.now in let s = c.in-Some.setter in let led = me.leads s c.in-Some.is in λ i. record {
      facts = me.notes.facts;
      own = me.notes.own;
      looked = c.of-looked.ensures i;
      held = sym c.requires.held i;
      floor = floor_publish me.viewer c.learn.new.self c.tell.result c.learn.ensures.learnt s c.set.new.self c.tell.new.self c.args.ring led c.requires.extends c.in-Ok.ensures.set c.tell.ensures.told i;
      acts = (c.push.ensures ∙ (λ j. latest (me.notes.acts ++ Publish ((c.len.ensures.value ∙ ap length c.list.ensures) j) (c.until.ensures j) ∷ []))) i;
      single = None;
      turn = Some (at_turn me.seat);
    }

pub returns-in-Ok-clause-set : goal.returns-in-Ok-clause-set
returns-in-Ok-clause-set g c = ap Some (c.tell.ensures.same.0 ∙ c.in-Ok.ensures.set.0)
