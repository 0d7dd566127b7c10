use Rattle.std.proofs.Common.{◌≡◌, ◌≤◌, ◌+◌, ◌-◌, ◌∷◌, [], ◌++◌, List, length, map, drop, ap, ◌∙◌, arith}
use Rattle.std.specs.Arc.{arc_value}
use Rattle.std.proofs.lemmas.List.{length-drop, length_push, take_rest, map-append, length-map}
use Rattle.key_elements.specs.declared.element.Element.{Element}
use Rattle.key_elements.proofs.Lists.{AreRecords-push, whole_only, full_none}
use Rattle.key_elements.proofs.Causes.{StopsAt, explained, memory_only}
use Rattle.key_elements.proofs.reading.read_list.Goals as goal

pub returns-then-len-eq-MAX_ELEMENTS-clause-only : goal.returns-then-len-eq-MAX_ELEMENTS-clause-only
returns-then-len-eq-MAX_ELEMENTS-clause-only c = λ es list.
    absurd (full_none c.args.bytes.now c.loop-at.at (map arc_value c.loop-at.items.items) es (omega arith) (omega (arith, length-map c.loop-at.items.items arc_value)) c.loop-at.invariant.records list)

pub loop-at-preserved : goal.loop-at-preserved
loop-at-preserved c =
    let so_far : List Element = map arc_value c.loop-at.items.items in
    let left : length (drop c.loop-at.at c.args.bytes.now) ≡ length c.args.bytes.now - c.loop-at.at = length-drop c.loop-at.at c.args.bytes.now in
    let within : c.loop-at.at + c.in-Ok.len ≤ length c.args.bytes.now = omega (arith, c.in-Ok.ensures.found.0) in
    let pushed : map arc_value c.push.new.self.items ≡ so_far ++ c.in-Ok.element ∷ [] =
    ap (map arc_value) c.in_ok-push-in-Ok.ensures.items ∙ map-append arc_value c.loop-at.items.items (c.in_ok-new-in-Ok.field-0 ∷ [])
    ∙ ap (λ (e : Element). so_far ++ e ∷ []) c.in_ok-new-in-Ok.ensures.ok in
    let records = AreRecords-push c.args.bytes.now c.loop-at.at c.in-Ok.len so_far c.in-Ok.element c.loop-at.invariant.records within (rw (take_rest c.args.bytes.now c.loop-at.at) at c.in-Ok.ensures.found.1) in
    record { within = within; few = omega (arith, ap length c.in_ok-push-in-Ok.ensures.items, length_push c.loop-at.items.items c.in_ok-new-in-Ok.field-0); records = rw pushed records }

pub returns-in-Err : goal.returns-in-Err
returns-in-Err c =
    let stops : StopsAt c.args.bytes.now c.loop-at.at c.in-Err.why = record {
      before = map arc_value c.loop-at.items.items;
      records = c.loop-at.invariant.records;
      few = omega (arith, length-map c.loop-at.items.items arc_value);
      left = c.loop-at-test.true;
      answer = rw (take_rest c.args.bytes.now c.loop-at.at) at c.in-Err.ensures.exact;
    } in
    rw c.refused_at.ensures (record {
      found = tt;
      only = λ es list. memory_only c.args.bytes.now c.loop-at.at c.in-Err.why es stops list;
      refused = explained c.args.bytes.now c.loop-at.at c.in-Err.why stops;
    })

pub returns-clause-only : goal.returns-clause-only
returns-clause-only c = λ es list.
    c.in_ok-of.ensures ∙ whole_only c.args.bytes.now c.loop-at.at (map arc_value c.loop-at.items.items) es (omega arith) c.loop-at.invariant.records list.1
