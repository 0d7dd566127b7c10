-- The opening of a run's node, and what is counted where it is refused.
use Rattle.std.proofs.Common.{◌≡◌, ℕ, min, Bool, true, false, None, List, [], Option, Result, Err, refl, ap, subst, ◌∙◌}
use Rattle.dp_base.specs.declared.ticks.TheConstants.{LAST}
use Rattle.dp_base.specs.Clocks.{ShowsMoment}
use Rattle.dp_base.specs.Counts.{more, one_more}
use Rattle.dp_base.specs.Draws.{DrawState}
use Rattle.default_key.specs.declared.options.Options.{Options}
use Rattle.key_ring.specs.Ring.{RingOf}
use Rattle.repo_keeper.specs.Store.{Store}
use Rattle.ring_world.specs.declared.step.Step.{Step}
use Rattle.ring_world.specs.Course.{Course}
use Rattle.ring_world.specs.Flight.{Refusal, Terms, Gathers, whole, cut, Flown, Broken, NoRead, ShortRead, NoDraw, NoKeyDraw, NoAppend, ShortAppend}
use Rattle.ring_world.specs.Flight as flight
use Rattle.node_calls.specs.declared.open.OpenRefused.{OpenRefused}
use Rattle.node_calls.specs.declared.open.OpenRefused.TheVariants as refused
use Rattle.node_calls.specs.HostState.{HostState}
use Rattle.node_calls.specs.Books.{tally, draws_failed}
use Rattle.node_calls.specs.Calls.{terms}
use Rattle.node_calls.specs.Opening.{Opens}
use Rattle.dp_node.specs.SoloOpening.{IsSolo, first_facts}
use Rattle.dp_session.specs.declared.status.Status.TheVariants as status
use Rattle.dp_server.specs.Pipe.{AreStandard, around, IsOpening, status_of}

abbrev Opened : Result HostState OpenRefused → Options → Store → Store → DrawState → DrawState → ℕ → Type 0
Opened opened options s s' d d' now = Opens now options (IsSolo (first_facts now options)) opened s s' d d'

pub opening_of : (auto : Bool) (opened : Result HostState OpenRefused) (i o : Option (List ℕ)) (s s' : Store) (d d' : DrawState) (m m' : Option (List ℕ)) (moment now : ℕ) (options : Options) → ShowsMoment m m' moment → now ≡ min moment LAST → AreStandard auto options → Opened opened options s s' d d' now
    → IsOpening auto opened (around i o s d m) (around i o s' d' m')
opening_of auto opened i o s s' d d' m m' moment now options shown e standard p =
    let q = subst (Opened opened options s s' d d') e p in
    record {
      moment = moment;
      shown = shown;
      options = options;
      standard = standard;
      ring = q.0;
      steps = q.1;
      opens = q.2;
      did = q.3;
      input = refl;
      output = refl;
    }

store_counted : (t : Terms) (r : Result RingOf Refusal) (d : Course) → Gathers t [] r d → r ≡ Err flight.StoreFault → (tally d.steps).faults ≡ 1
store_counted t r d (whole (Flown w f) is e c) h = cc
store_counted t r d (whole (Broken NoRead) is e c) h = ap (λ (x : Course). (tally x.steps).faults) c
store_counted t r d (whole (Broken (ShortRead had got)) is e c) h = cc
store_counted t r d (whole (Broken (NoDraw es)) is e c) h = cc
store_counted t r d (whole (Broken (NoKeyDraw es w)) is e c) h = cc
store_counted t r d (whole (Broken (NoAppend es w k)) is e c) h = ap (λ (x : Course). (tally x.steps).faults) c
store_counted t r d (whole (Broken (ShortAppend es w k got)) is e c) h = cc
store_counted t r d (cut x is e f) h = cc

draw_counted : (t : Terms) (r : Result RingOf Refusal) (d : Course) → Gathers t [] r d → r ≡ Err flight.DrawFault → draws_failed d.steps ≡ 1
draw_counted t r d (whole (Flown w f) is e c) h = cc
draw_counted t r d (whole (Broken NoRead) is e c) h = cc
draw_counted t r d (whole (Broken (ShortRead had got)) is e c) h = cc
draw_counted t r d (whole (Broken (NoDraw es)) is e c) h = ap (λ (x : Course). draws_failed x.steps) c
draw_counted t r d (whole (Broken (NoKeyDraw es w)) is e c) h = ap (λ (x : Course). draws_failed x.steps) c
draw_counted t r d (whole (Broken (NoAppend es w k)) is e c) h = cc
draw_counted t r d (whole (Broken (ShortAppend es w k got)) is e c) h = cc
draw_counted t r d (cut x is e f) h = cc

-- some pass
some_pass : Options → HostState
some_pass o = record {
  facts = record { node = 0; pass = 0; opened_at = 0; options = o };
  own = [];
  looked = record { list = []; made_at = 0; until = 0; excused = 0 };
  held = false;
  floor = [];
  acts = [];
  single = None;
  turn = None;
}

module _ (options : Options) (s s' : Store) (d d' : DrawState) (now : ℕ) where
  -- a refusal that names the repository counted one fault of it
  pub store_fault : (why : OpenRefused) → Opened (Err why) options s s' d d' now → status_of why ≡ status.StoreFault → s'.faults ≡ one_more s.faults
  store_fault refused.StoreFault p e =
      let x = p.3 (some_pass options) in
      x.recorded.store.faults ∙ ap (λ (k : ℕ). more k s.faults) (store_counted (terms now options true s.list s'.list) p.0 x.course x.is p.2)
  store_fault refused.DrawFault p e = cc
  store_fault refused.Memory p e = cc

  -- and one that names the draw one of that
  pub draw_fault : (why : OpenRefused) → Opened (Err why) options s s' d d' now → status_of why ≡ status.DrawFault → d'.faults ≡ one_more d.faults
  draw_fault refused.StoreFault p e = cc
  draw_fault refused.DrawFault p e =
      let x = p.3 (some_pass options) in
      x.recorded.draws.faults ∙ ap (λ (k : ℕ). more k d.faults) (draw_counted (terms now options true s.list s'.list) p.0 x.course x.is p.2)
  draw_fault refused.Memory p e = cc
