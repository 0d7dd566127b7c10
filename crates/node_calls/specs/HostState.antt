-- A pass of a node as clauses see it, and what each call of it leaves.
use Rattle.std.specs.Prelude.{◌≡◌, ℕ, ◌+◌, ◌<◌, Bool, true, false, List, [], ◌∷◌, ◌++◌, ◌-◌, length, drop, max, Option, None, option_map, Result, Ok, Err, IfSome}
use Rattle.key_elements.specs.declared.element.Element.{Element}
use Rattle.key_elements.specs.Lists.{Extends, Agree, IsFirstDifference}
use Rattle.key_ring.specs.Ring.{RingOf}
use Rattle.ring_world.specs.declared.step.Step.{Step}
use Rattle.ring_world.specs.declared.step.Step.TheVariants.{Want, Take, Busy, Give, RaiseWant}
use Rattle.ring_world.specs.Lists.{longer}
use Rattle.ring_world.specs.Flight.{Sight, look_step, publish_step}
use Rattle.node_calls.specs.declared.host.NodeFacts.{NodeFacts}
use Rattle.flight_turn.specs.declared.turn.Busy.{Busy as BusyTurn}
use Rattle.node_calls.specs.declared.error.ToldRefused.{ToldRefused}
use Rattle.node_calls.specs.declared.error.ToldRefused.TheVariants.{Forked, Memory}

-- the steps that a pass made at the turn of its node: how many, and the number of the holder that its
-- last try read, which is 0 where nobody held it
pub record AtTurn : Type 0 where
  pub steps : ℕ
  pub read : ℕ

-- they and one step more
abbrev pub turn_by : Step → AtTurn → AtTurn
turn_by (Want n) t = record t { steps = t.steps + 1 }
turn_by (RaiseWant n) t = record t { steps = t.steps + 1 }
turn_by Take t = record { steps = t.steps + 1; read = 0 }
turn_by (Busy h) t = record { steps = t.steps + 1; read = h }
turn_by Give t = record t { steps = t.steps + 1 }
turn_by _ t = t

pub record HostState : Type 0 where
  pub facts : NodeFacts
  -- the list that the pass has seen
  pub own : List Element
  -- the ring last looked at or published
  pub looked : RingOf
  pub held : Bool
  -- what each later look extends
  pub floor : List Element
  -- its last 24 steps that touch the node, with their numbers
  pub acts : List Step
  -- what the next look and the next want show, where that is told
  pub single : Option Sight
  -- its steps at the turn, where they are told
  pub turn : Option AtTurn

-- the last 24 acts
unfoldable pub latest : List Step → List Step
latest xs = drop (length xs - 24) xs

-- one act more, and nothing else changed
abbrev pub acted : Step → HostState → HostState
acted a s = record s { acts = latest (s.acts ++ a ∷ []); turn = option_map (turn_by a) s.turn }

-- after a look
abbrev pub looked_at : RingOf → HostState → HostState
looked_at r s = acted (look_step r) (record s { looked = r; floor = r.list })

-- after a publication
abbrev pub shown : RingOf → Sight → Sight
shown r one = record one { ring = r }

abbrev pub published : RingOf → HostState → HostState
published r s =
    acted (publish_step r) (record s { looked = r; floor = r.list; single = option_map (shown r) s.single })

-- after the turn was taken; f is what the later looks extend
abbrev pub taken : List Element → HostState → HostState
taken f s = acted Take (record s { held = true; floor = f })

-- after the turn was given back
abbrev pub gave : HostState → HostState
gave s = acted Give (record s { held = false })

-- after the want number was raised
abbrev pub wanted : ℕ → Sight → Sight
wanted n one = record one { want = max one.want n }

abbrev pub raised : ℕ → HostState → HostState
raised n s = acted (RaiseWant n) (record s { single = option_map (wanted n) s.single })

-- a look may show the ring
abbrev pub MayShow : RingOf → HostState → Type 0
MayShow r s = Extends r.list s.floor × Extends r.list s.looked.list × IfSome s.single (λ one. r ≡ one.ring)

-- the want number may be n
abbrev pub MayWant : ℕ → HostState → Type 0
MayWant n s = IfSome s.single (λ one. n ≡ one.want)

-- a try of the turn; Busy names the holder that it read, and a pass that is alone is never told it
abbrev pub Takes : Result Unit BusyTurn → HostState → HostState → Type 0
Takes (Ok _) old new = (f : List Element) × Extends f old.floor × (new ≡ taken f old)
Takes (Err busy) old new = (old.single ≡ None) × (0 < busy.holder) × (new ≡ acted (Busy busy.holder) old)

-- the pass was told a list: it has seen the longer one, or the two differ
abbrev pub Told : List Element → Result Unit ToldRefused → HostState → HostState → Type 0
Told list (Ok _) old new = Agree old.own list × (new ≡ record old { own = longer old.own list })
Told list (Err (Forked f)) old new =
    (new ≡ old) × (f.left ≡ old.own) × (f.right ≡ list) × IsFirstDifference old.own list f.at
Told list (Err Memory) old new = new ≡ old

-- the list that was seen and the turn are as before
abbrev pub Steady : HostState → HostState → Type 0
Steady old new = (new.own ≡ old.own) × (new.held ≡ old.held)

-- a pass over a ring whose list it has seen, after the opening
abbrev pub opened_over : NodeFacts → Option AtTurn → RingOf → HostState
opened_over facts turn r = record {
  facts = facts;
  own = r.list;
  looked = r;
  held = false;
  floor = r.list;
  acts = [];
  single = None;
  turn = turn;
}
