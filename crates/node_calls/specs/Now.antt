-- A ring without waiting: what one asking of the want number and one look decide.
use Rattle.std.specs.Prelude.{◌≡◌, ◌⊎◌, ℕ, max, nat_le, if◌then◌else◌, List, length, Option, Some, None, Result, Ok, Err}
use Rattle.std.specs.Option.{option_or}
use Rattle.key_elements.specs.declared.element.Element.{Element}
use Rattle.key_elements.specs.Lists.{Agree, IsFirstDifference}
use Rattle.key_ring.specs.declared.due.Why.{Why}
use Rattle.key_ring.specs.declared.due.Why.TheVariants.{Short}
use Rattle.key_ring.specs.Ring.{RingOf, due}
use Rattle.ring_world.specs.declared.step.Step.TheVariants.{Want}
use Rattle.ring_world.specs.Flight.{Sight}
use Rattle.node_calls.specs.declared.call.At.{At}
use Rattle.node_calls.specs.declared.now.NowRefused.{NowRefused}
use Rattle.node_calls.specs.declared.now.NowRefused.TheVariants.{Due, Forked, Memory}
use Rattle.node_calls.specs.HostState.{HostState, MayWant, acted}
use Rattle.node_calls.specs.Sight.{sighted, SeenBy}

-- why the ring isn't used, where the caller has seen or needs so many elements
abbrev pub why_not : ℕ → ℕ → Sight → Option Why
why_not now target s =
    option_or (due s.ring now s.want) (if nat_le target (length s.ring.list) then None else Some (Short (length s.ring.list) target))

-- the want number was asked, and no memory was found for the look
abbrev pub AskRefused : HostState → HostState → Type 0
AskRefused old new = (n : ℕ) × MayWant n old × (new ≡ acted (Want n) old)

-- the ring is used by a pass that has seen the list
abbrev pub IsUsed : List Element → At → Sight → Type 0
IsUsed own at s = Agree own s.ring.list × (why_not at.now (max at.need (length own)) s ≡ None)

-- whether it is, and why not
abbrev pub Judged : List Element → At → Sight → Result Unit NowRefused → Type 0
Judged own at s (Ok _) = IsUsed own at s
Judged own at s (Err (Due why)) = Agree own s.ring.list × (why_not at.now (max at.need (length own)) s ≡ Some why)
Judged own at s (Err (Forked f)) = (f.left ≡ own) × (f.right ≡ s.ring.list) × IsFirstDifference own s.ring.list f.at
Judged own at s (Err Memory) = Unit {0}

-- the acts are a want and a look, and the answer is judged by them; want of memory may come after
-- the want or after both
abbrev pub GivesNow : At → HostState → Result RingOf NowRefused → HostState → Type 0
GivesNow at old (Ok ring) new =
    (s : Sight) × SeenBy s old × IsUsed old.own at s × (ring ≡ s.ring) × (new ≡ record (sighted s old) { own = ring.list })
GivesNow at old (Err Memory) new = AskRefused old new ⊎ ((s : Sight) × SeenBy s old × (new ≡ sighted s old))
GivesNow at old (Err why) new = (s : Sight) × SeenBy s old × Judged old.own at s (Err why) × (new ≡ sighted s old)
