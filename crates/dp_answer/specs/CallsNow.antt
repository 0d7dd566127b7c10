-- What a call that protects or unprotects without waiting comes to, by what its one look gave.
use Rattle.std.specs.Prelude.{◌≡◌, ℕ, Bool, List, Result, Ok, Err}
use Rattle.std.specs.declared.vec.Vec.{Vec}
use Rattle.std.specs.declared.alloc.Global.{Global}
use Rattle.dp_base.specs.Draws.{DrawState}
use Rattle.key_ring.specs.Ring.{RingOf}
use Rattle.node_calls.specs.declared.error.NodeError.TheVariants as errors
use Rattle.node_calls.specs.declared.now.NowRefused.{NowRefused}
use Rattle.node_calls.specs.declared.now.NowRefused.TheVariants as now
use Rattle.dp_protector.specs.declared.opened.Opened.{Opened}
use Rattle.dp_answer.specs.declared.calls.Answered.{Answered}
use Rattle.dp_answer.specs.declared.calls.CallRefused.{CallRefused}
use Rattle.dp_answer.specs.declared.calls.CallRefused.TheVariants.{Node, Due}
use Rattle.dp_answer.specs.Calls.{Protects, Unprotects}

-- how it is told that a look gave no ring to use
abbrev pub refused_now : NowRefused → CallRefused
refused_now (now.Due why) = Due why
refused_now (now.Forked fork) = Node (errors.Forked fork)
refused_now now.Memory = Node errors.Memory

-- what a call to protect answers: by the ring of the look, as every call that protects; or why that
-- isn't used, and then nothing was drawn
abbrev pub ProtectsNow : List (List ℕ) → List ℕ → Result RingOf NowRefused → Result (Answered (Vec ℕ Global)) CallRefused → DrawState → DrawState → Type 0
ProtectsNow chain plain (Ok ring) result old new = Protects chain plain (Ok ring) result old new
ProtectsNow chain plain (Err why) result old new = (result ≡ Err (refused_now why)) × (new ≡ old)

-- what a call to unprotect answers: by the ring of the look, as every call that unprotects; or why that
-- isn't used
abbrev pub UnprotectsNow : List (List ℕ) → List ℕ → Bool → Result RingOf NowRefused → Result (Answered Opened) CallRefused → Type 0
UnprotectsNow chain payload allow (Ok ring) result = Unprotects chain payload allow (Ok ring) result
UnprotectsNow chain payload allow (Err why) result = result ≡ Err (refused_now why)
