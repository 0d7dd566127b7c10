use Rattle.std.proofs.Common.{◌<◌, ◌≤◌, ◌^◌, ℕ, Result, Ok, Err, IfOk, IfSome, Option, Some, None, length, arith}
use Rattle.dp_base.specs.declared.want.Memory.{Memory}
use Rattle.dp_answer.specs.declared.needs.Sought.{Sought}
use Rattle.dp_answer.proofs.needs.seek.Goals as goal
use Rattle.std.specs.declared.vec.Vec.{Vec}
use Rattle.std.specs.declared.alloc.Global.{Global}

kept_short : (n : ℕ) (o : Option (Vec ℕ Global)) → n < 2 ^ 32 → IfSome o (λ v. length v.items ≤ n) → IfSome o (λ v. length v.items < 2 ^ 32)
kept_short n None h le = tt
kept_short n (Some v) h le = omega (arith, h, le)

short_of : (n : ℕ) (r : Result Sought Memory) → n < 2 ^ 32 → IfOk r (λ s. IfSome s.payload (λ v. length v.items ≤ n)) → IfOk r (λ s. IfSome s.payload (λ v. length v.items < 2 ^ 32))
short_of n (Ok s) h le = kept_short n s.payload h le
short_of n (Err why) h le = tt

pub returns-in-UnprotectText-clause-short : goal.returns-in-UnprotectText-clause-short
returns-in-UnprotectText-clause-short c = short_of (length c.in-UnprotectText.text.now) c.sought_by_text.result (rw c.in-UnprotectText.is at c.requires) c.sought_by_text.ensures.short
