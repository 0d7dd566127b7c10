-- A ring without waiting.
use Rattle.std.proofs.Common.{◌≡◌, ◌≤◌, ℕ, Bool, true, false, max, nat_le, if◌then◌else◌, List, length, Option, Some, None, refl, sym, inr, Err, arith, rules}
use Rattle.std.proofs.lemmas.Bool.Decides.{nat_tests}
use Rattle.std.specs.Option.{option_or}
use Rattle.key_elements.specs.declared.element.Element.{Element}
use Rattle.key_elements.specs.Lists.{Extends}
use Rattle.key_ring.specs.declared.due.Why.{Why}
use Rattle.ring_world.specs.Flight.{Sight}
use Rattle.node_calls.specs.declared.call.At.{At}
use Rattle.node_calls.specs.declared.now.NowRefused.{NowRefused}
use Rattle.node_calls.specs.declared.now.NowRefused.TheVariants.{Due, Forked, Memory}
use Rattle.node_calls.specs.HostState.{HostState}
use Rattle.node_calls.specs.Sight.{sighted, SeenBy}
use Rattle.node_calls.specs.Now.{IsUsed, Judged, GivesNow}
use Rattle.node_calls.proofs.Courses.{IsFrontOf-in_line}

-- a ring that isn't used
pub refused_now : (at : At) (old new : HostState) (s : Sight) → SeenBy s old → new ≡ sighted s old → (why : NowRefused) → Judged old.own at s (Err why) → GivesNow at old (Err why) new
refused_now at old new s seen e (Due w) j = (s, seen, j, e)
refused_now at old new s seen e (Forked f) j = (s, seen, j, e)
refused_now at old new s seen e Memory j = inr (s, seen, e)

none_some : {A : Type 0} (a : A) → None ≡ Some a → ⊥
none_some a e = search rules

used_true : (o : Option Why) (b : Bool) (w : Why) → option_or o (if b then None else Some w) ≡ None → b ≡ true
used_true None true w e = refl
used_true None false w e = absurd (none_some w (sym e))
used_true (Some x) b w e = absurd (none_some x (sym e))

le_true : (m n : ℕ) → nat_le m n ≡ true → m ≤ n
le_true m n h = grind (arith, nat_tests)

-- a ring that is used extends the list that was seen
pub used_extends : (own : List Element) (at : At) (s : Sight) → IsUsed own at s → Extends s.ring.list own
used_extends own at s u =
    let l = le_true (max at.need (length own)) (length s.ring.list) (used_true _ _ _ u.1) in
    IsFrontOf-in_line own s.ring.list u.0 (omega (arith, l))
