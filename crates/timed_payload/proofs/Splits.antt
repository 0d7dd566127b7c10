-- An expiry that was put in front is told again.
use Rattle.std.proofs.Common.{◌≡◌, ℕ, ◌≤◌, true, false, List, length, Ok, refl, arith}
use Rattle.std.specs.Prelude.{nat_le, nat_lt}
use Rattle.std.proofs.lemmas.Nat.{from_be_bytes-to_be_bytes_8}
use Rattle.std.proofs.lemmas.Bool.Decides.{nat_tests}
use Rattle.dp_base.specs.declared.ticks.TheConstants.{MAX_TICKS}
use Rattle.timed_payload.specs.Timed.{expiry_of, split, timed}

pub comes_back : (ticks now : ℕ) (plain : List ℕ) → ticks ≤ MAX_TICKS → now ≤ ticks → split (timed ticks plain) now ≡ Ok (ticks, plain)
unfolding split
comes_back ticks now plain p q =
    let e : expiry_of (timed ticks plain) ≡ ticks = from_be_bytes-to_be_bytes_8 ticks (omega arith) in
    let room : nat_le 8 (length (timed ticks plain)) ≡ true = grind (arith, nat_tests) in
    let lawful : nat_le ticks MAX_TICKS ≡ true = grind (arith, nat_tests) in
    let now_on : nat_lt ticks now ≡ false = grind (arith, nat_tests) in
    rw (e, room, lawful, now_on) refl
