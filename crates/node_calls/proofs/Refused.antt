-- Refusals for want of memory.
use Rattle.std.proofs.Common.{◌≡◌, true, false, refl, Result, Ok, Err}
use Rattle.key_ring.specs.Ring.{RingOf}
use Rattle.ring_world.specs.Flight.{Refusal, Memory}
use Rattle.node_calls.specs.Gather.{is_memory}

abbrev ring_refused : Refusal → Result RingOf Refusal
ring_refused why = Err why

pub is_memory-true : (why : Refusal) → is_memory why ≡ true → why ≡ Memory
is_memory-true Memory h = refl
is_memory-true _ h = cc

pub not_memory : (why : Refusal) → is_memory why ≡ false → ring_refused why ≡ ring_refused Memory → ⊥
not_memory Memory h e = cc
not_memory _ h e = cc

abbrev ring_given : RingOf → Result RingOf Refusal
ring_given r = Ok r

pub ring_no_memory : (r : RingOf) → ring_given r ≡ ring_refused Memory → ⊥
ring_no_memory r e = cc
