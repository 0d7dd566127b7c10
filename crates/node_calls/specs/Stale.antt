-- The use of a ring that was looked at and isn't enough.
use Rattle.std.specs.Prelude.{◌≡◌, ℕ, ◌<◌, false, List, [], ◌∷◌, Option, Some, None, IfSome}
use Rattle.key_ring.specs.Ring.{RingOf}
use Rattle.ring_world.specs.declared.step.Step.{Step}
use Rattle.ring_world.specs.declared.step.Step.TheVariants.{Want, Take, Busy}
use Rattle.ring_world.specs.Course.{any_publishes}
use Rattle.ring_world.specs.Path.{is_enough_for}
use Rattle.node_calls.specs.HostState.{AtTurn}
use Rattle.node_calls.specs.Calls.{is_private}

-- the want number that steps showed last
abbrev pub want_by_step : ℕ → Step → ℕ
want_by_step n (Want m) = m
want_by_step n _ = n

abbrev pub want_shown : ℕ → List Step → ℕ
want_shown n [] = n
want_shown n (x ∷ xs) = want_shown (want_by_step n x) xs

-- what the last try of the turn read, where the steps have one: the number of the holder, or 0
abbrev pub read_by_step : Option ℕ → Step → Option ℕ
read_by_step o Take = Some 0
read_by_step o (Busy h) = Some h
read_by_step o _ = o

abbrev pub last_try : Option ℕ → List Step → Option ℕ
last_try o [] = o
last_try o (x ∷ xs) = last_try (read_by_step o x) xs

-- the steps neither read nor published the ring, and it is due by the want number that they showed
-- last, or has too few elements
abbrev pub IsStale : ℕ → ℕ → List Step → RingOf → Type 0
IsStale now target steps r =
    (is_private steps ≡ false) × (any_publishes steps ≡ false)
    × (is_enough_for now target (record { want = want_shown 0 steps; ring = r }) ≡ false)

-- the last of the pass's own steps at the turn which was a try is one of these, and read the number
-- of a holder
abbrev pub FoundTaken : List Step → Option AtTurn → Type 0
FoundTaken steps turn = (h : ℕ) × (0 < h) × (last_try None steps ≡ Some h) × IfSome turn (λ t. t.read ≡ h)
