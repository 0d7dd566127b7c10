-- What a call that protects or unprotects at a node comes to, by the ring that its path comes to.
use Rattle.std.specs.Prelude.{◌≡◌, ◌≢◌, ◌⊎◌, ℕ, ◌<◌, ◌≤◌, Bool, List, [], length, None, Result, Ok, Err}
use Rattle.std.specs.declared.vec.Vec.{Vec}
use Rattle.std.specs.declared.alloc.Global.{Global}
use Rattle.dp_base.specs.Draws.{DrawState, Draws}
use Rattle.key_ring.specs.Ring.{RingOf, default_key}
use Rattle.ring_world.specs.Flight.{Refusal}
use Rattle.node_calls.specs.Gather.{refusal}
use Rattle.dp_protector.specs.declared.opened.Opened.{Opened}
use Rattle.dp_protector.specs.declared.protect.TheConstants.{MAX_PLAIN}
use Rattle.dp_protector.specs.declared.refused.ProtectRefused.{ProtectRefused}
use Rattle.dp_protector.specs.declared.refused.ProtectRefused.TheVariants as protecting
use Rattle.dp_protector.specs.declared.refused.UnprotectRefused.{UnprotectRefused}
use Rattle.dp_protector.specs.Opening.{IsDueAnswer, opened, opening}
use Rattle.dp_protector.specs.Protect.{Drew, Sealed, draw_len, protects}
use Rattle.dp_answer.specs.declared.calls.Answered.{Answered}
use Rattle.dp_answer.specs.declared.calls.CallRefused.{CallRefused}
use Rattle.dp_answer.specs.declared.calls.CallRefused.TheVariants.{Node, Due, Protect, Unprotect}

-- the ring is that of the answer
abbrev pub IsRingOf : {A : Type 0} → RingOf → Answered A → Type 0
IsRingOf ring a = (a.front ≡ length ring.list) × (a.made_at ≡ ring.made_at)

-- why a ring made no payload of a plaintext
abbrev pub IsUnsealed : RingOf → List ℕ → ProtectRefused → DrawState → DrawState → Type 0
IsUnsealed ring plain (protecting.TooLong len) old new =
    (MAX_PLAIN < length plain) × (len ≡ length plain) × (new ≡ old)
IsUnsealed ring plain protecting.NoDefaultKey old new =
    (length plain ≤ MAX_PLAIN) × (default_key ring.list ring.made_at ≡ None) × (new ≡ old)
IsUnsealed ring plain protecting.DrawFault old new =
    (length plain ≤ MAX_PLAIN) × (default_key ring.list ring.made_at ≢ None) × Draws 1 [] old new
IsUnsealed ring plain protecting.Memory old new =
    (length plain ≤ MAX_PLAIN) × ((new ≡ old) ⊎ Drew (draw_len ring) old new)

-- what a call to protect answers: why its path was refused; by the ring, the payload of the bytes drawn,
-- or why there is none
abbrev pub Protects : List (List ℕ) → List ℕ → Result RingOf Refusal → Result (Answered (Vec ℕ Global)) CallRefused → DrawState → DrawState → Type 0
Protects chain plain r (Ok a) old new =
    (ring : RingOf) × (r ≡ Ok ring) × IsRingOf ring a
    × Sealed (draw_len ring) (λ drawn. protects ring chain drawn plain) old new a.value.items
Protects chain plain r (Err (Node why)) old new = (r ≡ Err (refusal why)) × (new ≡ old)
Protects chain plain r (Err (Due why)) old new = ⊥
Protects chain plain r (Err (Protect front why)) old new =
    (ring : RingOf) × (r ≡ Ok ring) × (front ≡ length ring.list) × IsUnsealed ring plain why old new
Protects chain plain r (Err (Unprotect front why)) old new = ⊥

-- an answer of opening as clauses of the ring have it
abbrev pub told : Result (Answered Opened) UnprotectRefused → Result Opened UnprotectRefused
told (Ok a) = Ok a.value
told (Err why) = Err why

-- what a call to unprotect answers: why its path was refused; or what the payload opens to by the ring
abbrev pub Unprotects : List (List ℕ) → List ℕ → Bool → Result RingOf Refusal → Result (Answered Opened) CallRefused → Type 0
Unprotects chain payload allow r (Ok a) =
    (ring : RingOf) × (r ≡ Ok ring) × IsRingOf ring a
    × IsDueAnswer opening (told (Ok a)) (opened ring chain payload allow)
Unprotects chain payload allow r (Err (Node why)) = r ≡ Err (refusal why)
Unprotects chain payload allow r (Err (Due why)) = ⊥
Unprotects chain payload allow r (Err (Protect front why)) = ⊥
Unprotects chain payload allow r (Err (Unprotect front why)) =
    (ring : RingOf) × (r ≡ Ok ring) × (front ≡ length ring.list)
    × IsDueAnswer opening (told (Err why)) (opened ring chain payload allow)
