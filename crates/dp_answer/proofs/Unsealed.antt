-- What a call to protect says where it is refused.
use Rattle.std.proofs.Common.{◌≡◌, ◌↔◌, ℕ, ◌<◌, ◌≤◌, ◌⊎◌, ⊎_elim, List, [], length, None, Result, Err, refl}
use Rattle.std.proofs.lemmas.Bool.Decides.{leb_tells}
use Rattle.std.specs.declared.vec.Vec.{Vec}
use Rattle.std.specs.declared.alloc.Global.{Global}
use Rattle.dp_base.specs.Draws.{DrawState, Draws}
use Rattle.key_ring.specs.Ring.{RingOf, default_key}
use Rattle.dp_protector.specs.declared.protect.TheConstants.{MAX_PLAIN}
use Rattle.dp_protector.specs.declared.refused.ProtectRefused.{ProtectRefused}
use Rattle.dp_protector.specs.declared.refused.ProtectRefused.TheVariants as protecting
use Rattle.dp_protector.specs.Protect.{Drew, IsEarly, draw_len}
use Rattle.dp_answer.specs.Calls.{IsUnsealed}

abbrev err : ProtectRefused → Result (Vec ℕ Global) ProtectRefused
err why = Err why

module _ (ring : RingOf) (plain : List ℕ) (old new : DrawState) where
  pub unsealed : (why : ProtectRefused) → ((len : ℕ) → (err why ≡ err (protecting.TooLong len)) ↔ ((MAX_PLAIN < length plain) × (len ≡ length plain)))
      → (err why ≡ err protecting.NoDefaultKey) ↔ ((length plain ≤ MAX_PLAIN) × (default_key ring.list ring.made_at ≡ None)) → (IsEarly (err why) → new ≡ old)
      → (err why ≡ err protecting.DrawFault → Draws 1 [] old new) → (err why ≡ err protecting.Memory → (new ≡ old) ⊎ Drew (draw_len ring) old new) → IsUnsealed ring plain why old new
  unsealed (protecting.TooLong len) long key early fault memory = let l = (long len).0 refl in (l.0, l.1, early tt)
  unsealed protecting.NoDefaultKey long key early fault memory = let k = key.0 refl in (k.0, k.1, early tt)
  unsealed protecting.DrawFault long key early fault memory =
      let short : length plain ≤ MAX_PLAIN = ⊎_elim (λ le. le.1) (λ gt. absurd (let e = (long (length plain)).1 (gt.1, refl) in cc)) (leb_tells (length plain) MAX_PLAIN) in
      (short, λ none. (let e = key.1 (short, none) in cc), fault refl)
  unsealed protecting.Memory long key early fault memory =
      let short : length plain ≤ MAX_PLAIN = ⊎_elim (λ le. le.1) (λ gt. absurd (let e = (long (length plain)).1 (gt.1, refl) in cc)) (leb_tells (length plain) MAX_PLAIN) in
      (short, memory refl)
