-- A key made of what was drawn.
use Rattle.std.proofs.Common.{◌≡◌, ℕ, ◌<◌, ◌≤◌, ◌^◌, List, length, take, drop, inl, inr, ⊎_elim, sym, ap, subst, ◌∙◌, arith}
use Rattle.std.proofs.lemmas.List.{length-drop, take_all}
use Rattle.std.proofs.lemmas.Bool.Decides.{leb_tells}
use borrow.Rule.Slice.PartMut.{mid_of}
use Rattle.dp_base.specs.declared.key_id.KeyId.{KeyId}
use Rattle.dp_base.specs.declared.ticks.TheConstants.{MAX_TICKS}
use Rattle.dp_base.specs.Blocks.{AreBytes}
use Rattle.dp_base.specs.Guid.{drawn_id}
use Rattle.dp_base.proofs.Parts.{AreBytes-drop}
use Rattle.key_elements.specs.declared.element.Element.TheVariants.{Key}
use Rattle.key_elements.specs.Record.{IsKey}
use Rattle.repo_keeper.specs.Made.{key_of_draw, AreBadDates}

pub made-same : (id : KeyId) (creation activation expiration code alg : ℕ) (bytes front material : List ℕ) → front ≡ take 16 bytes → id.0 ≡ drawn_id front → alg ≡ code → material ≡ drop 16 bytes
    → Key (record { id = id; creation = creation; activation = activation; expiration = expiration; alg = alg; material = material }) ≡ key_of_draw bytes creation activation expiration code
unfolding key_of_draw
made-same id creation activation expiration code alg bytes front material first same is last =
    ap (λ (i : ℕ). Key (record { id = record { 0 = i }; creation = creation; activation = activation; expiration = expiration; alg = alg; material = material })) (same ∙ ap drawn_id first)
    ∙ ap (λ (a : ℕ). Key (record { id = record { 0 = drawn_id (take 16 bytes) }; creation = creation; activation = activation; expiration = expiration; alg = a; material = material })) is
    ∙ ap (λ (m : List ℕ). Key (record { id = record { 0 = drawn_id (take 16 bytes) }; creation = creation; activation = activation; expiration = expiration; alg = code; material = m })) last

-- such a key fits a record
pub made-fits : (id : KeyId) (creation activation expiration alg : ℕ) (bytes material : List ℕ) → (AreBadDates creation activation expiration → ⊥) → id.0 < 2 ^ 128 → alg < 256 → length bytes ≡ 80 → AreBytes bytes → material ≡ drop 16 bytes
    → IsKey (record { id = id; creation = creation; activation = activation; expiration = expiration; alg = alg; material = material })
made-fits id creation activation expiration alg bytes material good small code len fits last = record {
  id = small;
  creation = not_above creation (λ high. good (inr (inl high)));
  activation = omega (arith, not_above expiration (λ high. good (inr (inr high))), before);
  expiration = not_above expiration (λ high. good (inr (inr high)));
  alg = code;
  material_len = omega (arith, ap length last, length-drop 16 bytes);
  material = subst AreBytes (sym last) (AreBytes-drop 16 bytes fits);
}
  where
    not_above : (d : ℕ) → (MAX_TICKS < d → ⊥) → d ≤ MAX_TICKS
    not_above d low = ⊎_elim (λ h. h.1) (λ h. absurd (low h.1)) (leb_tells d MAX_TICKS)

    before : activation < expiration
    before = ⊎_elim (λ h. absurd (good (inl h.1))) (λ h. h.1) (leb_tells expiration activation)

-- what stands behind the id is the material
pub last_part : (bytes : List ℕ) → length bytes ≡ 80 → mid_of 16 64 bytes ≡ drop 16 bytes
last_part bytes len = take_all 64 (drop 16 bytes) (omega (arith, length-drop 16 bytes))
