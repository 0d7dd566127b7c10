use Rattle.std.proofs.Common.{◌≡◌, ◌+◌, ◌*◌, ◌∷◌, [], All, length, length-append, subst, sym, ap, ◌∙◌}
use Rattle.swap_cell.specs.Cells.{HaveSlots, setter_cell, viewer_cell, known}
use Rattle.swap_cell.proofs.Keeps.{all_more, slots_more}
use Rattle.swap_cell.proofs.making.cell.Goals as goal

pub loop-index-preserved : goal.loop-index-preserved
loop-index-preserved g c = let inv = c.loop-index.invariant in let s = c.viewer.ensures.same in let v = c.in_ok-end.ensures.viewer in
    let n : length c.push.new.self.items ≡ c.loop-index.index + 1 = ap (λ z. length z) c.in_ok-push.ensures.items ∙ (length-append _ _ ∙ ap (λ z. z + 1) inv.4) in (
      c.viewer.ensures.cell ∙ inv.0,
      s.0 ∙ inv.1,
      s.1 ∙ inv.2,
      inv.3,
      n,
      subst (λ xs. All (λ z. (viewer_cell z ≡ setter_cell c.in_ok-setter.setter) × (known z ≡ c.args.first ∷ [])) xs) (sym c.in_ok-push.ensures.items)
          (all_more (λ z. (viewer_cell z ≡ setter_cell c.in_ok-setter.setter) × (known z ≡ c.args.first ∷ [])) _ _ inv.5 (v.0 ∙ inv.0, v.1 ∙ inv.2)),
      subst HaveSlots (sym c.in_ok-push.ensures.items) (slots_more _ _ inv.6 (c.in_ok-end.ensures.slot ∙ ap (λ n. 2 * n) (sym inv.4))),
    )
