use Rattle.std.proofs.Common.{◌≡◌, ◌<◌, ◌∷◌, Some, ap, subst, sym, refl, inl, inr, ◌∙◌}
use Rattle.atomic_table.specs.Table.{rest}
use Rattle.swap_cell.proofs.Keeps.{locks, frees, swaps, front, one_slot, same_head, word_within}
use Rattle.swap_cell.proofs.viewing.refresh.Goals as goal

pub compare_exchange-requires : goal.compare_exchange-requires
compare_exchange-requires g c = let t = c.requires.table in
    (t.0.0, word_within _ _ _ t.0.0 t.0.1 t.1, locks g.T.Grows.extends _ _ _ _ (subst (λ z. c.args.index < z.slots) t.0.0 t.1))

pub slot_mut-requires : goal.slot_mut-requires
slot_mut-requires g c = let e = c.compare_exchange.ensures in let t = e.2.0 c.if-compare_exchange-ne0.false c.args.index refl in
    let l = one_slot _ _ _ _ _ t.1 c.requires.free.1 in (e.0 ∙ c.requires.table.0.0, (t.0, front _ _ _ (ap (λ m. m.1) l)))

pub slot_mut-requires-then-slot_mut-mine : goal.slot_mut-requires-then-slot_mut-mine
slot_mut-requires-then-slot_mut-mine g c = (c.compare_exchange.ensures.0 ∙ c.requires.table.0.0, (c.slot_mut.result.now, refl))

pub store-requires : goal.store-requires
store-requires g c = let e = c.compare_exchange.ensures in let t = e.2.0 c.if-compare_exchange-ne0.false c.args.index refl in
    let l = one_slot _ _ _ _ _ t.1 c.requires.free.1 in let q = c.requires.table in let v = c.compare_exchange.new.seat.me.0 in (
      e.0 ∙ q.0.0,
      word_within _ _ _ q.0.0 q.0.1 q.1,
      swaps g.T.Grows.extends _ _ c.args.index v c.args.mine.now _ (λ i. (v, (c.args.index, c.swap.ensures.x_after i) ∷ ap (λ m. rest m.1) l i))
          (ap (λ m. m.0.slot) l) (subst (λ z. c.args.index < z.slots) q.0.0 q.1) (inr (ap (λ m. m.0.mine) l ∙ c.requires.has)),
    )

pub store-requires-else-slot_mut-mine : goal.store-requires-else-slot_mut-mine
store-requires-else-slot_mut-mine g c = let e = c.compare_exchange.ensures in let t = e.2.0 c.if-compare_exchange-ne0.false c.args.index refl in
    let l = one_slot _ _ _ _ _ t.1 c.requires.free.1 in let q = c.requires.table in let v = c.compare_exchange.new.seat.me.0 in
    let y = c.slot_mut.result.now in let same : t.0 ≡ y = same_head _ _ _ _ _ _ _ (ap (λ m. m.1) l) c.slot_mut.ensures.value in (
      e.0 ∙ q.0.0,
      word_within _ _ _ q.0.0 q.0.1 q.1,
      frees g.T.Grows.extends _ _ c.args.index v y _ (λ i. (v, (c.args.index, y) ∷ ap (λ m. rest m.1) l i))
          (ap (λ m. m.0.slot) l) (subst (λ z. c.args.index < z.slots) q.0.0 q.1) (inl (ap (λ m. m.0.found) l ∙ ap Some same)),
    )

pub returns-then-slot_mut-mine-clause-free : goal.returns-then-slot_mut-mine-clause-free
returns-then-slot_mut-mine-clause-free g c = let e = c.compare_exchange.ensures in let t = e.2.0 c.if-compare_exchange-ne0.false c.args.index refl in
    let l = one_slot _ _ _ _ _ t.1 c.requires.free.1 in let s = c.store.ensures.2 in (ap (λ m. m.0.slot) s, ap (λ m. m.1) s ∙ ap (λ m. rest m.1) l)

pub returns-then-slot_mut-mine-clause-has : goal.returns-then-slot_mut-mine-clause-has
returns-then-slot_mut-mine-clause-has g c = let e = c.compare_exchange.ensures in let t = e.2.0 c.if-compare_exchange-ne0.false c.args.index refl in
    let l = one_slot _ _ _ _ _ t.1 c.requires.free.1 in let s = c.store.ensures.2 in
    let y = c.slot_mut.result.now in let z = c.slot_mut-then-slot_mut-mine.result.now in
    let same : t.0 ≡ y = same_head _ _ _ _ _ _ _ (ap (λ m. m.1) l) c.slot_mut.ensures.value in
    let again : y ≡ z = same_head _ _ _ _ _ _ _ refl c.slot_mut-then-slot_mut-mine.ensures.value in
    ap (λ m. m.0.mine) s ∙ (ap (λ m. m.0.found) l ∙ ap Some (same ∙ (again ∙ sym c.swap.ensures.y_after)))

pub returns-then-slot_mut-mine-clause-same : goal.returns-then-slot_mut-mine-clause-same
returns-then-slot_mut-mine-clause-same g c = let e = c.compare_exchange.ensures in let t = e.2.0 c.if-compare_exchange-ne0.false c.args.index refl in
    let s = c.store.ensures.2 in (ap (λ m. m.0.known) s ∙ ap (λ m. m.0.known) t.1, ap (λ m. m.0.most) s ∙ ap (λ m. m.0.most) t.1)

pub returns-else-slot_mut-mine-clause-free : goal.returns-else-slot_mut-mine-clause-free
returns-else-slot_mut-mine-clause-free g c = let e = c.compare_exchange.ensures in let t = e.2.0 c.if-compare_exchange-ne0.false c.args.index refl in
    let l = one_slot _ _ _ _ _ t.1 c.requires.free.1 in let s = c.store-else-slot_mut-mine.ensures.2 in (ap (λ m. m.0.slot) s, ap (λ m. m.1) s ∙ ap (λ m. rest m.1) l)

pub returns-else-slot_mut-mine-clause-has : goal.returns-else-slot_mut-mine-clause-has
returns-else-slot_mut-mine-clause-has g c = let e = c.compare_exchange.ensures in let t = e.2.0 c.if-compare_exchange-ne0.false c.args.index refl in
    let s = c.store-else-slot_mut-mine.ensures.2 in ap (λ m. m.0.mine) s ∙ (ap (λ m. m.0.mine) t.1 ∙ c.requires.has)

pub returns-else-slot_mut-mine-clause-same : goal.returns-else-slot_mut-mine-clause-same
returns-else-slot_mut-mine-clause-same g c = let e = c.compare_exchange.ensures in let t = e.2.0 c.if-compare_exchange-ne0.false c.args.index refl in
    let s = c.store-else-slot_mut-mine.ensures.2 in (ap (λ m. m.0.known) s ∙ ap (λ m. m.0.known) t.1, ap (λ m. m.0.most) s ∙ ap (λ m. m.0.most) t.1)
