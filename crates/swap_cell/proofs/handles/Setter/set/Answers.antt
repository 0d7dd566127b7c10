use Rattle.std.proofs.Common.{rules, ◌≡◌, ◌+◌, ◌*◌, ◌<◌, ◌≤◌, ◌∷◌, ◌++◌, [], length, map, drop, ap, ◌∙◌, sym, subst, refl, length-append, arith}
use Rattle.swap_cell.specs.Cells.{value_of}
use Rattle.swap_cell.proofs.Keeps.{appends, each_of_map, some_word}
use Rattle.swap_cell.proofs.handles.Setter.set.Goals as goal

pub compare_exchange_with-requires : goal.compare_exchange_with-requires
compare_exchange_with-requires g c = let me = c.args.self.now in let e = me.seated ∙ ap (λ z. z.shared.table_id) (sym c.deref-2.ensures) in
    let n : c.in-Some.number ≡ me.last.number + 1 = search rules in (
      e,
      some_word _ _ e me.sized.0 me.filled,
      appends g.T.Grows.extends g.met.T.Grows.reflexive g.met.T.Grows.transitive _ _ _ me.last _ me.sets me.has me.most me.counts n c.requires,
    )

pub hand_all-requires-clause-free : goal.hand_all-requires-clause-free
hand_all-requires-clause-free g c = let me = c.args.self.now in let a = (c.compare_exchange_with.ensures.2 _ refl).1 in
    (ap (λ m. m.0.slot) a ∙ me.free.0, ap (λ m. m.1) a ∙ me.free.1)

pub hand_all-requires-clause-has : goal.hand_all-requires-clause-has
hand_all-requires-clause-has g c = ap (λ m. m.0.mine) ((c.compare_exchange_with.ensures.2 _ refl).1)

pub invariant_of-self-2 : goal.invariant_of-self-2
invariant_of-self-2 g c = let me = c.args.self.now in let a = (c.compare_exchange_with.ensures.2 _ refl).1 in let h = c.hand_all.ensures.handed in
    let t = h.0 ∙ c.compare_exchange_with.ensures.0 in let n : c.in-Some.number ≡ me.last.number + 1 = search rules in
    let l : length c.hand_all.new.place.me.0.chain ≡ length (me.place.me.0.chain ++ c.args.value ∷ []) = ap (λ z. length z) (h.7 ∙ ap (λ m. m.0.chain) a) in
    let k = length-append me.place.me.0.chain (c.args.value ∷ []) in let old = me.counts in record {
      seated = t ∙ me.seated;
      sized = subst (λ z. (z.words ≡ 16 * z.slots) × (z.slots ≤ 128)) (sym t) me.sized;
      filled = subst (λ z. 0 < z.slots) (sym t) me.filled;
      sets = h.6 ∙ (ap (λ m. m.0.sets) a ∙ me.sets);
      has = h.3 ∙ ap (λ m. m.0.mine) a;
      knows = let k = h.5 ∙ ap (λ m. m.0.known) a in k ∙ ap (λ z. record { value = c.args.value; number = c.in-Some.number } ∷ z) (sym (ap (drop 1) k));
      most = h.4 ∙ ap (λ m. m.0.most) a;
      counts = omega arith;
      empty = c.hand_all.ensures.room;
      free = (h.1, h.2);
    }

pub returns-clause-set : goal.returns-clause-set
returns-clause-set g c = let a = (c.compare_exchange_with.ensures.2 _ refl).1 in (refl, ap (map value_of) (c.hand_all.ensures.handed.5 ∙ ap (λ m. m.0.known) a))

pub returns-clause-chain : goal.returns-clause-chain
returns-clause-chain g c = each_of_map value_of (g.T.Grows.extends c.args.value) c.args.self.now.place.me.0.known (c.compare_exchange_with.ensures.2 _ refl).0
