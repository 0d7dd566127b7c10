use Rattle.std.proofs.Common.{◌≡◌, ◌∷◌, Some, ap, sym, ◌∙◌, arith}
use Rattle.std.proofs.lemmas.List.{length-map}
use Rattle.atomic_table.specs.Table.{rest}
use Rattle.repo_shared.specs.Rule.{elements, element_of}
use Rattle.repo_shared.proofs.Fronts.{starts_length}
use Rattle.repo_shared.proofs.Keeps.{grows, grown_is, carries_grown}
use Rattle.repo_shared.proofs.locking.put_grown.Goals as goal

pub fetch_add-requires : goal.fetch_add-requires
fetch_add-requires g c = let t = c.requires.table in let e : c.args.seat.now.table_id.words ≡ c.args.board.now.shared.table_id.words = ap (λ z. z.words) t.0 in
    let x = c.exchange-empty.ensures in let v = c.args.seat.now.me.0 in let shelf = c.args.shelf in let n = c.len.ensures in
    let long = starts_length shelf.list (elements v.list) c.requires.grown in let same = length-map v.list element_of in let had = c.requires.had in (
      x.0 ∙ t.0,
      omega (arith, e, t.1),
      grows _ _ _ v shelf _ (x.3 ∙ ap (λ l. (v, (0, Some shelf) ∷ rest l)) c.requires.lock.1) c.requires.lock.0 c.requires.grown
          (omega (arith, n.value, had)) (omega (arith, n.value, n.bound)) (omega (arith, long, same)),
    )

pub unlock-requires-clause-shelf : goal.unlock-requires-clause-shelf
unlock-requires-clause-shelf g c = let x = c.exchange-empty.ensures in let v = c.args.seat.now.me.0 in let shelf = c.args.shelf in
    let a = grown_is v shelf _ _ (x.3 ∙ ap (λ l. (v, (0, Some shelf) ∷ rest l)) c.requires.lock.1) c.fetch_add.ensures.2 in
    (shelf, ap (λ m. m.1) a, carries_grown v shelf c.requires.grown ∙ sym (ap (λ m. elements m.0.list) a))
