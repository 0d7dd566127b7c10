use Rattle.std.proofs.Common.{◌≡◌, ap, sym, ◌∙◌, arith}
use Rattle.repo_shared.specs.Rule.{elements}
use Rattle.repo_shared.proofs.Keeps.{counts, unlocks}
use Rattle.repo_shared.proofs.locking.unlock.Goals as goal

pub load-found-requires : goal.load-found-requires
load-found-requires g c = let t = c.requires.table in let e : c.args.seat.now.table_id.words ≡ c.args.board.now.shared.table_id.words = ap (λ z. z.words) t.0 in
    (t.0, omega (arith, e, t.1), counts _ _ _)

pub store-requires : goal.store-requires
store-requires g c = let t = c.requires.table in let e : c.args.seat.now.table_id.words ≡ c.args.board.now.shared.table_id.words = ap (λ z. z.words) t.0 in
    let l = c.load-found.ensures in let s = c.requires.shelf in let v = c.load-found.new.seat.me.0 in (
      l.0 ∙ t.0,
      omega (arith, e, t.1),
      unlocks _ _ v s.0 _ (ap (λ m. (v, m.1)) l.2.0 ∙ ap (λ z. (v, z)) s.1) (ap (λ m. m.0.locks) l.2.0 ∙ c.requires.lock) (s.2 ∙ sym (ap (λ m. elements m.0.list) l.2.0)),
    )
