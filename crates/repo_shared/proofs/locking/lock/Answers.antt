use Rattle.std.proofs.Common.{◌≡◌, Some, ap, ◌∙◌, arith}
use Rattle.repo_shared.proofs.Keeps.{locks, front}
use Rattle.repo_shared.proofs.locking.lock.Goals as goal

pub compare_exchange-requires : goal.compare_exchange-requires
compare_exchange-requires g c = let t = c.requires.table in let e : c.args.seat.now.table_id.words ≡ c.args.board.now.shared.table_id.words = ap (λ z. z.words) t.0 in
    (c.loop.invariant.0 ∙ t.0, omega (arith, e, t.1), locks _ _ _)

pub exchange-requires : goal.exchange-requires
exchange-requires g c = let e = c.compare_exchange.ensures in let t = e.2.0 c.if-compare_exchange-eq0.true in
    (e.0 ∙ (c.loop.invariant.0 ∙ c.requires.table.0), (Some t.0, front _ _ _ (ap (λ m. m.1) t.2)))
