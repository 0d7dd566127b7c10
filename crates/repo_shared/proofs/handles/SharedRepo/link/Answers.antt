use Rattle.std.proofs.Common.{◌≡◌, ap, ◌∙◌, sym, arith}
use Rattle.repo_shared.proofs.Keeps.{makes}
use Rattle.repo_shared.proofs.handles.SharedRepo.link.Goals as goal

pub split_seat-seat-requires : goal.split_seat-seat-requires
split_seat-seat-requires g c = let me = c.args.self.now in let e = me.seated ∙ ap (λ z. z.shared.table_id) (sym c.deref.ensures) in
    let words : me.seat.table_id.words ≡ c.deref.result.now.shared.table_id.words = ap (λ z. z.words) e in
    (e, omega (arith, words, me.sized.0), makes _ _)
