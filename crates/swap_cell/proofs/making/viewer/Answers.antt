use Rattle.std.proofs.Common.{ap, ◌∙◌, sym}
use Rattle.swap_cell.proofs.Keeps.{tells, some_word}
use Rattle.swap_cell.proofs.making.viewer.Goals as goal

pub split_seat-place-requires : goal.split_seat-place-requires
split_seat-place-requires g c = let me = c.args.setter.now in let e = me.seated ∙ ap (λ z. z.shared.table_id) (sym c.deref.ensures) in
    (e, some_word _ _ e me.sized.0 me.filled, tells g.T.Grows.extends _ _)
