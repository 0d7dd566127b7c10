use Rattle.std.proofs.Common.{ap, ◌∙◌, sym}
use Rattle.swap_cell.proofs.Keeps.{tells, some_word, begins_value}
use Rattle.swap_cell.proofs.handles.Setter.tell.Goals as goal

pub split_seat-requires : goal.split_seat-requires
split_seat-requires g c = let me = c.args.self.now in let e = me.seated ∙ ap (λ z. z.shared.table_id) (sym c.deref.ensures) in
    (e, some_word _ _ e me.sized.0 me.filled, tells g.T.Grows.extends _ _)

pub returns-clause-last : goal.returns-clause-last
returns-clause-last g c = let me = c.args.self.now in begins_value me.place.me.0.known me.last me.knows
