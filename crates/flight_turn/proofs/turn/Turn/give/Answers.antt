use Rattle.std.proofs.Common.{rules, Some, ◌∷◌, ap, ◌∙◌}
use Rattle.atomic_table.specs.Table.{rest}
use Rattle.flight_turn.proofs.Keeps.{gives_back}
use Rattle.flight_turn.proofs.turn.Turn.give.Goals as goal

pub store-requires : goal.store-requires
store-requires g c = let v = c.args.seat.now.place.me.0 in let e = c.exchange-empty.ensures in (
  search rules,
  search rules,
  gives_back g.F.Kin.mark _ _ _ _ v c.args.flight _ (e.3 ∙ ap (λ l. (v, (0, Some c.args.flight) ∷ rest l)) (c.args.seat.now.away c.requires.held)) c.requires.held c.requires.mark,
)
