use Rattle.std.proofs.Common.{rules, ◌≡◌, ◌∷◌, [], Some, subst, sym, ap}
use Rattle.std.proofs.lemmas.Option.{slice_get-get_or}
use Rattle.atomic_table.specs.Table.{opening}
use Rattle.flight_turn.specs.Rule.{Kept, maker}
use Rattle.flight_turn.proofs.Keeps.{opens, of_fresh}
use Rattle.flight_turn.proofs.turn.Turn.new.Goals as goal

pub new-requires : goal.new-requires
new-requires g c = let e : c.push.new.self.items ≡ Some c.args.flight ∷ [] = search rules in let like = c.of.result.value in let seats = c.from-seats.result in
    subst (λ xs. Kept g.F.Kin.mark like seats (opening (0 ∷ 0 ∷ []) xs (maker seats like))) (sym e) (opens g.F.Kin.mark like c.args.flight seats (sym c.of.ensures))

pub returns-clause-each : goal.returns-clause-each
returns-clause-each g c i d within = of_fresh g.F.Kin.mark _ _ _ (c.in_ok-made.ensures.each i _ (slice_get-get_or _ i d within))

pub returns-clause-fresh : goal.returns-clause-fresh
returns-clause-fresh g c i d within = let v = (c.in_ok-made.ensures.each i _ (slice_get-get_or _ i d within)).1 in (ap (λ z. z.number) v, ap (λ z. z.holds) v, ap (λ z. z.want) v, ap (λ z. z.raised_to) v)
