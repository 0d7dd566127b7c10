use Rattle.std.proofs.Common.{◌≡◌, ◌*◌, length, ap, ◌∙◌, sym}
use Rattle.swap_cell.specs.Rule.{item}
use Rattle.swap_cell.proofs.Keeps.{opens, map_some_at}
use Rattle.swap_cell.proofs.making.setter.Goals as goal

pub new-requires : goal.new-requires
new-requires g c = let s = c.in_ok-share_to.ensures in let first = c.of-about.result.value in let xs = c.share_to.new.room.items in
    let wide : length c.as_slice.result.now ≡ 16 * length xs = c.as_slice.ensures.len ∙ (c.in_ok-words.ensures.len ∙ ap (λ n. 16 * n) (sym s.count)) in
    let same : c.args.first ≡ item first 0 = λ i. record { value = sym c.of-about.ensures i; number = c.requires.2 i } in
    opens g.T.Grows.extends g.met.T.Grows.reflexive first c.as_slice.result.now xs wide (λ r y e. let t = map_some_at xs r y e in sym t.1 ∙ (s.alike r y t.0 ∙ same))
