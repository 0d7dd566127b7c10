-- Lists grow: the laws of one list extending another.
use Rattle.std.proofs.Common.{◌≤◌, List, length, take, sym, ap, ◌∙◌, arith}
use Rattle.std.proofs.lemmas.List.{take-take, take_all, length-take}
use Rattle.key_elements.specs.declared.element.Element.{Element}
use Rattle.key_elements.specs.Lists.{Extends}

pub Extends-reflexive : (x : List Element) → Extends x x
Extends-reflexive x = take_all (length x) x (omega arith)

pub Extends-transitive : (x y z : List Element) → Extends x y → Extends y z → Extends x z
Extends-transitive x y z xy yz =
    let short : length z ≤ length y = omega (arith, ap length yz, length-take (length z) y) in
    sym (take-take (length z) (length y) x short) ∙ ap (take (length z)) xy ∙ yz
