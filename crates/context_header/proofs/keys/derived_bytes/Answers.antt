use Rattle.std.proofs.Common.{◌≡◌, List, ℕ, length, take, replicate, ◌∙◌, arith}
use Rattle.std.proofs.lemmas.List.{take_at, length-take}
use Rattle.context_header.proofs.keys.derived_bytes.Goals as goal

pub returns : goal.returns
returns c =
    let zeros : List ℕ = replicate 96 0 in
    let room : length (take c.args.len zeros) ≡ c.args.len = omega (arith, length-take c.args.len zeros) in
    let len : length c.write_derived.new.out ≡ c.args.len = c.write_derived.auto.out ∙ room in
    take_at c.write_derived.new.out _ c.args.len len ∙ rw room at c.write_derived.ensures
