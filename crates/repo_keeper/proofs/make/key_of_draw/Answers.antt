use Rattle.std.proofs.Common.{◌∙◌}
use Rattle.repo_keeper.proofs.Makes.{made-same, made-fits, last_part}
use Rattle.repo_keeper.proofs.make.key_of_draw.Goals as goal

pub returns-clause-value : goal.returns-clause-value
returns-clause-value c =
    made-same c.key_id_of_draw.result c.args.creation c.args.activation c.args.expiration _ c.code_of.result c.args.bytes.now c.copy_from_slice.new.self c.copy_from_slice-2.new.self
    c.copy_from_slice.ensures.after c.key_id_of_draw.ensures.value c.code_of.ensures (c.copy_from_slice-2.ensures.after ∙ last_part c.args.bytes.now c.told-bytes)

pub returns-clause-element : goal.returns-clause-element
returns-clause-element c =
    made-fits c.key_id_of_draw.result c.args.creation c.args.activation c.args.expiration c.code_of.result c.args.bytes.now c.copy_from_slice-2.new.self c.requires c.key_id_of_draw.ensures.bound c.code_of.type_inv
    c.told-bytes c.fits-bytes (c.copy_from_slice-2.ensures.after ∙ last_part c.args.bytes.now c.told-bytes)
