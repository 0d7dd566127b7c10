use Rattle.std.proofs.Common.{◌∙◌, ap}
use Rattle.std.specs.Int.{w128, from_be_bytes}
use Rattle.dp_base.specs.Guid.{guid, id_of_guid}
use Rattle.dp_base.proofs.Guid.{guid-id_of_guid}
use Rattle.dp_base.proofs.key_id.key_id_from_guid.Goals as goal

pub returns : goal.returns
unfolding id_of_guid
returns c =
    let value = c.as_u128.ensures ∙ ap (from_be_bytes w128) c.from_bytes_le.ensures in
    record {
      value = value;
      undoes = ap guid value ∙ guid-id_of_guid c.args.bytes.now c.told-bytes c.fits-bytes;
    }
