use Rattle.std.proofs.Common.{◌≤◌, length, arith}
use Rattle.std.proofs.lemmas.Str.{is_utf8-from_IsUtf8}
use Rattle.key_elements.specs.declared.reason.TheConstants.{MAX_REASON}
use Rattle.key_elements.proofs.reason.Reason.new.Goals as goal

pub invariant_of-result : goal.invariant_of-result
invariant_of-result c =
    let few : length c.args.text.now ≤ MAX_REASON = omega arith in
    rw c.in_ok-from_str.ensures.ok (record { few = few; text = is_utf8-from_IsUtf8 c.args.text.now c.utf8.text })
