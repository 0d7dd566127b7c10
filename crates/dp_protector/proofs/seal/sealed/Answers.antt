use Rattle.std.proofs.Common.{◌∙◌, sym, inr}
use Rattle.dp_protector.proofs.Sealing.{draw_len-is, sealing-is}
use Rattle.dp_protector.proofs.seal.sealed.Goals as goal

pub returns-in_err-payload-in-Ok-clause-memory : goal.returns-in_err-payload-in-Ok-clause-memory
returns-in_err-payload-in-Ok-clause-memory g c = λ memory.
    let len = draw_len-is c.args.ring.now c.in-Some.found.0.now c.in-Some.found.1 c.in-Some.ensures.some.0 c.in-Some.ensures.some.1 in
    inr (c.fill_drawn.new.out, c.fill_drawn.ensures.len ∙ sym len, c.in-Ok.ensures.ok)

pub returns-in-Ok-clause-made : goal.returns-in-Ok-clause-made
returns-in-Ok-clause-made g c =
    let len = draw_len-is c.args.ring.now c.in-Some.found.0.now c.in-Some.found.1 c.in-Some.ensures.some.0 c.in-Some.ensures.some.1 in
    record {
      drawn = c.fill_drawn.new.out;
      len_is = c.fill_drawn.ensures.len ∙ sym len;
      bytes = c.fill_drawn.ensures.bytes;
      draws = c.in-Ok.ensures.ok;
      value_is = sealing-is c.args.ring.now c.args.chain.now c.fill_drawn.new.out c.args.plain.now c.in-Some.found.0.now c.in-Some.found.1 c.new-encryptor.result c.deref.result.now c.in_ok-payload-in-Ok.field-0.items
          c.in-Some.ensures.some.0 c.in-Some.ensures.some.1 c.new-encryptor.ensures (c.deref.ensures.value ∙ c.in_ok-aad.ensures) c.in_ok-payload-in-Ok.ensures;
    }
