use Rattle.std.proofs.Common.{rules, Err, ◌≡◌, ◌⊎◌, take, sym, ap, ◌∙◌}
use Rattle.dp_base.specs.declared.alg.Alg.{Alg}
use Rattle.context_header.specs.Keys.{KeyPair}
use Rattle.payload_view.specs.Payload.{Parts}
use Rattle.dp_encryptor.specs.Body.{HasTag, Opens, Unpads}
use Rattle.dp_c.proofs.Codes.{at_code, from_code}
use Rattle.dp_c.proofs.body.dp_body_open.Goals as goal

pub returns-in-Ok-clause-done : goal.returns-in-Ok-clause-done
returns-in-Ok-clause-done c alg code done =
    let told : c.deref.result.now ≡ c.in-Ok.text.items = search rules in
    let bytes = c.hand_out.ensures.bytes done in
    let all : c.in-Ok.text.items ≡ take c.hand_out.new.written c.hand_out.new.out = sym told ∙ sym bytes.1 in (
      bytes.0,
      at_code (λ (a : Alg) (k : KeyPair) (p : Parts). Opens a k p (take c.hand_out.new.written c.hand_out.new.out))
          c.new-encryptor.result c.in-Some-split.view c.in-Some.alg alg c.args.material.now c.args.aad.now c.args.body.now c.args.code
          c.new-encryptor.ensures c.in-Some-split.ensures.parts c.in-Some.ensures.value code (rw (← all) c.in-Ok.ensures.found),
    )

pub returns-in-Ok-clause-not_padded : goal.returns-in-Ok-clause-not_padded
returns-in-Ok-clause-not_padded c alg fits wrong =
    let here = from_code (λ (a : Alg) (k : KeyPair) (p : Parts). ¬ (Unpads a k p))
    c.new-encryptor.result c.in-Some-split.view c.in-Some.alg alg c.args.material.now c.args.aad.now c.args.body.now c.args.code
    c.new-encryptor.ensures c.in-Some-split.ensures.parts c.in-Some.ensures.value fits.code_is wrong in
    let refused = c.in-Ok.ensures.not_padded here in
    search rules

pub returns-in-Ok-clause-only : goal.returns-in-Ok-clause-only
returns-in-Ok-clause-only c alg text are fits opens =
    let told : c.deref.result.now ≡ c.in-Ok.text.items = search rules in
    let here = from_code (λ (a : Alg) (k : KeyPair) (p : Parts). Opens a k p text)
    c.new-encryptor.result c.in-Some-split.view c.in-Some.alg alg c.args.material.now c.args.aad.now c.args.body.now c.args.code
    c.new-encryptor.ensures c.in-Some-split.ensures.parts c.in-Some.ensures.value fits.code_is opens in
    let same : c.in-Ok.text.items ≡ text = c.in-Ok.ensures.only text are here in
    search rules

pub returns-in-Ok-clause-no_room : goal.returns-in-Ok-clause-no_room
returns-in-Ok-clause-no_room c alg code full =
    let told : c.deref.result.now ≡ c.in-Ok.text.items = search rules in (
      c.in-Ok.text.items,
      c.in-Ok.ensures.bytes,
      search rules,
      at_code (λ (a : Alg) (k : KeyPair) (p : Parts). Opens a k p c.in-Ok.text.items)
          c.new-encryptor.result c.in-Some-split.view c.in-Some.alg alg c.args.material.now c.args.aad.now c.args.body.now c.args.code
          c.new-encryptor.ensures c.in-Some-split.ensures.parts c.in-Some.ensures.value code c.in-Ok.ensures.found,
    )

pub returns-in-Err-Tampered-clause-tampered : goal.returns-in-Err-Tampered-clause-tampered
returns-in-Err-Tampered-clause-tampered c alg code is =
    at_code (λ (a : Alg) (k : KeyPair) (p : Parts). (¬ (HasTag a k p)) ⊎ (¬ (Unpads a k p)))
    c.new-encryptor.result c.in-Some-split.view c.in-Some.alg alg c.args.material.now c.args.aad.now c.args.body.now c.args.code
    c.new-encryptor.ensures c.in-Some-split.ensures.parts c.in-Some.ensures.value code (c.in-Err-Tampered.ensures.tampered (ap Err c.in-Err-Tampered.field-0-is))

pub returns-in-Err-Tampered-clause-only : goal.returns-in-Err-Tampered-clause-only
returns-in-Err-Tampered-clause-only c alg text are fits opens =
    let here = from_code (λ (a : Alg) (k : KeyPair) (p : Parts). Opens a k p text)
    c.new-encryptor.result c.in-Some-split.view c.in-Some.alg alg c.args.material.now c.args.aad.now c.args.body.now c.args.code
    c.new-encryptor.ensures c.in-Some-split.ensures.parts c.in-Some.ensures.value fits.code_is opens in
    let memory = c.in-Err-Tampered.ensures.only text are here in
    let told = c.in-Err-Tampered.field-0-is in
    search rules
