use Rattle.std.proofs.Common.{rules, Err, ◌≡◌, ◌-◌, length, take, drop, refl, sym, ap, ◌∙◌}
use Rattle.aes_block.specs.Cipher.{aes_cipher}
use Rattle.gcm_mode.specs.Ctr.{ctr}
use Rattle.gcm_mode.specs.Gcm.{gcm_tag, sealed}
use Rattle.dp_encryptor.proofs.Undoing.{length-gcm_tag}
use Rattle.dp_c.proofs.Tagged.{front-sealed, no_other, sealed-parts, tag-sealed}
use Rattle.dp_c.proofs.gcm.dp_gcm_open.Goals as goal

-- the body is that of the text that was found
found : (c : goal.After-drop-text) → c.args.body.now ≡ sealed (aes_cipher c.args.key.now) c.args.nonce.now c.args.aad.now c.in-Ok-gcm_open.text.items
found c =
    let n = length c.args.body.now - 16 in
    let f = aes_cipher c.in-Ok.aes in
    let key : c.in-Ok.aes ≡ c.args.key.now = search rules in
    let end : c.copy_from_slice.new.self ≡ drop n c.args.body.now = search rules in
    let front : take n c.args.body.now ≡ ctr f c.args.nonce.now c.in-Ok-gcm_open.text.items = search rules in
    let same : c.copy_from_slice.new.self ≡ gcm_tag f c.args.nonce.now c.args.aad.now (take n c.args.body.now) =
    no_other _ _ (λ differs. let wrong = c.in-Ok-gcm_open.ensures.bad_tag.1 (λ e. differs (e ∙ ap (gcm_tag f c.args.nonce.now c.args.aad.now) c.split_at.ensures.front)) in search rules) in
    let whole = sealed-parts f c.args.nonce.now c.args.aad.now c.in-Ok-gcm_open.text.items c.args.body.now n front (sym end ∙ same) in
    whole ∙ rw key refl

pub returns-in-Ok-gcm_open-clause-done : goal.returns-in-Ok-gcm_open-clause-done
returns-in-Ok-gcm_open-clause-done c =
    let whole = found c in
    let told : c.deref.result.now ≡ c.in-Ok-gcm_open.text.items = search rules in
    λ done. ((c.hand_out.ensures.bytes done).0, whole ∙ rw ((c.hand_out.ensures.bytes done).1, told) refl)

pub returns-in-Ok-gcm_open-clause-no_room : goal.returns-in-Ok-gcm_open-clause-no_room
returns-in-Ok-gcm_open-clause-no_room c =
    let told : c.deref.result.now ≡ c.in-Ok-gcm_open.text.items = search rules in
    λ full. (c.in-Ok-gcm_open.text.items, search rules, found c)

pub returns-in-Ok-gcm_open-clause-only : goal.returns-in-Ok-gcm_open-clause-only
returns-in-Ok-gcm_open-clause-only c text sized fits is =
    let f = aes_cipher c.args.key.now in
    let full = length-gcm_tag c.args.key.now c.args.nonce.now c.args.aad.now (ctr f c.args.nonce.now text) c.told-nonce c.fits-nonce in
    let front = front-sealed f c.args.nonce.now c.args.aad.now text c.args.body.now full is in
    let tag = tag-sealed f c.args.nonce.now c.args.aad.now text c.args.body.now full is in
    let key : c.in-Ok.aes ≡ c.args.key.now = search rules in
    let end : c.copy_from_slice.new.self ≡ drop (length c.args.body.now - 16) c.args.body.now = search rules in
    let same : c.in-Ok-gcm_open.text.items ≡ text = c.in-Ok-gcm_open.ensures.only text (c.split_at.ensures.front ∙ rw key front) (end ∙ rw (key, c.split_at.ensures.front) tag) in
    search rules

pub returns-in-Err-BadTag-clause-only : goal.returns-in-Err-BadTag-clause-only
returns-in-Err-BadTag-clause-only c text sized fits is =
    let f = aes_cipher c.args.key.now in
    let full = length-gcm_tag c.args.key.now c.args.nonce.now c.args.aad.now (ctr f c.args.nonce.now text) c.told-nonce c.fits-nonce in
    let tag = tag-sealed f c.args.nonce.now c.args.aad.now text c.args.body.now full is in
    let key : c.in-Ok.aes ≡ c.args.key.now = search rules in
    let end : c.copy_from_slice.new.self ≡ drop (length c.args.body.now - 16) c.args.body.now = search rules in
    absurd (c.in-Err-BadTag.ensures.bad_tag.0 (ap Err c.in-Err-BadTag.field-0-is) (end ∙ rw (key, c.split_at.ensures.front) tag))
