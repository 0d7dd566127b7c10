use Rattle.std.proofs.Common.{◌≡◌, ◌++◌, length, take, refl, ap, ◌∙◌, arith}
use Rattle.context_header.proofs.header.write_gcm.Goals as goal

pub returns : goal.returns
returns c =
    let front = c.front.ensures in
    let front_len : length c.front.result ≡ 18 = ap length front in
    let tag_len : length c.gcm_tag-tag.result ≡ 16 = omega arith in
    let first : take 18 c.put.new.bytes ≡ c.front.result = rw front_len at c.put.ensures in
    let second : take 34 c.put-2.new.bytes ≡ take 18 c.put.new.bytes ++ c.gcm_tag-tag.result = rw tag_len at c.put-2.ensures in
    second ∙ rw (first, front, c.gcm_tag-tag.ensures, c.cipher.ensures) refl
