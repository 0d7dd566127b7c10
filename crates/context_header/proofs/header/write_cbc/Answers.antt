use Rattle.std.proofs.Common.{◌≡◌, ◌+◌, List, ℕ, [], ◌++◌, length, take, replicate, refl, ap, ◌∙◌, arith}
use Rattle.std.proofs.lemmas.List.{append-nil}
use Rattle.aes_block.specs.Cipher.{aes_cipher}
use Rattle.context_header.proofs.header.write_cbc.Goals as goal

-- three pieces that were written one behind the other
assembled : (whole most some front block value f b v : List ℕ) → whole ≡ most ++ value → most ≡ some ++ block → some ≡ front →
    front ≡ f → block ≡ b → value ≡ v → whole ≡ f ++ (b ++ []) ++ v
assembled whole most some front block value f b v p q r s t u = p ∙ rw (q, r, s, t, u, append-nil) refl

pub returns : goal.returns
returns g c =
    let front = rw c.size-digest.ensures at c.front.ensures in
    let front_len : length c.front.result ≡ 18 = ap length front in
    let block_len : length c.encrypt_block.new.block ≡ 16 = omega arith in
    let block = c.encrypt_block.ensures ∙ ap (λ (key : List ℕ). aes_cipher key (replicate 16 16)) c.cipher.ensures in
    let fed = c.finish.ensures c.validation.result.now [] c.new.ensures in
    let value_len : length c.finish.new.out ≡ g.P.Prf.value_len = ap length fed ∙ g.met.P.Prf.has_len c.validation.result.now [] in
    let value = fed ∙ ap (λ (key : List ℕ). g.P.Prf.value key []) c.validation.ensures in
    let first : take 18 c.put.new.bytes ≡ c.front.result = rw front_len at c.put.ensures in
    let second : take 34 c.put-2.new.bytes ≡ take 18 c.put.new.bytes ++ c.encrypt_block.new.block = rw block_len at c.put-2.ensures in
    let third : take (34 + g.P.Prf.value_len) c.put-3.new.bytes ≡ take 34 c.put-2.new.bytes ++ c.finish.new.out = rw value_len at c.put-3.ensures in
    assembled _ _ _ _ _ _ _ _ _ third second first front block value
