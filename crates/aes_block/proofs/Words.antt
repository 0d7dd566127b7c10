-- Words as lists of four bytes: their sums, and the sums of the words that tables list.
use Rattle.std.proofs.Common.{◌≡◌, ℕ, ◌+◌, ◌*◌, ◌/◌, ◌%◌, ◌^◌, ◌<◌, List, [], ◌∷◌, ◌++◌, slice_index, refl, sym, ap, ◌∙◌}
use Rattle.std.specs.Prelude.{bit_xor}
use Rattle.std.specs.Int.{w32, from_be_bytes, to_be_bytes}
use Rattle.std.proofs.lemmas.Nat.{be_bytes_4, xor_comm, xor_mod, xor_shr}
use Rattle.dp_base.specs.Blocks.{xor_bytes}
use Rattle.aes_block.specs.Cipher.{add_round_key}
use Rattle.aes_block.specs.Columns.{column_product, products_word, state_bytes}
use Rattle.aes_block.specs.Field.{times}
use Rattle.aes_block.specs.Laws.Bytes.{AreBytes-four}
use Rattle.aes_block.specs.Laws.Columns.{sum4_turn}
use Rattle.aes_block.specs.Laws.Products.{times-lt}

-- the bytes of a sum are the sums of the bytes
pub to_be_bytes-xor : (x y : ℕ) → to_be_bytes w32 (bit_xor x y) ≡ xor_bytes (to_be_bytes w32 x) (to_be_bytes w32 y)
to_be_bytes-xor x y =
    let shifted : (k : ℕ) → bit_xor x y / 2 ^ k % 2 ^ 8 ≡ bit_xor (x / 2 ^ k % 2 ^ 8) (y / 2 ^ k % 2 ^ 8) =
    λ k. ap (λ (z : ℕ). z % 2 ^ 8) (xor_shr x y k) ∙ xor_mod (x / 2 ^ k) (y / 2 ^ k) 8 in
    λ i. shifted 24 i ∷ shifted 16 i ∷ shifted 8 i ∷ xor_mod x y 8 i ∷ []

-- the word of four bytes has these bytes
pub to_be_bytes-four : (a b c d : ℕ) → a < 256 → b < 256 → c < 256 → d < 256
    → to_be_bytes w32 (from_be_bytes w32 (a ∷ b ∷ c ∷ d ∷ [])) ≡ a ∷ b ∷ c ∷ d ∷ []
to_be_bytes-four a b c d ha hb hc hd =
    be_bytes_4 (a ∷ b ∷ c ∷ d ∷ []) (from_be_bytes w32 (a ∷ b ∷ c ∷ d ∷ [])) refl (AreBytes-four a b c d ha hb hc hd) refl

to_be_bytes-products : (a b c d x : ℕ) → x < 256 → to_be_bytes w32 (products_word a b c d x) ≡ times a x ∷ times b x ∷ times c x ∷ times d x ∷ []
to_be_bytes-products a b c d x h =
    to_be_bytes-four (times a x) (times b x) (times c x) (times d x) (times-lt a x h) (times-lt b x h) (times-lt c x h) (times-lt d x h)

-- the words of four tables make the product of a column
in_order : (a0 a1 a2 a3 x y z t : ℕ) → x < 256 → y < 256 → z < 256 → t < 256
    → to_be_bytes w32 (bit_xor (bit_xor (products_word a0 a1 a2 a3 x) (products_word a3 a0 a1 a2 y)) (bit_xor (products_word a2 a3 a0 a1 z) (products_word a1 a2 a3 a0 t)))
    ≡ column_product a0 a1 a2 a3 (x ∷ y ∷ z ∷ t ∷ [])
in_order a0 a1 a2 a3 x y z t hx hy hz ht =
    let p : ℕ → ℕ → ℕ = times in
    let px = products_word a0 a1 a2 a3 x in
    let py = products_word a3 a0 a1 a2 y in
    let pz = products_word a2 a3 a0 a1 z in
    let pt = products_word a1 a2 a3 a0 t in
    to_be_bytes-xor (bit_xor px py) (bit_xor pz pt)
    ∙ (λ i. xor_bytes (to_be_bytes-xor px py i) (to_be_bytes-xor pz pt i))
    ∙ (λ i. xor_bytes
    (xor_bytes (to_be_bytes-products a0 a1 a2 a3 x hx i) (to_be_bytes-products a3 a0 a1 a2 y hy i))
    (xor_bytes (to_be_bytes-products a2 a3 a0 a1 z hz i) (to_be_bytes-products a1 a2 a3 a0 t ht i)))
    ∙ (λ i. bit_xor (bit_xor (p a0 x) (p a3 y)) (bit_xor (p a2 z) (p a1 t))
    ∷ sum4_turn (p a1 x) (p a0 y) (p a3 z) (p a2 t) i
    ∷ (sum4_turn (p a2 x) (p a1 y) (p a0 z) (p a3 t) ∙ sum4_turn (p a1 y) (p a0 z) (p a3 t) (p a2 x)) i
    ∷ sym (sum4_turn (p a0 t) (p a3 x) (p a2 y) (p a1 z)) i ∷ [])

-- and so they do from the last one on
pub column_by_table : (a0 a1 a2 a3 x y z t : ℕ) → x < 256 → y < 256 → z < 256 → t < 256
    → to_be_bytes w32 (bit_xor (bit_xor (products_word a1 a2 a3 a0 t) (products_word a2 a3 a0 a1 z)) (bit_xor (products_word a3 a0 a1 a2 y) (products_word a0 a1 a2 a3 x)))
    ≡ column_product a0 a1 a2 a3 (x ∷ y ∷ z ∷ t ∷ [])
column_by_table a0 a1 a2 a3 x y z t hx hy hz ht =
    let px = products_word a0 a1 a2 a3 x in
    let py = products_word a3 a0 a1 a2 y in
    let pz = products_word a2 a3 a0 a1 z in
    let pt = products_word a1 a2 a3 a0 t in
    ap (to_be_bytes w32) (xor_comm (bit_xor pt pz) (bit_xor py px) ∙ (λ i. bit_xor (xor_comm py px i) (xor_comm pt pz i)))
    ∙ in_order a0 a1 a2 a3 x y z t hx hy hz ht

-- the sums of four words with those of a round key
pub state_bytes-xor : (a b c d : ℕ) (w : List ℕ) (r : ℕ)
    → state_bytes (bit_xor a (slice_index w (4 * r)) ∷ bit_xor b (slice_index w (4 * r + 1)) ∷ bit_xor c (slice_index w (4 * r + 2)) ∷ bit_xor d (slice_index w (4 * r + 3)) ∷ [])
    ≡ add_round_key (to_be_bytes w32 a ++ to_be_bytes w32 b ++ to_be_bytes w32 c ++ to_be_bytes w32 d) w r
unfolding add_round_key
state_bytes-xor a b c d w r =
    λ i. to_be_bytes-xor a (slice_index w (4 * r)) i ++ to_be_bytes-xor b (slice_index w (4 * r + 1)) i
    ++ to_be_bytes-xor c (slice_index w (4 * r + 2)) i ++ to_be_bytes-xor d (slice_index w (4 * r + 3)) i
