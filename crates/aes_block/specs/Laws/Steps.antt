-- Each step of the cipher keeps a block a block, and is undone by its inverse step.
use Rattle.std.proofs.Common.{◌≡◌, ℕ, ◌+◌, ◌-◌, ◌*◌, ◌%◌, ◌/◌, ◌<◌, List, [], ◌∷◌, ◌++◌, map, slice_index, refl, sym, ap, ◌∙◌, arith}
use Rattle.std.specs.Prelude.{bit_xor}
use Rattle.std.proofs.lemmas.List.{length-map}
use Rattle.std.specs.Int.{w32, to_be_bytes}
use Rattle.std.specs.List.{range_with_len}
use Rattle.dp_base.specs.Blocks.{AreBytes, IsBlock, xor_bytes}
use Rattle.aes_block.specs.Field.{xtime, times_bits, times, even_power, inverse, affine, sub_byte, inv_affine, inv_sub_byte}
use Rattle.aes_block.specs.Cipher.{state_byte, product_at, state_of, sub_bytes, shift_rows, mix_columns, round_key, add_round_key, inv_shift_rows, inv_sub_bytes, inv_mix_columns}
use Rattle.dp_base.proofs.Parts.{AreBytes-append}
use Rattle.dp_base.proofs.Sums.{IsBlock-xor, xor_bytes-twice}
use Rattle.aes_block.specs.Laws.Bytes.{AreBytes-map, AreBytes-map_all, AreBytes-to_be_bytes, listed, map-map}
use Rattle.aes_block.specs.Laws.Columns.{Undoes, first_of, first_of-first_of, first_of-lt, first_of-xor, remixes, unmixes}
use Rattle.aes_block.specs.Laws.Tables.{same_in_table}

-- ---- SubBytes

-- tests over all 256 bytes
pub inv_sub_byte-sub_byte : (b : ℕ) → b < 256 → inv_sub_byte (sub_byte b) ≡ b
unfolding xtime times_bits times even_power inverse affine sub_byte inv_affine inv_sub_byte
inv_sub_byte-sub_byte b h = same_in_table (λ b. inv_sub_byte (sub_byte b)) (λ b. b) 256 refl b h

sub_byte-inv_sub_byte : (b : ℕ) → b < 256 → sub_byte (inv_sub_byte b) ≡ b
unfolding xtime times_bits times even_power inverse affine sub_byte inv_affine inv_sub_byte
sub_byte-inv_sub_byte b h = same_in_table (λ b. sub_byte (inv_sub_byte b)) (λ b. b) 256 refl b h

sub_byte-high : (b : ℕ) → b < 256 → sub_byte b / 256 ≡ 0
unfolding xtime times_bits times even_power inverse affine sub_byte
sub_byte-high b h = same_in_table (λ b. sub_byte b / 256) (λ b. 0) 256 refl b h

inv_sub_byte-high : (b : ℕ) → b < 256 → inv_sub_byte b / 256 ≡ 0
unfolding xtime times_bits times even_power inverse inv_affine inv_sub_byte
inv_sub_byte-high b h = same_in_table (λ b. inv_sub_byte b / 256) (λ b. 0) 256 refl b h

pub sub_byte-lt : (b : ℕ) → b < 256 → sub_byte b < 256
sub_byte-lt b h = omega (arith, sub_byte-high b h)

pub inv_sub_byte-lt : (b : ℕ) → b < 256 → inv_sub_byte b < 256
inv_sub_byte-lt b h = omega (arith, inv_sub_byte-high b h)

pub IsBlock-sub_bytes : (s : List ℕ) → IsBlock s → IsBlock (sub_bytes s)
unfolding sub_bytes
IsBlock-sub_bytes s h = (length-map s sub_byte ∙ h.0, AreBytes-map sub_byte sub_byte-lt s h.1)

pub IsBlock-inv_sub_bytes : (s : List ℕ) → IsBlock s → IsBlock (inv_sub_bytes s)
unfolding inv_sub_bytes
IsBlock-inv_sub_bytes s h =
    (length-map s inv_sub_byte ∙ h.0, AreBytes-map inv_sub_byte inv_sub_byte-lt s h.1)

pub inv_sub_bytes-sub_bytes : (s : List ℕ) → IsBlock s → inv_sub_bytes (sub_bytes s) ≡ s
unfolding sub_bytes inv_sub_bytes
inv_sub_bytes-sub_bytes s h = map-map sub_byte inv_sub_byte inv_sub_byte-sub_byte s h.1

pub sub_bytes-inv_sub_bytes : (s : List ℕ) → IsBlock s → sub_bytes (inv_sub_bytes s) ≡ s
unfolding sub_bytes inv_sub_bytes
sub_bytes-inv_sub_bytes s h = map-map inv_sub_byte sub_byte sub_byte-inv_sub_byte s h.1

-- ---- ShiftRows

-- all places of a state of bytes are bytes
IsBlock-state_of : (f : ℕ → ℕ → ℕ) → ((r c : ℕ) → f r c < 256) → IsBlock (state_of f)
IsBlock-state_of f h = (refl, AreBytes-map_all (λ i. f (i % 4) (i / 4)) (λ i. h (i % 4) (i / 4)) (range_with_len 0 16))

pub IsBlock-shift_rows : (s : List ℕ) → IsBlock s → IsBlock (shift_rows s)
unfolding shift_rows
IsBlock-shift_rows s h = IsBlock-state_of (λ r c. state_byte s r ((c + r) % 4)) (λ r c. h.1 (r + 4 * ((c + r) % 4)))

pub IsBlock-inv_shift_rows : (s : List ℕ) → IsBlock s → IsBlock (inv_shift_rows s)
unfolding inv_shift_rows
IsBlock-inv_shift_rows s h = IsBlock-state_of (λ r c. state_byte s r ((c + 4 - r) % 4)) (λ r c. h.1 (r + 4 * ((c + 4 - r) % 4)))

pub inv_shift_rows-shift_rows : (s : List ℕ) → IsBlock s → inv_shift_rows (shift_rows s) ≡ s
unfolding shift_rows inv_shift_rows
inv_shift_rows-shift_rows s h = listed 16 s h.0

pub shift_rows-inv_shift_rows : (s : List ℕ) → IsBlock s → shift_rows (inv_shift_rows s) ≡ s
unfolding shift_rows inv_shift_rows
shift_rows-inv_shift_rows s h = listed 16 s h.0

-- ---- MixColumns

IsBlock-products : (p0 p1 p2 p3 : ℕ) (s : List ℕ) → IsBlock s → IsBlock (state_of (product_at p0 p1 p2 p3 s))
IsBlock-products p0 p1 p2 p3 s h =
    IsBlock-state_of (product_at p0 p1 p2 p3 s) (λ r c.
    first_of-lt p0 p3 p2 p1 (state_byte s r c) (state_byte s ((r + 1) % 4) c) (state_byte s ((r + 2) % 4) c) (state_byte s ((r + 3) % 4) c)
    (h.1 (r + 4 * c)) (h.1 ((r + 1) % 4 + 4 * c)) (h.1 ((r + 2) % 4 + 4 * c)) (h.1 ((r + 3) % 4 + 4 * c)))

-- the products with p of the products with q, over all columns
products-products : (p0 p1 p2 p3 q0 q1 q2 q3 : ℕ) → Undoes p0 p3 p2 p1 q0 q3 q2 q1 → (s : List ℕ) → IsBlock s
    → state_of (product_at p0 p1 p2 p3 (state_of (product_at q0 q1 q2 q3 s))) ≡ s
products-products p0 p1 p2 p3 q0 q1 q2 q3 u s h =
    let at : ℕ → ℕ = λ i. slice_index s i in
    let one : (i j k l : ℕ) → first_of p0 p3 p2 p1 (first_of q0 q3 q2 q1 (at i) (at j) (at k) (at l)) (first_of q0 q3 q2 q1 (at j) (at k) (at l) (at i))
    (first_of q0 q3 q2 q1 (at k) (at l) (at i) (at j)) (first_of q0 q3 q2 q1 (at l) (at i) (at j) (at k)) ≡ at i =
    λ i j k l. first_of-first_of p0 p3 p2 p1 q0 q3 q2 q1 u (at i) (at j) (at k) (at l) (h.1 i) (h.1 j) (h.1 k) (h.1 l) in
    (λ i.
    one 0 1 2 3 i ∷ one 1 2 3 0 i ∷ one 2 3 0 1 i ∷ one 3 0 1 2 i
    ∷ one 4 5 6 7 i ∷ one 5 6 7 4 i ∷ one 6 7 4 5 i ∷ one 7 4 5 6 i
    ∷ one 8 9 10 11 i ∷ one 9 10 11 8 i ∷ one 10 11 8 9 i ∷ one 11 8 9 10 i
    ∷ one 12 13 14 15 i ∷ one 13 14 15 12 i ∷ one 14 15 12 13 i ∷ one 15 12 13 14 i ∷ [])
    ∙ listed 16 s h.0

pub IsBlock-mix_columns : (s : List ℕ) → IsBlock s → IsBlock (mix_columns s)
unfolding mix_columns
IsBlock-mix_columns s h = IsBlock-products 2 1 1 3 s h

pub IsBlock-inv_mix_columns : (s : List ℕ) → IsBlock s → IsBlock (inv_mix_columns s)
unfolding inv_mix_columns
IsBlock-inv_mix_columns s h = IsBlock-products 14 9 13 11 s h

pub inv_mix_columns-mix_columns : (s : List ℕ) → IsBlock s → inv_mix_columns (mix_columns s) ≡ s
unfolding mix_columns inv_mix_columns
inv_mix_columns-mix_columns s h = products-products 14 9 13 11 2 1 1 3 unmixes s h

pub mix_columns-inv_mix_columns : (s : List ℕ) → IsBlock s → mix_columns (inv_mix_columns s) ≡ s
unfolding mix_columns inv_mix_columns
mix_columns-inv_mix_columns s h = products-products 2 1 1 3 14 9 13 11 remixes s h

-- the two steps of the inverse cipher change places (5.3.5)
pub inv_sub_bytes-inv_shift_rows : (s : List ℕ) → IsBlock s → inv_sub_bytes (inv_shift_rows s) ≡ inv_shift_rows (inv_sub_bytes s)
unfolding inv_sub_bytes inv_shift_rows
inv_sub_bytes-inv_shift_rows s h = ap (λ (t : List ℕ). inv_shift_rows (inv_sub_bytes t)) (listed 16 s h.0)

-- InvMixColumns is linear (5.3.5)
pub inv_mix_columns-xor_bytes : (s t : List ℕ) → IsBlock s → IsBlock t → inv_mix_columns (xor_bytes s t) ≡ xor_bytes (inv_mix_columns s) (inv_mix_columns t)
unfolding inv_mix_columns
inv_mix_columns-xor_bytes s t h g =
    let a : ℕ → ℕ = λ i. slice_index s i in
    let b : ℕ → ℕ = λ i. slice_index t i in
    let one : (i j k l : ℕ) → first_of 14 11 13 9 (bit_xor (a i) (b i)) (bit_xor (a j) (b j)) (bit_xor (a k) (b k)) (bit_xor (a l) (b l))
    ≡ bit_xor (first_of 14 11 13 9 (a i) (a j) (a k) (a l)) (first_of 14 11 13 9 (b i) (b j) (b k) (b l)) =
    λ i j k l. first_of-xor 14 11 13 9 (a i) (a j) (a k) (a l) (b i) (b j) (b k) (b l)
    (h.1 i) (h.1 j) (h.1 k) (h.1 l) (g.1 i) (g.1 j) (g.1 k) (g.1 l) in
    ap (λ (x : List ℕ). inv_mix_columns (xor_bytes x t)) (sym (listed 16 s h.0))
    ∙ ap (λ (x : List ℕ). inv_mix_columns (xor_bytes (map a (range_with_len 0 16)) x)) (sym (listed 16 t g.0))
    ∙ (λ i.
    one 0 1 2 3 i ∷ one 1 2 3 0 i ∷ one 2 3 0 1 i ∷ one 3 0 1 2 i
    ∷ one 4 5 6 7 i ∷ one 5 6 7 4 i ∷ one 6 7 4 5 i ∷ one 7 4 5 6 i
    ∷ one 8 9 10 11 i ∷ one 9 10 11 8 i ∷ one 10 11 8 9 i ∷ one 11 8 9 10 i
    ∷ one 12 13 14 15 i ∷ one 13 14 15 12 i ∷ one 14 15 12 13 i ∷ one 15 12 13 14 i ∷ [])
    ∙ ap (λ (x : List ℕ). xor_bytes (inv_mix_columns x) (inv_mix_columns (map b (range_with_len 0 16)))) (listed 16 s h.0)
    ∙ ap (λ (x : List ℕ). xor_bytes (inv_mix_columns s) (inv_mix_columns x)) (listed 16 t g.0)

-- ---- AddRoundKey

pub IsBlock-round_key : (w : List ℕ) (r : ℕ) → IsBlock (round_key w r)
IsBlock-round_key w r =
    let word : ℕ → List ℕ = λ i. to_be_bytes w32 (slice_index w i) in
    let bytes : (i : ℕ) → AreBytes (word i) = λ i. AreBytes-to_be_bytes (slice_index w i) in
    let two = AreBytes-append (word (4 * r)) (word (4 * r + 1)) (bytes (4 * r)) (bytes (4 * r + 1)) in
    let three = AreBytes-append (word (4 * r) ++ word (4 * r + 1)) (word (4 * r + 2)) two (bytes (4 * r + 2)) in
    (refl, AreBytes-append (word (4 * r) ++ word (4 * r + 1) ++ word (4 * r + 2)) (word (4 * r + 3)) three (bytes (4 * r + 3)))

pub IsBlock-add_round_key : (s w : List ℕ) (r : ℕ) → IsBlock s → IsBlock (add_round_key s w r)
unfolding add_round_key
IsBlock-add_round_key s w r h = IsBlock-xor s (round_key w r) h (IsBlock-round_key w r)

pub add_round_key-add_round_key : (s w : List ℕ) (r : ℕ) → IsBlock s → add_round_key (add_round_key s w r) w r ≡ s
unfolding add_round_key
add_round_key-add_round_key s w r h = xor_bytes-twice s (round_key w r) h.0
