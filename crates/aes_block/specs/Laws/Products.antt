-- The product of two bytes is a byte, and is linear in its second factor.
use Rattle.std.proofs.Common.{◌≡◌, ℕ, zero, suc, ◌+◌, ◌*◌, ◌/◌, ◌%◌, ◌<◌, ◌==◌, Bool, true, false, refl, sym, ap, ◌∙◌, arith, lit<}
use Rattle.std.specs.Prelude.{bit_xor, if◌then◌else◌}
use Rattle.std.proofs.lemmas.Nat.{xor_comm, xor_lt, xor_shr, xor_block}
use lib.Bits.{xor_assoc}
use Rattle.aes_block.specs.Field.{xtime, times_bits, times}
use Rattle.aes_block.specs.Laws.Tables.{same_in_table}

-- the two in the middle change places
pub xor_swap : (a b c d : ℕ) → bit_xor (bit_xor a b) (bit_xor c d) ≡ bit_xor (bit_xor a c) (bit_xor b d)
xor_swap a b c d =
    xor_assoc a b (bit_xor c d)
    ∙ ap (λ (x : ℕ). bit_xor a x) (sym (xor_assoc b c d) ∙ ap (λ (x : ℕ). bit_xor x d) (xor_comm b c) ∙ xor_assoc c b d)
    ∙ sym (xor_assoc a c (bit_xor b d))

double-xor : (a b : ℕ) → 2 * bit_xor a b ≡ bit_xor (2 * a) (2 * b)
double-xor a b =
    let ea : a * 2 + 0 ≡ 2 * a = omega arith in
    let eb : b * 2 + 0 ≡ 2 * b = omega arith in
    let block : bit_xor (a * 2 + 0) (b * 2 + 0) ≡ bit_xor a b * 2 + 0 = xor_block 1 a b 0 0 (lit< tt) (lit< tt) in
    let turned = rw (ea, eb) at block in
    omega (arith, turned)

bit_times-xor : (p q : ℕ) → p < 2 → q < 2 → bit_xor p q * 0x11B ≡ bit_xor (p * 0x11B) (q * 0x11B)
bit_times-xor zero q hp hq = refl
bit_times-xor (suc zero) zero hp hq = refl
bit_times-xor (suc zero) (suc zero) hp hq = refl
bit_times-xor (suc zero) (suc (suc q)) hp hq = absurd (omega arith)
bit_times-xor (suc (suc p)) q hp hq = absurd (omega arith)

pub xtime-xor : (a b : ℕ) → a < 256 → b < 256 → xtime (bit_xor a b) ≡ bit_xor (xtime a) (xtime b)
unfolding xtime
xtime-xor a b ha hb =
    let high : bit_xor a b / 128 ≡ bit_xor (a / 128) (b / 128) = xor_shr a b 7 in
    rw (double-xor a b, high, bit_times-xor (a / 128) (b / 128) (omega arith) (omega arith))
    (xor_swap (2 * a) (2 * b) (a / 128 * 0x11B) (b / 128 * 0x11B))

xtime-high : (b : ℕ) → b < 256 → xtime b / 256 ≡ 0
unfolding xtime
xtime-high b h = same_in_table (λ b. xtime b / 256) (λ b. 0) 256 refl b h

pub xtime-lt : (b : ℕ) → b < 256 → xtime b < 256
xtime-lt b h = omega (arith, xtime-high b h)

choice-xor : (t : Bool) (x y : ℕ) → (if t then bit_xor x y else 0) ≡ bit_xor (if t then x else 0) (if t then y else 0)
choice-xor true x y = refl
choice-xor false x y = refl

times_bits-xor : (n a x y : ℕ) → x < 256 → y < 256 → times_bits n a (bit_xor x y) ≡ bit_xor (times_bits n a x) (times_bits n a y)
unfolding times_bits
times_bits-xor zero a x y hx hy = refl
times_bits-xor (suc n) a x y hx hy =
    rw (choice-xor (a % 2 == 1) x y, xtime-xor x y hx hy, times_bits-xor n (a / 2) (xtime x) (xtime y) (xtime-lt x hx) (xtime-lt y hy))
    (xor_swap (if a % 2 == 1 then x else 0) (if a % 2 == 1 then y else 0) (times_bits n (a / 2) (xtime x)) (times_bits n (a / 2) (xtime y)))

choice-lt : (t : Bool) (x : ℕ) → x < 256 → (if t then x else 0) < 256
choice-lt true x h = h
choice-lt false x h = lit< tt

times_bits-lt : (n a x : ℕ) → x < 256 → times_bits n a x < 256
unfolding times_bits
times_bits-lt zero a x h = lit< tt
times_bits-lt (suc n) a x h = xor_lt 8 _ _ (choice-lt (a % 2 == 1) x h) (times_bits-lt n (a / 2) (xtime x) (xtime-lt x h))

pub times-xor : (a x y : ℕ) → x < 256 → y < 256 → times a (bit_xor x y) ≡ bit_xor (times a x) (times a y)
unfolding times
times-xor a x y hx hy = times_bits-xor 8 a x y hx hy

pub times-lt : (a x : ℕ) → x < 256 → times a x < 256
unfolding times
times-lt a x h = times_bits-lt 8 a x h
