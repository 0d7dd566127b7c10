-- Bytes as elements of GF(2^8) (FIPS 197, 4). A byte is a number below 256 whose bits are the
-- coefficients of a polynomial, the sum of two bytes is their bit_xor (4.1), and section numbers are the
-- standard's.
use Rattle.std.specs.Prelude.{ℕ, zero, suc, ◌*◌, ◌/◌, ◌%◌, ◌==◌, if◌then◌else◌, bit_xor}
use Rattle.std.specs.Int.{w8, rotate_left}

-- x times a byte, less x^8 + x^4 + x^3 + x + 1 where it has an x^8 (4.2)
unfoldable pub xtime : ℕ → ℕ
xtime b = bit_xor (2 * b) (b / 128 * 0x11B)

-- the lowest n bits of a byte, as a polynomial, times another byte (4.2)
unfoldable pub times_bits : ℕ → ℕ → ℕ → ℕ
times_bits zero a b = 0
times_bits (suc n) a b = bit_xor (if a % 2 == 1 then b else 0) (times_bits n (a / 2) (xtime b))

-- the product of two bytes (4.2)
unfoldable pub times : ℕ → ℕ → ℕ
times a b = times_bits 8 a b

-- a byte to the power 2 + 4 + … + 2 ^ n
unfoldable pub even_power : ℕ → ℕ → ℕ
even_power zero b = 1
even_power (suc n) b = let square = times b b in times square (even_power n square)

-- the multiplicative inverse of a byte, which is its power 254, and 0 for 0 (4.4)
unfoldable pub inverse : ℕ → ℕ
inverse b = even_power 7 b

-- bit i is the sum of the bits i, i + 4, i + 5, i + 6 and i + 7, modulo 8, and of bit i of 63 (5.1.1)
unfoldable pub affine : ℕ → ℕ
affine b = bit_xor (bit_xor (bit_xor (bit_xor (bit_xor b (rotate_left w8 b 4)) (rotate_left w8 b 3))
    (rotate_left w8 b 2)) (rotate_left w8 b 1)) 0x63

-- the S-box (5.1.1)
unfoldable pub sub_byte : ℕ → ℕ
sub_byte b = affine (inverse b)

-- the inverse of the affine map, which the standard leaves to the reader: bit i is the sum of the bits
-- i + 2, i + 5 and i + 7, modulo 8, and of bit i of 05. It is derived, and pinned by the laws
-- `inv_sub_byte-sub_byte` and `sub_byte-inv_sub_byte`
unfoldable pub inv_affine : ℕ → ℕ
inv_affine b = bit_xor (bit_xor (bit_xor (rotate_left w8 b 6) (rotate_left w8 b 3)) (rotate_left w8 b 1)) 0x05

-- the inverse S-box (5.3.2)
unfoldable pub inv_sub_byte : ℕ → ℕ
inv_sub_byte b = inverse (inv_affine b)
