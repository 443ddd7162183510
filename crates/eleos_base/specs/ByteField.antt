-- The field GF(2^8) of AES (FIPS 197). A byte is the polynomial whose coefficients are its bits.
use Rattle.std.specs.Prelude.{ℕ, zero, suc, ◌*◌, ◌/◌, ◌%◌, cond, eqb, ltb, bit_xor}

-- b times x, modulo x^8 + x^4 + x^3 + x + 1 (4.2)
abbrev pub times_x : ℕ → ℕ
times_x b = cond (ltb b 128) (2 * b) (bit_xor (2 * b) 0x11b)

-- b times the polynomial of the n lowest bits of c (4.2)
abbrev pub times_bits : ℕ → ℕ → ℕ → ℕ
times_bits zero b c = 0
times_bits (suc n) b c = bit_xor (cond (eqb (c % 2) 1) b 0) (times_bits n (times_x b) (c / 2))

-- the product of two bytes (4.2)
unfoldable pub product : ℕ → ℕ → ℕ
product b c = times_bits 8 b c

-- b to the power n
unfoldable pub power : ℕ → ℕ → ℕ
power b zero = 1
power b (suc n) = product b (power b n)

-- the inverse of a byte, and 0 of 0 (4.4)
unfoldable pub inverse : ℕ → ℕ
inverse b = power b 254
