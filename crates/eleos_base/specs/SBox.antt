-- The substitution of bytes by the S-box of AES (FIPS 197, 5.1.1).
use Rattle.std.specs.Prelude.{ℕ, ◌+◌, ◌*◌, ◌%◌}
use Rattle.std.specs.Int.{bit_at}
use Rattle.eleos_base.specs.ByteField.{inverse}

-- bit k of the affine transformation of a byte, whose constant is 01100011 (5.1.1)
abbrev pub affine_bit : ℕ → ℕ → ℕ
affine_bit b k =
    (bit_at b k + bit_at b ((k + 4) % 8) + bit_at b ((k + 5) % 8) + bit_at b ((k + 6) % 8)
    + bit_at b ((k + 7) % 8) + bit_at 0x63 k) % 2

-- the affine transformation of a byte (5.1.1)
unfoldable pub affine : ℕ → ℕ
affine b =
    affine_bit b 0 + 2 * affine_bit b 1 + 4 * affine_bit b 2 + 8 * affine_bit b 3
    + 16 * affine_bit b 4 + 32 * affine_bit b 5 + 64 * affine_bit b 6 + 128 * affine_bit b 7

-- the S-box (5.1.1)
unfoldable pub s_box : ℕ → ℕ
s_box b = affine (inverse b)
