-- The field GF(2^128) of GCM (SP 800-38D, 6.3). A block is a number below 2 ^ 128, whose highest
-- bit, the block's leftmost, is the coefficient of x^0.
use Rattle.std.specs.Prelude.{ℕ, zero, suc, ◌*◌, ◌/◌, ◌%◌, ◌^◌, cond, eqb, List, bit_xor}
use Rattle.std.specs.Int.{w128, bit_at, from_be_bytes, to_be_bytes}

-- a block of 16 bytes as a number, its leftmost byte the highest
unfoldable pub number_of : List ℕ → ℕ
number_of block = from_be_bytes w128 block

-- the 16 bytes of a block that is a number
unfoldable pub block_of : ℕ → List ℕ
block_of n = to_be_bytes w128 n

-- R: 11100001 and 120 zero bits (6.3)
unfoldable pub reduction : ℕ
reduction = 0xe1 * 2 ^ 120

-- v times x: shifted right by one bit, and plus R where a bit fell out (6.3, step 3)
unfoldable pub times_x : ℕ → ℕ
times_x v = cond (eqb (v % 2) 1) (bit_xor (v / 2) reduction) (v / 2)

-- v times x^n
unfoldable pub times_power_of_x : ℕ → ℕ → ℕ
times_power_of_x zero v = v
times_power_of_x (suc n) v = times_power_of_x n (times_x v)

-- v where a bit is 1, else 0
unfoldable pub where_set : ℕ → ℕ → ℕ
where_set bit v = cond (eqb bit 1) v 0

-- v times the n rightmost bits of u, the leftmost of which is the coefficient of x^0 (6.3)
unfoldable pub times_bits : ℕ → ℕ → ℕ → ℕ
times_bits zero u v = 0
times_bits (suc n) u v = bit_xor (where_set (bit_at u n) v) (times_bits n u (times_x v))

-- the product of two blocks (6.3)
unfoldable pub product : ℕ → ℕ → ℕ
product u v = times_bits 128 u v

-- the block 1: a one bit and 127 zero bits
unfoldable pub one : ℕ
one = 2 ^ 127

-- h to the power n
unfoldable pub power : ℕ → ℕ → ℕ
power h zero = one
power h (suc n) = product h (power h n)
