-- A bit as a mask, and a step of the product.
use Rattle.std.proofs.Common.{◌≡◌, ℕ, zero, suc, ◌+◌, ◌-◌, ◌%◌, ◌^◌, ◌<◌, bit_and, bit_xor, ◌∙◌, arith}
use Rattle.std.proofs.lemmas.Nat.{and_comm, and_mask}
use Rattle.std.specs.Int.{bit_at}
use Rattle.std.specs.Int.Bits.{xor_assoc}
use Rattle.eleos_base.specs.BlockField.{where_set, times_x, times_bits}

-- a block under a mask of 128 times one bit is the block where that bit is 1, and else 0
pub masked : (bit v : ℕ) → bit < 2 → v < 2 ^ 128 → bit_and v ((0 + (2 ^ 128 - bit)) % 2 ^ 128) ≡ where_set bit v
unfolding where_set
masked zero v below fits = and_comm v 0
masked (suc zero) v below fits = and_mask v 128 ∙ omega arith
masked (suc (suc bit)) v below fits = absurd (omega arith)

pub product_step : (n u shifted sum whole : ℕ) → bit_xor sum (times_bits (suc n) u shifted) ≡ whole
    → bit_xor (bit_xor sum (where_set (bit_at u n) shifted)) (times_bits n u (times_x shifted)) ≡ whole
unfolding times_bits
product_step n u shifted sum whole is =
    xor_assoc sum (where_set (bit_at u n) shifted) (times_bits n u (times_x shifted)) ∙ is
