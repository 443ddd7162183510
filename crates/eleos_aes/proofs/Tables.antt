-- The table of the code holds the definition's values.
use Rattle.std.proofs.Common.{◌≡◌, ℕ, ◌<◌, true, slice_index, refl}
use Rattle.eleos_base.specs.ByteField.{product, power}
use Rattle.eleos_base.proofs.Tables.{agree, agree_at}
use Rattle.eleos_aes.specs.declared.words.TheConstants.{POWERS}

table_is_power : agree (λ j. slice_index POWERS j) (power 2) 10 ≡ true
unfolding product power
table_is_power = refl

-- entry j of the table is 2 to the power j in the field of bytes
pub power_at : (j : ℕ) → j < 10 → slice_index POWERS j ≡ power 2 j
power_at = agree_at (λ j. slice_index POWERS j) (power 2) 10 table_is_power
