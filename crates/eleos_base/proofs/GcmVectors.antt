-- Test case 2 of the GCM specification of McGrew and Viega: one zero block under the zero key.
use Rattle.std.proofs.Common.{◌≡◌, [], ◌∷◌, replicate, refl}
use Rattle.eleos_base.specs.ByteField.{product, power, inverse}
use Rattle.eleos_base.specs.SBox.{affine, s_box}
use Rattle.eleos_base.specs.AesState.{sub_bytes, shift_rows, mix_row, mix_columns, add_round_key}
use Rattle.eleos_base.specs.AesKey.{word_change, first_words}
use Rattle.eleos_base.specs.AesCipher.{rounds, aes}
use Rattle.eleos_base.specs.BlockField as block_field
use Rattle.eleos_base.specs.BlockField.{number_of, block_of, reduction, times_x, where_set, times_bits, one}
use Rattle.eleos_base.specs.Ghash.{blocks, sum_of_powers, ghash}
use Rattle.eleos_base.specs.Gcm.{inc32, gctr_blocks, gctr, hash_subkey, pre_counter, ciphertext_of, tag_of}

pub ciphertext_vector : ciphertext_of (replicate 16 0) (replicate 12 0) (replicate 16 0)
    ≡ 0x03 ∷ 0x88 ∷ 0xda ∷ 0xce ∷ 0x60 ∷ 0xb6 ∷ 0xa3 ∷ 0x92 ∷ 0xf3 ∷ 0x28 ∷ 0xc2 ∷ 0xb9 ∷ 0x71 ∷ 0xb2 ∷ 0xfe ∷ 0x78 ∷ []
unfolding product power inverse affine s_box sub_bytes shift_rows mix_row mix_columns add_round_key word_change first_words rounds aes inc32 gctr_blocks gctr pre_counter ciphertext_of
ciphertext_vector = refl

pub tag_vector : tag_of (replicate 16 0) (replicate 12 0) []
    (0x03 ∷ 0x88 ∷ 0xda ∷ 0xce ∷ 0x60 ∷ 0xb6 ∷ 0xa3 ∷ 0x92 ∷ 0xf3 ∷ 0x28 ∷ 0xc2 ∷ 0xb9 ∷ 0x71 ∷ 0xb2 ∷ 0xfe ∷ 0x78 ∷ [])
    ≡ 0xab ∷ 0x6e ∷ 0x47 ∷ 0xd4 ∷ 0x2c ∷ 0xec ∷ 0x13 ∷ 0xbd ∷ 0xf5 ∷ 0x3a ∷ 0x67 ∷ 0xb2 ∷ 0x12 ∷ 0x57 ∷ 0xbd ∷ 0xdf ∷ []
unfolding product power inverse affine s_box sub_bytes shift_rows mix_row mix_columns add_round_key word_change first_words rounds aes number_of block_of block_field.product reduction times_x where_set times_bits one block_field.power blocks sum_of_powers ghash gctr_blocks gctr hash_subkey pre_counter tag_of
tag_vector = refl
