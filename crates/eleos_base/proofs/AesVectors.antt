-- Vectors of FIPS 197, so that a wrong constant or step in a definition is refused.
use Rattle.std.proofs.Common.{◌≡◌, [], ◌∷◌, refl}
use Rattle.eleos_base.specs.ByteField.{product, power, inverse}
use Rattle.eleos_base.specs.SBox.{affine, s_box}
use Rattle.eleos_base.specs.AesState.{sub_bytes, shift_rows, mix_row, mix_columns, add_round_key}
use Rattle.eleos_base.specs.AesKey.{word_change, first_words}
use Rattle.eleos_base.specs.AesCipher.{rounds, aes}

-- 4.2
pub product_vector : product 0x57 0x13 ≡ 0xfe
unfolding product
product_vector = refl

-- 5.1.1
pub s_box_vector : s_box 0x53 ≡ 0xed
unfolding product power inverse affine s_box
s_box_vector = refl

-- appendix B
pub aes_128_vector : aes
    (0x2b ∷ 0x7e ∷ 0x15 ∷ 0x16 ∷ 0x28 ∷ 0xae ∷ 0xd2 ∷ 0xa6 ∷ 0xab ∷ 0xf7 ∷ 0x15 ∷ 0x88 ∷ 0x09 ∷ 0xcf ∷ 0x4f ∷ 0x3c ∷ [])
    (0x32 ∷ 0x43 ∷ 0xf6 ∷ 0xa8 ∷ 0x88 ∷ 0x5a ∷ 0x30 ∷ 0x8d ∷ 0x31 ∷ 0x31 ∷ 0x98 ∷ 0xa2 ∷ 0xe0 ∷ 0x37 ∷ 0x07 ∷ 0x34 ∷ [])
    ≡ 0x39 ∷ 0x25 ∷ 0x84 ∷ 0x1d ∷ 0x02 ∷ 0xdc ∷ 0x09 ∷ 0xfb ∷ 0xdc ∷ 0x11 ∷ 0x85 ∷ 0x97 ∷ 0x19 ∷ 0x6a ∷ 0x0b ∷ 0x32 ∷ []
unfolding product power inverse affine s_box sub_bytes shift_rows mix_row mix_columns add_round_key word_change first_words rounds aes
aes_128_vector = refl
