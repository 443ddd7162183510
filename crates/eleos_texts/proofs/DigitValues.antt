-- Hex digits and their values by arithmetic, at each byte and at each value.
use Rattle.std.proofs.Common.{◌≡◌, ℕ, ◌+◌, ◌-◌, ◌*◌, ◌/◌, ◌%◌, ◌<◌, ◌≤◌, ◌⊎◌, inl, inr, true, false, cond, ltb, min, slice_index, unwrap_or, refl, arith}
use Rattle.std.specs.Int.Bits.{bit_and, bit_or}
use Rattle.std.proofs.lemmas.Bool.{cases_lt}
use Rattle.std.proofs.lemmas.Bool.Decides.{nat_tests}
use Rattle.std.proofs.lemmas.Nat.{and_le_l}
use Rattle.std.proofs.lemmas.Nat.Bits.{bit_at_and}
use Rattle.hex.specs.Hex.{hex_digit_value, lower_digits}
use Rattle.eleos_base.proofs.Tables.{agree, agree_at}

-- all bits where the number is below the limit
abbrev pub mask : ℕ → ℕ → ℕ
mask number limit = cond (ltb number limit) 255 0

-- the top bit of eight
top_bit : (a b : ℕ) → a < 256 → bit_and a b / 128 ≡ min (a / 128 % 2) (b / 128 % 2)
top_bit a b byte =
    let less = and_le_l a b in
    let bits : bit_and a b / 128 % 2 ≡ min (a / 128 % 2) (b / 128 % 2) = bit_at_and a b 7 in
    omega (arith, less, bits)

-- the top bit of the difference is set where the number is below the limit, unless the number has it too
pub mask_by_bits : (number limit : ℕ) → number < 256 → limit ≤ 128 → bit_and ((number + (256 - limit)) % 256) (255 - number) / 128 * 255 ≡ mask number limit
mask_by_bits number limit byte small = by (cases_lt number limit) where
  top : bit_and ((number + (256 - limit)) % 256) (255 - number) / 128 ≡ min ((number + (256 - limit)) % 256 / 128 % 2) ((255 - number) / 128 % 2)
  top = top_bit ((number + (256 - limit)) % 256) (255 - number) (omega arith)

  by : (number < limit) ⊎ (limit ≤ number) → bit_and ((number + (256 - limit)) % 256) (255 - number) / 128 * 255 ≡ mask number limit
  by (inl below) =
      let set : bit_and ((number + (256 - limit)) % 256) (255 - number) / 128 ≡ 1 = omega (arith, top) in
      let test : ltb number limit ≡ true = grind (arith, nat_tests) in
      rw (set, test) refl
  by (inr above) =
      let clear : bit_and ((number + (256 - limit)) % 256) (255 - number) / 128 ≡ 0 = omega (arith, top) in
      let test : ltb number limit ≡ false = grind (arith, nat_tests) in
      rw (clear, test) refl

-- a digit's value by its bits
abbrev pub value_by_bits : ℕ → ℕ
value_by_bits c =
    bit_or (bit_or (bit_and ((c + 208) % 256) (mask ((c + 208) % 256) 10)) (bit_and (((bit_or c 32 + 159) % 256 + 10) % 256) (mask ((bit_or c 32 + 159) % 256) 6)))
    (255 - bit_or (mask ((c + 208) % 256) 10) (mask ((bit_or c 32 + 159) % 256) 6))

values_agree : agree value_by_bits (λ c. unwrap_or (hex_digit_value c) 255) 256 ≡ true
values_agree = refl

-- it is the digit's value, or stands for none
pub value_at : (c : ℕ) → c < 256 → value_by_bits c ≡ unwrap_or (hex_digit_value c) 255
value_at = agree_at value_by_bits (λ c. unwrap_or (hex_digit_value c) 255) 256 values_agree

-- a value's digit by its arithmetic
abbrev pub digit_of : ℕ → ℕ
digit_of value = 48 + value + (value + 6) / 16 * 39

digits_agree : agree digit_of (λ value. slice_index lower_digits value) 16 ≡ true
digits_agree = refl

-- it is the digit of the value, in lower case
pub digit_at : (value : ℕ) → value < 16 → digit_of value ≡ slice_index lower_digits value
digit_at = agree_at digit_of (λ value. slice_index lower_digits value) 16 digits_agree
