-- Products in the field of GCM by rows: byte j of the product of each byte of a block with h.
use Rattle.std.specs.Prelude.{◌≡◌, ℕ, ◌<◌, ◌*◌, ◌^◌, List, [], ◌∷◌, bit_xor, map, slice_index, slice_index_or}
use Rattle.eleos_base.specs.BlockField.{block_of, power, times_bits, times_power_of_x}

-- byte j of the product of each byte and h
unfoldable pub row : ℕ → ℕ → List ℕ → List ℕ
row h j bytes = map (λ b. slice_index (block_of (times_bits 8 b h)) j) bytes

-- entry n of row j is byte j of the product of the four bits n and h
abbrev pub AreRows : ℕ → List (List ℕ) → Type 0
AreRows h rows = (j n : ℕ) → j < 16 → n < 16
    → slice_index (slice_index_or rows j []) n ≡ slice_index (block_of (times_bits 4 n h)) j

-- the rows of a byte's higher four bits, and of its lower ones
pub record HasRows (h : ℕ) (high low : List (List ℕ)) : Type 0 where
  pub fits : h < 2 ^ 128
  pub high_rows : AreRows h high
  pub low_rows : AreRows (times_power_of_x 4 h) low

-- a string of bytes as a polynomial, modulo the field's: its leftmost bit is the coefficient of x^0
unfoldable pub value : List ℕ → ℕ
value [] = 0
value (b ∷ bs) = bit_xor (b * 2 ^ 120) (times_power_of_x 8 (value bs))

-- the second, third and fourth power of the first
pub record ArePowers (first second third fourth : ℕ) : Type 0 where
  pub below : first < 2 ^ 128
  pub is_second : second ≡ power first 2
  pub is_third : third ≡ power first 3
  pub is_fourth : fourth ≡ power first 4
