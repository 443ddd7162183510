-- The powers of a block, and sums of four products.
use Rattle.std.proofs.Common.{◌≡◌, ℕ, ◌+◌, ◌^◌, ◌<◌, List, [], ◌∷◌, length, bit_xor, sym, ap, ap₂, ◌∙◌, arith}
use Rattle.std.proofs.lemmas.Simd.{length-zip2}
use Rattle.std.specs.Int.Bits.{xor_assoc, xor_zero_r}
use Rattle.std.specs.Simd.Lanes.{zip2}
use Rattle.eleos_base.specs.BlockField.{power, product}
use Rattle.eleos_base.specs.Ghash.{sum_of_powers}
use Rattle.eleos_base.proofs.BlockFieldLemmas.{product_assoc, product-lt, product-one, product-xor_left, times_power_of_x-xor, xor_middle}
use Rattle.eleos_lanes.specs.Rows.{ArePowers, row, value}
use Rattle.eleos_lanes.proofs.RowSums.{length-row, rows_from, rows_from_end, rows_from_next}
use Rattle.eleos_lanes.proofs.Values.{times_x8, value-zip2}

-- the first power of a block is the block
pub power_1 : (h : ℕ) → h < 2 ^ 128 → power h 1 ≡ h
unfolding power
power_1 h below = product-one h below

power_2 : (h : ℕ) → h < 2 ^ 128 → product h h ≡ power h 2
unfolding power
power_2 h below = ap (product h) (sym (product-one h below))

-- each is the one before it times h
pub powers_from : (h square cube fourth : ℕ) → h < 2 ^ 128 → square ≡ product h h → cube ≡ product square h → fourth ≡ product cube h
    → ArePowers h square cube fourth
unfolding power
powers_from h square cube fourth below is_square is_cube is_fourth =
    let second : square ≡ power h 2 = is_square ∙ power_2 h below in
    let third : cube ≡ power h 3 =
    is_cube ∙ ap (λ x. product x h) is_square ∙ product_assoc h h h below below ∙ ap (product h) (power_2 h below) in
    let last : fourth ≡ power h 4 =
    is_fourth
    ∙ ap (λ x. product x h) (is_cube ∙ ap (λ x. product x h) is_square ∙ product_assoc h h h below below)
    ∙ product_assoc h (product h h) h (product-lt h h below) below
    ∙ ap (product h) (product_assoc h h h below below ∙ ap (product h) (power_2 h below)) in
    record { below = below; is_second = second; is_third = third; is_fourth = last }

-- ---- sums of four

abbrev pub sum_of_four : ℕ → ℕ → ℕ → ℕ → ℕ
sum_of_four a b c d = bit_xor (bit_xor a b) (bit_xor c d)

four_moved : (a b c d v w x y : ℕ)
    → bit_xor (times_x8 (sum_of_four a b c d)) (sum_of_four v w x y)
    ≡ sum_of_four (bit_xor (times_x8 a) v) (bit_xor (times_x8 b) w) (bit_xor (times_x8 c) x) (bit_xor (times_x8 d) y)
four_moved a b c d v w x y =
    ap (λ s. bit_xor s (sum_of_four v w x y))
    (times_power_of_x-xor 8 (bit_xor a b) (bit_xor c d) ∙ ap₂ bit_xor (times_power_of_x-xor 8 a b) (times_power_of_x-xor 8 c d))
    ∙ xor_middle (bit_xor (times_x8 a) (times_x8 b)) (bit_xor (times_x8 c) (times_x8 d)) (bit_xor v w) (bit_xor x y)
    ∙ ap₂ bit_xor (xor_middle (times_x8 a) (times_x8 b) v w) (xor_middle (times_x8 c) (times_x8 d) x y)

-- the rows from j on of four products
abbrev pub four_from : ℕ → ℕ → List ℕ → List ℕ → List ℕ → List ℕ → ℕ
four_from h j a b c d =
    sum_of_four (rows_from (power h 4) j a) (rows_from (power h 3) j b) (rows_from (power h 2) j c) (rows_from (power h 1) j d)

-- row j of them
abbrev pub four_row : ℕ → ℕ → List ℕ → List ℕ → List ℕ → List ℕ → List ℕ
four_row h j a b c d =
    zip2 bit_xor (zip2 bit_xor (row (power h 4) j a) (row (power h 3) j b)) (zip2 bit_xor (row (power h 2) j c) (row (power h 1) j d))

-- a row of four products has 16 bytes
pub length-four_row : (h j : ℕ) (a b c d : List ℕ) → length a ≡ 16 → length b ≡ 16 → length c ≡ 16 → length d ≡ 16
    → length (four_row h j a b c d) ≡ 16
length-four_row h j a b c d la lb lc ld =
    let ra = length-row (power h 4) j a in
    let rb = length-row (power h 3) j b in
    let rc = length-row (power h 2) j c in
    let rd = length-row (power h 1) j d in
    let first = length-zip2 bit_xor (row (power h 4) j a) (row (power h 3) j b) (omega arith) in
    let second = length-zip2 bit_xor (row (power h 2) j c) (row (power h 1) j d) (omega arith) in
    omega (
      arith,
      length-zip2 bit_xor (zip2 bit_xor (row (power h 4) j a) (row (power h 3) j b)) (zip2 bit_xor (row (power h 2) j c) (row (power h 1) j d)) (omega arith),
    )

-- the rows of four products from j on are those from j + 1 on, moved by a byte, plus row j
pub four_next : (h j : ℕ) (a b c d : List ℕ) → j < 16 → length a ≡ 16 → length b ≡ 16 → length c ≡ 16 → length d ≡ 16
    → bit_xor (times_x8 (four_from h (j + 1) a b c d)) (value (four_row h j a b c d)) ≡ four_from h j a b c d
four_next h j a b c d below la lb lc ld =
    let ra = length-row (power h 4) j a in
    let rb = length-row (power h 3) j b in
    let rc = length-row (power h 2) j c in
    let rd = length-row (power h 1) j d in
    let first = length-zip2 bit_xor (row (power h 4) j a) (row (power h 3) j b) (omega arith) in
    let second = length-zip2 bit_xor (row (power h 2) j c) (row (power h 1) j d) (omega arith) in
    let values =
    value-zip2 (zip2 bit_xor (row (power h 4) j a) (row (power h 3) j b)) (zip2 bit_xor (row (power h 2) j c) (row (power h 1) j d)) (omega arith)
    ∙ ap₂ bit_xor
    (value-zip2 (row (power h 4) j a) (row (power h 3) j b) (omega arith))
    (value-zip2 (row (power h 2) j c) (row (power h 1) j d) (omega arith)) in
    ap (bit_xor (times_x8 (four_from h (j + 1) a b c d))) values
    ∙ four_moved (rows_from (power h 4) (j + 1) a) (rows_from (power h 3) (j + 1) b) (rows_from (power h 2) (j + 1) c) (rows_from (power h 1) (j + 1) d)
    (value (row (power h 4) j a)) (value (row (power h 3) j b)) (value (row (power h 2) j c)) (value (row (power h 1) j d))
    ∙ ap₂ bit_xor
    (ap₂ bit_xor (rows_from_next (power h 4) j a below) (rows_from_next (power h 3) j b below))
    (ap₂ bit_xor (rows_from_next (power h 2) j c below) (rows_from_next (power h 1) j d below))

-- behind row 15 the rows of four products add nothing
pub four_end : (h : ℕ) (a b c d : List ℕ) → 0 ≡ four_from h 16 a b c d
four_end h a b c d =
    sym (ap₂ bit_xor
    (ap₂ bit_xor (rows_from_end (power h 4) a) (rows_from_end (power h 3) b))
    (ap₂ bit_xor (rows_from_end (power h 2) c) (rows_from_end (power h 1) d)))

-- ---- four blocks into a hash

-- four blocks, each times its power, with the hash so far added to the first:
-- the hash so far times the fourth power, plus the blocks' sum of powers
pub absorbed : (h sum n : ℕ) (a b c d : ℕ)
    → sum_of_four (product (bit_xor sum a) (power h 4)) (product b (power h 3)) (product c (power h 2)) (product d (power h 1))
    ≡ bit_xor (product sum (power h 4)) (sum_of_powers h (a ∷ b ∷ c ∷ d ∷ []))
unfolding sum_of_powers
absorbed h sum n a b c d =
    let s = product sum (power h 4) in
    let pa = product a (power h 4) in
    let pb = product b (power h 3) in
    let pc = product c (power h 2) in
    let pd = product d (power h 1) in
    ap (λ x. bit_xor (bit_xor x pb) (bit_xor pc pd)) (product-xor_left sum a (power h 4))
    ∙ xor_assoc (bit_xor s pa) pb (bit_xor pc pd)
    ∙ xor_assoc s pa (bit_xor pb (bit_xor pc pd))
    ∙ ap (λ z. bit_xor s (bit_xor pa (bit_xor pb (bit_xor pc z)))) (sym (xor_zero_r pd))
