-- The product of two blocks, byte by byte of the first, and the sums of its rows.
use Rattle.std.proofs.Common.{◌≡◌, ℕ, zero, suc, ◌+◌, ◌*◌, ◌/◌, ◌%◌, ◌^◌, ◌<◌, List, [], ◌∷◌, length, drop, get_or, bit_xor, refl, sym, ap, ap₂, ◌∙◌, arith}
use Rattle.std.proofs.lemmas.Nat.{shr-shr, xor_comm}
use Rattle.std.proofs.lemmas.List.{drop_more, drop_all, length-map}
use Rattle.std.proofs.lemmas.Nat.Bits.{bit_at_cat_low, bit_at_cat_high}
use Rattle.std.specs.Int.{bit_at}
use Rattle.std.specs.Int.Bits.{xor_assoc, xor_zero_r}
use Rattle.std.specs.Simd.Lanes.{Each1}
use Rattle.eleos_base.specs.BlockField.{number_of, block_of, times_x, times_power_of_x, times_bits, product, where_set}
use Rattle.eleos_base.proofs.BlockFieldLemmas.{xor_middle, times_power_of_x-xor, times_bits-times_x, times_bits-lt}
use Rattle.eleos_lanes.specs.Rows.{row, value}
use Rattle.eleos_lanes.proofs.Exchange.{bit_at_mod}
use Rattle.eleos_lanes.proofs.Values.{big, big-lt, big_is, length-block_of, times_x8, value_of_number}

-- ---- the product, by the bytes of its first factor

-- only the n lowest bits count
times_bits-same : (n u w v : ℕ) → ((i : ℕ) → i < n → bit_at u i ≡ bit_at w i) → times_bits n u v ≡ times_bits n w v
unfolding times_bits
times_bits-same zero u w v same = refl
times_bits-same (suc n) u w v same =
    ap₂ bit_xor (ap (λ b. where_set b v) (same n (omega arith))) (times_bits-same n u w (times_x v) (λ i below. same i (omega arith)))

-- the first m bits, and the k others
times_bits-split : (m k u v : ℕ) → times_bits (m + k) u v ≡ bit_xor (times_bits m (u / 2 ^ k) v) (times_bits k u (times_power_of_x m v))
unfolding times_bits times_power_of_x
times_bits-split zero k u v =
    let none : 0 + k ≡ k = omega arith in
    ap (λ n. times_bits n u v) none ∙ sym (xor_comm 0 (times_bits k u v) ∙ xor_zero_r (times_bits k u v))
times_bits-split (suc m) k u v =
    let next : suc m + k ≡ suc (m + k) = omega arith in
    let place : k + m ≡ m + k = omega arith in
    let bit : bit_at (u / 2 ^ k) m ≡ bit_at u (m + k) = ap (λ x. x % 2) (shr-shr u k m) ∙ ap (bit_at u) place in
    let first = where_set (bit_at u (m + k)) v in
    ap (λ n. times_bits n u v) next
    ∙ ap (bit_xor first) (times_bits-split m k u (times_x v))
    ∙ sym (xor_assoc first (times_bits m (u / 2 ^ k) (times_x v)) (times_bits k u (times_power_of_x m (times_x v))))
    ∙ ap (λ b. bit_xor (bit_xor (where_set b v) (times_bits m (u / 2 ^ k) (times_x v))) (times_bits k u (times_power_of_x m (times_x v)))) (sym bit)

times_bits-power : (k n u v : ℕ) → times_bits k u (times_power_of_x n v) ≡ times_power_of_x n (times_bits k u v)
unfolding times_power_of_x
times_bits-power k zero u v = refl
times_bits-power k (suc n) u v = times_bits-power k n u (times_x v) ∙ ap (times_power_of_x n) (times_bits-times_x k u v)

-- a byte's higher four bits, and its lower ones
pub times_bits-halves : (b v : ℕ) → times_bits 8 b v ≡ bit_xor (times_bits 4 (b / 16) v) (times_bits 4 (b % 16) (times_power_of_x 4 v))
times_bits-halves b v =
    times_bits-split 4 4 b v
    ∙ ap (bit_xor (times_bits 4 (b / 16) v))
    (times_bits-same 4 b (b % 16) (times_power_of_x 4 v) (λ i low. sym (bit_at_mod b 4 i low)))

-- the product of a string of bytes and h
unfoldable pub by_bytes : ℕ → List ℕ → ℕ
by_bytes h [] = 0
by_bytes h (b ∷ bs) = bit_xor (times_bits 8 b h) (times_x8 (by_bytes h bs))

by_bytes_is : (h : ℕ) (bs : List ℕ) → Each1 (λ b. b < 256) bs → times_bits (8 * length bs) (big bs) h ≡ by_bytes h bs
unfolding big by_bytes times_bits
by_bytes_is h [] fits = refl
by_bytes_is h (b ∷ bs) fits =
    let k = 8 * length bs in
    let u = b * 2 ^ (8 * length bs) + big bs in
    let below = big-lt bs fits.1 in
    let size : 8 * length (b ∷ bs) ≡ 8 + 8 * length bs = omega arith in
    ap (λ n. times_bits n u h) size ∙ times_bits-split 8 k u h
    ∙ ap₂ bit_xor
    (times_bits-same 8 (u / 2 ^ k) b h
    (λ i low. ap (λ x. x % 2) (shr-shr u k i) ∙ bit_at_cat_high b k (big bs) (k + i) below (omega arith)
    ∙ ap (bit_at b) (omega arith)))
    (times_bits-same k u (big bs) (times_power_of_x 8 h) (λ i low. bit_at_cat_low b k (big bs) i low)
    ∙ times_bits-power k 8 (big bs) h ∙ ap times_x8 (by_bytes_is h bs fits.1))

-- the product of a block and h is the sum of the products of its bytes and h, each moved to its place
pub product_by_bytes : (h : ℕ) (bs : List ℕ) → length bs ≡ 16 → Each1 (λ b. b < 256) bs → product (number_of bs) h ≡ by_bytes h bs
unfolding product
product_by_bytes h bs long fits =
    let size : 8 * length bs ≡ 128 = omega arith in
    ap (λ u. times_bits 128 u h) (sym (big_is bs long)) ∙ ap (λ n. times_bits n (big bs) h) (sym size) ∙ by_bytes_is h bs fits

-- ---- the rows

-- the sum of the rows from j on
unfoldable pub rows_from : ℕ → ℕ → List ℕ → ℕ
rows_from h j [] = 0
rows_from h j (b ∷ bs) = bit_xor (value (drop j (block_of (times_bits 8 b h)))) (times_x8 (rows_from h j bs))

-- one row more
pub rows_from_next : (h j : ℕ) (xs : List ℕ) → j < 16 → bit_xor (times_x8 (rows_from h (j + 1) xs)) (value (row h j xs)) ≡ rows_from h j xs
unfolding rows_from value row times_power_of_x times_x
rows_from_next h j [] below = refl
rows_from_next h j (b ∷ bs) below =
    let block = block_of (times_bits 8 b h) in
    let own = get_or block j 0 * 2 ^ 120 in
    let rest = value (drop (j + 1) block) in
    let more = times_x8 (rows_from h (j + 1) bs) in
    let others = times_x8 (value (row h j bs)) in
    let front : value (drop j block) ≡ bit_xor own (times_x8 rest) =
    ap value (drop_more block j 0 (omega (arith, length-block_of (times_bits 8 b h)))) in
    ap (λ x. bit_xor x (bit_xor own others)) (times_power_of_x-xor 8 rest more)
    ∙ xor_middle (times_x8 rest) (times_x8 more) own others
    ∙ ap₂ bit_xor (xor_comm (times_x8 rest) own ∙ sym front)
    (sym (times_power_of_x-xor 8 more (value (row h j bs))) ∙ ap times_x8 (rows_from_next h j bs below))

-- behind row 15 the rows of a product add nothing
pub rows_from_end : (h : ℕ) (xs : List ℕ) → rows_from h 16 xs ≡ 0
unfolding rows_from value times_power_of_x times_x
rows_from_end h [] = refl
rows_from_end h (b ∷ bs) =
    let none = drop_all 16 (block_of (times_bits 8 b h)) (omega (arith, length-block_of (times_bits 8 b h))) in
    ap₂ (λ xs v. bit_xor (value xs) (times_x8 v)) none (rows_from_end h bs)

-- all rows of a product together are the sum of the products of the bytes
pub rows_from_all : (h : ℕ) (xs : List ℕ) → h < 2 ^ 128 → rows_from h 0 xs ≡ by_bytes h xs
unfolding rows_from by_bytes
rows_from_all h [] below = refl
rows_from_all h (b ∷ bs) below =
    ap₂ bit_xor (value_of_number (times_bits 8 b h) (times_bits-lt 8 b h below)) (ap times_x8 (rows_from_all h bs below))

-- a row has one byte for each byte of the block
pub length-row : (h j : ℕ) (xs : List ℕ) → length (row h j xs) ≡ length xs
unfolding row
length-row h j xs = length-map xs (λ b. get_or (block_of (times_bits 8 b h)) j 0)
