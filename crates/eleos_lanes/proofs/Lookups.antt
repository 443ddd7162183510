-- Entries at four bits of each byte.
use Rattle.std.proofs.Common.{◌≡◌, ℕ, ◌+◌, ◌*◌, ◌/◌, ◌%◌, ◌^◌, ◌<◌, List, [], ◌∷◌, length, get_or, map, replicate, bit_and, bit_xor, refl, sym, ap, ap₂, ◌∙◌, arith, w8, Fits}
use Rattle.std.proofs.lemmas.Nat.{and_mask, and_le_r, xor_shr, xor_mod}
use Rattle.std.proofs.lemmas.List.{ext_get_or, length-map, get_or-map}
use Rattle.std.proofs.lemmas.Simd.{SwzOk, SwzOk-from_below, swz_l, length-swz_l, get_or-swz_l_below, Each1-zip2, Each2-splat, Each1-weaker, Each1-all, Each1-get_or, map-map, zip2_splat, length-zip2, length-replicate}
use Rattle.std.specs.Simd.Lanes.{zip2, Each1}
use Rattle.eleos_base.specs.BlockField.{block_of, times_bits, times_power_of_x}
use Rattle.eleos_lanes.specs.Rows.{row}
use Rattle.eleos_lanes.proofs.Bits.{below_sixteen}
use Rattle.eleos_lanes.proofs.RowSums.{times_bits-halves}

-- the lanes of a vector at places below 16
pub looked_up : (table js : List ℕ) → length js ≡ 16 → ((i : ℕ) → i < 16 → get_or js i 0 < 16)
    → swz_l w8 16 table 0 js ≡ map (λ j. get_or table j 0) js
looked_up table js long below =
    ext_get_or 0 (swz_l w8 16 table 0 js) (map (λ j. get_or table j 0) js)
    (length-swz_l w8 16 table 0 js ∙ sym (length-map js (λ j. get_or table j 0)))
    (λ i low.
    let within : i < length js = omega (arith, length-swz_l w8 16 table 0 js) in
    let place : 16 * ((0 + i) / 16) + get_or js i 0 ≡ get_or js i 0 = omega arith in
    get_or-swz_l_below w8 16 table 0 js i within (below i (omega arith))
    ∙ ap (λ k. get_or table k 0) place
    ∙ sym (get_or-map (λ j. get_or table j 0) js i 0 0 within))

map_same : (f g : ℕ → ℕ) → ((b : ℕ) → f b ≡ g b) → (bs : List ℕ) → map f bs ≡ map g bs
map_same f g same [] = refl
map_same f g same (b ∷ bs) = ap₂ ◌∷◌ (same b) (map_same f g same bs)

-- ---- the higher four bits

-- the higher four bits of each byte are places in a vector of 16 lanes
pub high_places : (v : List ℕ) → length v ≡ 16 → Each1 (Fits w8) v → SwzOk w8 16 16 0 (zip2 (λ a b. a / 2 ^ b) v (replicate 16 4))
high_places v long fits =
    let len = length-zip2 (λ (a b : ℕ). a / 2 ^ b) v (replicate 16 4) (omega (arith, length-replicate {A = ℕ} 16 4)) in
    SwzOk-from_below w8 16 1 16 0 (zip2 (λ a b. a / 2 ^ b) v (replicate 16 4)) (omega arith) (omega arith)
    (Each1-zip2 (λ a b. a / 2 ^ b) (λ j. j < 16) v (replicate 16 4)
    (Each2-splat (λ x y. x / 2 ^ y < 16) v 16 4 (Each1-weaker (Fits w8) (λ x. x / 2 ^ 4 < 16) (λ a f. omega (arith, f.fits)) v fits)))

-- the lanes of a table that are taken by them are its entries at the higher four bits
pub high_entries : (table v : List ℕ) → length v ≡ 16 → Each1 (Fits w8) v
    → swz_l w8 16 table 0 (zip2 (λ a b. a / 2 ^ b) v (replicate 16 4)) ≡ map (λ b. get_or table (b / 16) 0) v
high_entries table v long fits =
    let js = map (λ b. b / 16) v in
    ap (swz_l w8 16 table 0) (zip2_splat (λ a b. a / 2 ^ b) v 16 4 long)
    ∙ looked_up table js (length-map v (λ b. b / 16) ∙ long)
    (λ i low.
    let own = Each1-get_or (Fits w8) v i 0 (omega arith) fits in
    omega (arith, get_or-map (λ b. b / 16) v i 0 0 (omega arith), own.fits))
    ∙ map-map (λ j. get_or table j 0) (λ b. b / 16) v

-- ---- the lower four bits

-- the lower four bits of each byte are places in a vector of 16 lanes
pub low_places : (v : List ℕ) → length v ≡ 16 → SwzOk w8 16 16 0 (zip2 bit_and v (replicate 16 15))
low_places v long =
    let len = length-zip2 bit_and v (replicate 16 15) (omega (arith, length-replicate {A = ℕ} 16 15)) in
    SwzOk-from_below w8 16 1 16 0 (zip2 bit_and v (replicate 16 15)) (omega arith) (omega arith)
    (Each1-zip2 bit_and (λ j. j < 16) v (replicate 16 15)
    (Each2-splat (λ x y. bit_and x y < 16) v 16 15 (Each1-all (λ x. bit_and x 15 < 16) (λ a. omega (arith, and_le_r a 15)) v)))

-- the lanes of a table that are taken by them are its entries at the lower four bits
pub low_entries : (table v : List ℕ) → length v ≡ 16
    → swz_l w8 16 table 0 (zip2 bit_and v (replicate 16 15)) ≡ map (λ b. get_or table (b % 16) 0) v
low_entries table v long =
    let js = map (λ b. bit_and b 15) v in
    ap (swz_l w8 16 table 0) (zip2_splat bit_and v 16 15 long)
    ∙ looked_up table js (length-map v (λ b. bit_and b 15) ∙ long)
    (λ i low.
    omega (arith, get_or-map (λ b. bit_and b 15) v i 0 0 (omega arith), and_le_r (get_or v i 0) 15))
    ∙ map-map (λ j. get_or table j 0) (λ b. bit_and b 15) v
    ∙ map_same (λ b. get_or table (bit_and b 15) 0) (λ b. get_or table (b % 16) 0) (λ b. ap (λ k. get_or table k 0) (and_mask b 4)) v

-- ---- the sum of both

-- a byte of a sum
byte_of_sum : (m n j : ℕ) → j < 16 → bit_xor (get_or (block_of m) j 0) (get_or (block_of n) j 0) ≡ get_or (block_of (bit_xor m n)) j 0
unfolding block_of
byte_of_sum m n j below =
    let own : (k : ℕ) → bit_xor (m / 2 ^ k % 2 ^ 8) (n / 2 ^ k % 2 ^ 8) ≡ bit_xor m n / 2 ^ k % 2 ^ 8 =
    λ k. sym (ap (λ x. x % 2 ^ 8) (xor_shr m n k) ∙ xor_mod (m / 2 ^ k) (n / 2 ^ k) 8) in
    below_sixteen
    (λ j. bit_xor (get_or (block_of m) j 0) (get_or (block_of n) j 0) ≡ get_or (block_of (bit_xor m n)) j 0)
    (own 120) (own 112) (own 104) (own 96) (own 88) (own 80) (own 72) (own 64)
    (own 56) (own 48) (own 40) (own 32) (own 24) (own 16) (own 8) (sym (xor_mod m n 8)) j below

-- the entries for the higher four bits of each byte plus those for the lower four are row j of the products with h
pub row_of_entries : (h j : ℕ) (high low v : List ℕ) → j < 16 → Each1 (Fits w8) v
    → ((n : ℕ) → n < 16 → get_or high n 0 ≡ get_or (block_of (times_bits 4 n h)) j 0)
    → ((n : ℕ) → n < 16 → get_or low n 0 ≡ get_or (block_of (times_bits 4 n (times_power_of_x 4 h))) j 0)
    → zip2 bit_xor (map (λ b. get_or high (b / 16) 0) v) (map (λ b. get_or low (b % 16) 0) v)
    ≡ row h j v
unfolding row
row_of_entries h j high low [] below fits is_high is_low = refl
row_of_entries h j high low (b ∷ bs) below fits is_high is_low =
    ap₂ ◌∷◌
    (ap₂ bit_xor (is_high (b / 16) (omega (arith, (fits.0).fits))) (is_low (b % 16) (omega arith))
    ∙ byte_of_sum (times_bits 4 (b / 16) h) (times_bits 4 (b % 16) (times_power_of_x 4 h)) j below
    ∙ ap (λ n. get_or (block_of n) j 0) (sym (times_bits-halves b h)))
    (row_of_entries h j high low bs below fits.1 is_high is_low)
