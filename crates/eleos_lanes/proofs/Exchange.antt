-- Bits of two bytes that change places.
use Rattle.std.proofs.Common.{◌≡◌, ℕ, zero, suc, ◌+◌, ◌-◌, ◌*◌, ◌/◌, ◌%◌, ◌^◌, ◌<◌, ◌≤◌, cond, eqb, ltb, min, List, length, get_or, replicate, bit_and, bit_xor, refl, sym, ap, ap₂, ◌∙◌, arith, inl, inr}
use Rattle.std.proofs.lemmas.Simd.{get_or-zip2, length-zip2, get_or-replicate, length-replicate}
use Rattle.std.specs.Simd.Lanes.{zip2}
use Rattle.std.proofs.lemmas.Nat.{pow_pos, shr-shr, and_mask, xor_comm}
use Rattle.std.proofs.lemmas.Nat.Bits.{bit_at-lt, bit_at_and, bit_at_ones, bit_at-zero, bit_at_cat_low, bit_at_cat_high}
use Rattle.std.proofs.lemmas.Bool.{cases_lt, lt-ltb, le-ltb}
use Rattle.std.specs.Int.{bit_at}
use Rattle.std.specs.Int.Bits.{xor_zero_r}
use Rattle.eleos_lanes.proofs.Bits.{bit_xor_at, bit_and_at}

bit_at_shr : (a by j : ℕ) → bit_at (a / 2 ^ by) j ≡ bit_at a (by + j)
bit_at_shr a by j = ap (λ x. x % 2) (shr-shr a by j)

-- the lowest k bits of a number are those of what is left modulo 2 ^ k
pub bit_at_mod : (n k i : ℕ) → i < k → bit_at (n % 2 ^ k) i ≡ bit_at n i
bit_at_mod n k i below =
    ap (λ x. bit_at x i) (sym (and_mask n k)) ∙ bit_at_and n (2 ^ k - 1) i
    ∙ ap (min (bit_at n i)) (bit_at_ones k i below) ∙ omega (arith, bit_at-lt n i)

-- bits that were shifted left within a byte
bit_at_shl_low : (n by j : ℕ) → j < 8 → j < by → bit_at (n * 2 ^ by % 2 ^ 8) j ≡ 0
bit_at_shl_low n by j low below =
    let whole : n * 2 ^ by ≡ n * 2 ^ by + 0 = omega arith in
    bit_at_mod (n * 2 ^ by) 8 j low ∙ ap (λ x. bit_at x j) whole ∙ bit_at_cat_low n by 0 j below ∙ bit_at-zero j

bit_at_shl_high : (n by j : ℕ) → j < 8 → by ≤ j → bit_at (n * 2 ^ by % 2 ^ 8) j ≡ bit_at n (j - by)
bit_at_shl_high n by j low above =
    let whole : n * 2 ^ by ≡ n * 2 ^ by + 0 = omega arith in
    let some : 0 < 2 ^ by = pow_pos by in
    bit_at_mod (n * 2 ^ by) 8 j low ∙ ap (λ x. bit_at x j) whole ∙ bit_at_cat_high n by 0 j some above

-- y in the place of x where the mask's bit is 1
masked : (x y m : ℕ) → x < 2 → y < 2 → m < 2 → bit_xor x (bit_and (bit_xor y x) m) ≡ cond (eqb m 1) y x
masked zero zero zero lx ly lm = refl
masked zero (suc zero) zero lx ly lm = refl
masked (suc zero) zero zero lx ly lm = refl
masked (suc zero) (suc zero) zero lx ly lm = refl
masked zero zero (suc zero) lx ly lm = refl
masked zero (suc zero) (suc zero) lx ly lm = refl
masked (suc zero) zero (suc zero) lx ly lm = refl
masked (suc zero) (suc zero) (suc zero) lx ly lm = refl
masked (suc (suc x)) y m lx ly lm = absurd (omega arith)
masked zero (suc (suc y)) m lx ly lm = absurd (omega arith)
masked (suc zero) (suc (suc y)) m lx ly lm = absurd (omega arith)
masked zero zero (suc (suc m)) lx ly lm = absurd (omega arith)
masked zero (suc zero) (suc (suc m)) lx ly lm = absurd (omega arith)
masked (suc zero) zero (suc (suc m)) lx ly lm = absurd (omega arith)
masked (suc zero) (suc zero) (suc (suc m)) lx ly lm = absurd (omega arith)

abbrev pub change : ℕ → ℕ → ℕ → ℕ → ℕ
change a b by mask = bit_and (bit_xor (a / 2 ^ by) b) mask

bit_of_change : (a b by mask j : ℕ) → bit_at (change a b by mask) j ≡ bit_and (bit_xor (bit_at a (by + j)) (bit_at b j)) (bit_at mask j)
bit_of_change a b by mask j =
    bit_and_at (bit_xor (a / 2 ^ by) b) mask j
    ∙ ap (λ x. bit_and x (bit_at mask j)) (bit_xor_at (a / 2 ^ by) b j ∙ ap (λ x. bit_xor x (bit_at b j)) (bit_at_shr a by j))

-- bit j of the second byte
pub second_bit : (a b by mask j : ℕ)
    → bit_at (bit_xor b (change a b by mask)) j ≡ cond (eqb (bit_at mask j) 1) (bit_at a (by + j)) (bit_at b j)
second_bit a b by mask j =
    bit_xor_at b (change a b by mask) j ∙ ap (bit_xor (bit_at b j)) (bit_of_change a b by mask j)
    ∙ masked (bit_at b j) (bit_at a (by + j)) (bit_at mask j) (bit_at-lt b j) (bit_at-lt a (by + j)) (bit_at-lt mask j)

-- bit j of the first byte
pub first_bit : (a b by mask j : ℕ) → j < 8
    → bit_at (bit_xor a (change a b by mask * 2 ^ by % 2 ^ 8)) j
    ≡ cond (ltb j by) (bit_at a j) (cond (eqb (bit_at mask (j - by)) 1) (bit_at b (j - by)) (bit_at a j))
first_bit a b by mask j low =
    let moved = change a b by mask * 2 ^ by % 2 ^ 8 in
    let parts = bit_xor_at a moved j in
    elim (cases_lt j by) [
      | inl below ↦
          rw (lt-ltb j by below) (parts ∙ ap (bit_xor (bit_at a j)) (bit_at_shl_low (change a b by mask) by j low below) ∙ xor_zero_r (bit_at a j))
      | inr above ↦
          let i = j - by in
          let place : by + (j - by) ≡ j = omega arith in
          let bit = bit_of_change a b by mask (j - by) in
          let swapped = ap (λ x. bit_and x (bit_at mask (j - by))) (xor_comm (bit_at a j) (bit_at b (j - by))) in
          rw (le-ltb j by above)
          (parts ∙ ap (bit_xor (bit_at a j)) (bit_at_shl_high (change a b by mask) by j low above ∙ (rw place at bit) ∙ swapped)
          ∙ masked (bit_at a j) (bit_at b (j - by)) (bit_at mask (j - by)) (bit_at-lt a j) (bit_at-lt b (j - by)) (bit_at-lt mask (j - by)))
    ]

-- ---- the same on lanes

abbrev pub changes : List ℕ → List ℕ → ℕ → ℕ → List ℕ
changes a b by mask =
    zip2 bit_and (zip2 bit_xor (zip2 (λ x y. x / 2 ^ y) a (replicate 16 by)) b) (replicate 16 mask)

length-changes : (a b : List ℕ) (by mask : ℕ) → length a ≡ 16 → length b ≡ 16 → length (changes a b by mask) ≡ 16
length-changes a b by mask long_a long_b =
    let shifted = zip2 (λ x y. x / 2 ^ y) a (replicate 16 by) in
    let one = length-zip2 (λ x y. x / 2 ^ y) a (replicate 16 by) (omega (arith, length-replicate {A = ℕ} 16 by)) in
    let two = length-zip2 bit_xor shifted b (omega arith) in
    omega (arith, length-zip2 bit_and (zip2 bit_xor shifted b) (replicate 16 mask) (omega (arith, length-replicate {A = ℕ} 16 mask)))

lane_of_changes : (a b : List ℕ) (by mask i : ℕ) → length a ≡ 16 → length b ≡ 16 → i < 16
    → get_or (changes a b by mask) i 0 ≡ change (get_or a i 0) (get_or b i 0) by mask
lane_of_changes a b by mask i long_a long_b below =
    let shifted = zip2 (λ x y. x / 2 ^ y) a (replicate 16 by) in
    let one = length-zip2 (λ x y. x / 2 ^ y) a (replicate 16 by) (omega (arith, length-replicate {A = ℕ} 16 by)) in
    let two = length-zip2 bit_xor shifted b (omega arith) in
    get_or-zip2 bit_and (zip2 bit_xor shifted b) (replicate 16 mask) i 0 0 0 (omega arith) (omega (arith, length-replicate {A = ℕ} 16 mask))
    ∙ ap₂ bit_and
    (get_or-zip2 bit_xor shifted b i 0 0 0 (omega arith) (omega arith)
    ∙ ap (λ x. bit_xor x (get_or b i 0))
    (get_or-zip2 (λ x y. x / 2 ^ y) a (replicate 16 by) i 0 0 0 (omega arith) (omega (arith, length-replicate {A = ℕ} 16 by))
    ∙ ap (λ y. get_or a i 0 / 2 ^ y) (get_or-replicate {A = ℕ} 16 i by 0 below)))
    (get_or-replicate {A = ℕ} 16 i mask 0 below)

-- lane i of the second vector
pub second_lane : (a b : List ℕ) (by mask i j : ℕ) → length a ≡ 16 → length b ≡ 16 → i < 16
    → bit_at (get_or (zip2 bit_xor b (changes a b by mask)) i 0) j
    ≡ cond (eqb (bit_at mask j) 1) (bit_at (get_or a i 0) (by + j)) (bit_at (get_or b i 0) j)
second_lane a b by mask i j long_a long_b below =
    let long = length-changes a b by mask long_a long_b in
    ap (λ x. bit_at x j)
    (get_or-zip2 bit_xor b (changes a b by mask) i 0 0 0 (omega arith) (omega arith)
    ∙ ap (bit_xor (get_or b i 0)) (lane_of_changes a b by mask i long_a long_b below))
    ∙ second_bit (get_or a i 0) (get_or b i 0) by mask j

-- lane i of the first vector
pub first_lane : (a b : List ℕ) (by mask i j : ℕ) → length a ≡ 16 → length b ≡ 16 → i < 16 → j < 8
    → bit_at (get_or (zip2 bit_xor a (zip2 (λ x y. x * 2 ^ y % 2 ^ 8) (changes a b by mask) (replicate 16 by))) i 0) j
    ≡ cond (ltb j by) (bit_at (get_or a i 0) j)
    (cond (eqb (bit_at mask (j - by)) 1) (bit_at (get_or b i 0) (j - by)) (bit_at (get_or a i 0) j))
first_lane a b by mask i j long_a long_b below low =
    let them = changes a b by mask in
    let long = length-changes a b by mask long_a long_b in
    let moved = zip2 (λ x y. x * 2 ^ y % 2 ^ 8) them (replicate 16 by) in
    let long_moved = length-zip2 (λ x y. x * 2 ^ y % 2 ^ 8) them (replicate 16 by) (omega (arith, length-replicate {A = ℕ} 16 by)) in
    ap (λ x. bit_at x j)
    (get_or-zip2 bit_xor a moved i 0 0 0 (omega arith) (omega arith)
    ∙ ap (bit_xor (get_or a i 0))
    (get_or-zip2 (λ x y. x * 2 ^ y % 2 ^ 8) them (replicate 16 by) i 0 0 0 (omega arith) (omega (arith, length-replicate {A = ℕ} 16 by))
    ∙ ap₂ (λ x y. x * 2 ^ y % 2 ^ 8) (lane_of_changes a b by mask i long_a long_b below) (get_or-replicate {A = ℕ} 16 i by 0 below)))
    ∙ first_bit (get_or a i 0) (get_or b i 0) by mask j low
