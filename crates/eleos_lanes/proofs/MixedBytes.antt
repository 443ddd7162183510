-- Products by 02 on bits, and the columns' sums.
use Rattle.std.proofs.Common.{◌≡◌, ℕ, zero, suc, ◌+◌, ◌*◌, ◌/◌, ◌^◌, ◌<◌, List, [], ◌∷◌, get_or, true, bit_xor, refl, sym, ap, ap₂, ◌∙◌, arith}
use Rattle.std.proofs.lemmas.Nat.{xor_block, xor_comm, xor_lt, xor_shr}
use Rattle.std.proofs.lemmas.Nat.Bits.{bit_at-lt}
use Rattle.std.specs.Int.{bit_at}
use Rattle.std.specs.Int.Bits.{xor_assoc}
use Rattle.eleos_base.specs.ByteField.{product}
use Rattle.eleos_base.specs.AesState.{mix_row, mix_columns}
use Rattle.eleos_base.proofs.Tables.{agree, agree_at}
use Rattle.eleos_lanes.specs.Planes.{byte_of, differ, plane_byte, turned}
use Rattle.eleos_lanes.proofs.Bits.{bits_of_byte}

-- four parts of a sum, with the middle two exchanged
xor_middle : (a b c d : ℕ) → bit_xor (bit_xor a b) (bit_xor c d) ≡ bit_xor (bit_xor a c) (bit_xor b d)
xor_middle a b c d =
    xor_assoc a b (bit_xor c d)
    ∙ ap (bit_xor a) (sym (xor_assoc b c d) ∙ ap (λ x. bit_xor x d) (xor_comm b c) ∙ xor_assoc c b d)
    ∙ sym (xor_assoc a c (bit_xor b d))

-- one bit lower down
xor_pair : (x y s t : ℕ) → x < 2 → y < 2 → bit_xor (x + 2 * s) (y + 2 * t) ≡ bit_xor x y + 2 * bit_xor s t
xor_pair x y s t lx ly =
    let whole = xor_block 1 s t x y lx ly in
    let left : x + 2 * s ≡ s * 2 ^ 1 + x = omega arith in
    let right : y + 2 * t ≡ t * 2 ^ 1 + y = omega arith in
    ap₂ bit_xor left right ∙ whole ∙ omega arith

-- the sum of two bytes is that of their bits
pub byte_of-differ : (x0 x1 x2 x3 x4 x5 x6 x7 y0 y1 y2 y3 y4 y5 y6 y7 : ℕ)
    → x0 < 2 → x1 < 2 → x2 < 2 → x3 < 2 → x4 < 2 → x5 < 2 → x6 < 2
    → y0 < 2 → y1 < 2 → y2 < 2 → y3 < 2 → y4 < 2 → y5 < 2 → y6 < 2
    → byte_of (differ x0 y0) (differ x1 y1) (differ x2 y2) (differ x3 y3) (differ x4 y4) (differ x5 y5) (differ x6 y6) (differ x7 y7)
    ≡ bit_xor (byte_of x0 x1 x2 x3 x4 x5 x6 x7) (byte_of y0 y1 y2 y3 y4 y5 y6 y7)
unfolding differ
byte_of-differ x0 x1 x2 x3 x4 x5 x6 x7 y0 y1 y2 y3 y4 y5 y6 y7 l0 l1 l2 l3 l4 l5 l6 m0 m1 m2 m3 m4 m5 m6 =
    sym
    (xor_pair x0 y0 _ _ l0 m0 ∙ ap (λ s. bit_xor x0 y0 + 2 * s)
    (xor_pair x1 y1 _ _ l1 m1 ∙ ap (λ s. bit_xor x1 y1 + 2 * s)
    (xor_pair x2 y2 _ _ l2 m2 ∙ ap (λ s. bit_xor x2 y2 + 2 * s)
    (xor_pair x3 y3 _ _ l3 m3 ∙ ap (λ s. bit_xor x3 y3 + 2 * s)
    (xor_pair x4 y4 _ _ l4 m4 ∙ ap (λ s. bit_xor x4 y4 + 2 * s)
    (xor_pair x5 y5 _ _ l5 m5 ∙ ap (λ s. bit_xor x5 y5 + 2 * s)
    (xor_pair x6 y6 x7 y7 l6 m6)))))))

-- bits are at most one
pub differ-lt : (x y : ℕ) → x < 2 → y < 2 → differ x y < 2
unfolding differ
differ-lt x y lx ly = xor_lt 1 x y lx ly

-- the product with 02, on bits
twice_bits : ℕ → ℕ → ℕ → ℕ → ℕ → ℕ → ℕ → ℕ → ℕ
twice_bits x0 x1 x2 x3 x4 x5 x6 x7 = byte_of x7 (differ x0 x7) x1 (differ x2 x7) (differ x3 x7) x4 x5 x6

twice_is : agree (λ x. twice_bits (bit_at x 0) (bit_at x 1) (bit_at x 2) (bit_at x 3) (bit_at x 4) (bit_at x 5) (bit_at x 6) (bit_at x 7)) (product 2) 256 ≡ true
unfolding twice_bits differ product
twice_is = refl

twice_at : (x : ℕ) → x < 256
    → twice_bits (bit_at x 0) (bit_at x 1) (bit_at x 2) (bit_at x 3) (bit_at x 4) (bit_at x 5) (bit_at x 6) (bit_at x 7) ≡ product 2 x
twice_at = agree_at (λ x. twice_bits (bit_at x 0) (bit_at x 1) (bit_at x 2) (bit_at x 3) (bit_at x 4) (bit_at x 5) (bit_at x 6) (bit_at x 7)) (product 2) 256 twice_is

twice_on_bits : (x0 x1 x2 x3 x4 x5 x6 x7 : ℕ) → x0 < 2 → x1 < 2 → x2 < 2 → x3 < 2 → x4 < 2 → x5 < 2 → x6 < 2 → x7 < 2
    → twice_bits x0 x1 x2 x3 x4 x5 x6 x7 ≡ product 2 (byte_of x0 x1 x2 x3 x4 x5 x6 x7)
twice_on_bits x0 x1 x2 x3 x4 x5 x6 x7 l0 l1 l2 l3 l4 l5 l6 l7 =
    let x = byte_of x0 x1 x2 x3 x4 x5 x6 x7 in
    let are = bits_of_byte x0 x1 x2 x3 x4 x5 x6 x7 l0 l1 l2 l3 l4 l5 l6 l7 in
    let whole = twice_at x (omega arith) in
    rw (are.0, are.1, are.2, are.3, are.4, are.5, are.6, are.7) at whole

-- ---- a row of the matrix

triple_is : agree (λ b. bit_xor (product 2 b) b) (product 3) 256 ≡ true
unfolding product
triple_is = refl

same_is : agree (λ b. b) (product 1) 256 ≡ true
unfolding product
same_is = refl

-- a byte of a mixed column, from the byte, and the next, the second and the third after it
abbrev pub mixed_byte : ℕ → ℕ → ℕ → ℕ → ℕ
mixed_byte a b c d = bit_xor (product 2 (bit_xor a b)) (bit_xor b (bit_xor c d))

-- the product with 02 keeps sums
double_is : agree (λ b. bit_xor (2 * b) (283 * (b / 2 ^ 7))) (product 2) 256 ≡ true
unfolding product
double_is = refl

double_at : (b : ℕ) → b < 256 → bit_xor (2 * b) (283 * (b / 2 ^ 7)) ≡ product 2 b
double_at = agree_at (λ b. bit_xor (2 * b) (283 * (b / 2 ^ 7))) (product 2) 256 double_is

twice_sum : (a b : ℕ) → 2 * bit_xor a b ≡ bit_xor (2 * a) (2 * b)
twice_sum a b =
    let whole : (n : ℕ) → 2 * n ≡ 0 + 2 * n = λ n. omega arith in
    whole (bit_xor a b) ∙ sym (xor_pair 0 0 a b (omega arith) (omega arith)) ∙ sym (ap₂ bit_xor (whole a) (whole b))

top_sum : (x y : ℕ) → x < 2 → y < 2 → 283 * bit_xor x y ≡ bit_xor (283 * x) (283 * y)
top_sum zero zero lx ly = refl
top_sum zero (suc zero) lx ly = refl
top_sum (suc zero) zero lx ly = refl
top_sum (suc zero) (suc zero) lx ly = refl
top_sum (suc (suc x)) y lx ly = absurd (omega arith)
top_sum zero (suc (suc y)) lx ly = absurd (omega arith)
top_sum (suc zero) (suc (suc y)) lx ly = absurd (omega arith)

product_2-xor : (a b : ℕ) → a < 256 → b < 256 → product 2 (bit_xor a b) ≡ bit_xor (product 2 a) (product 2 b)
product_2-xor a b la lb =
    sym (double_at (bit_xor a b) (xor_lt 8 a b la lb))
    ∙ ap₂ bit_xor (twice_sum a b)
    (ap (λ x. 283 * x) (xor_shr a b 7) ∙ top_sum (a / 2 ^ 7) (b / 2 ^ 7) (omega arith) (omega arith))
    ∙ xor_middle (2 * a) (2 * b) (283 * (a / 2 ^ 7)) (283 * (b / 2 ^ 7))
    ∙ ap₂ bit_xor (double_at a la) (double_at b lb)

-- ---- the byte that the planes' sums make

-- eight bits of a pair's plane, and eight of the others'
pub mixed_on_bits : (s0 s1 s2 s3 s4 s5 s6 s7 r0 r1 r2 r3 r4 r5 r6 r7 : ℕ)
    → s0 < 2 → s1 < 2 → s2 < 2 → s3 < 2 → s4 < 2 → s5 < 2 → s6 < 2 → s7 < 2
    → r0 < 2 → r1 < 2 → r2 < 2 → r3 < 2 → r4 < 2 → r5 < 2 → r6 < 2
    → byte_of (differ s7 r0) (differ (differ s0 s7) r1) (differ s1 r2) (differ (differ s2 s7) r3)
    (differ (differ s3 s7) r4) (differ s4 r5) (differ s5 r6) (differ s6 r7)
    ≡ bit_xor (product 2 (byte_of s0 s1 s2 s3 s4 s5 s6 s7)) (byte_of r0 r1 r2 r3 r4 r5 r6 r7)
unfolding twice_bits
mixed_on_bits s0 s1 s2 s3 s4 s5 s6 s7 r0 r1 r2 r3 r4 r5 r6 r7 a0 a1 a2 a3 a4 a5 a6 a7 b0 b1 b2 b3 b4 b5 b6 =
    byte_of-differ s7 (differ s0 s7) s1 (differ s2 s7) (differ s3 s7) s4 s5 s6 r0 r1 r2 r3 r4 r5 r6 r7
    a7 (differ-lt s0 s7 a0 a7) a1 (differ-lt s2 s7 a2 a7) (differ-lt s3 s7 a3 a7) a4 a5 b0 b1 b2 b3 b4 b5 b6
    ∙ ap (λ x. bit_xor x (byte_of r0 r1 r2 r3 r4 r5 r6 r7)) (twice_on_bits s0 s1 s2 s3 s4 s5 s6 s7 a0 a1 a2 a3 a4 a5 a6 a7)

triple_at : (b : ℕ) → b < 256 → bit_xor (product 2 b) b ≡ product 3 b
triple_at = agree_at (λ b. bit_xor (product 2 b) b) (product 3) 256 triple_is

same_at : (b : ℕ) → b < 256 → b ≡ product 1 b
same_at = agree_at (λ b. b) (product 1) 256 same_is

-- with 2a + (2b + b) + c + d in its first order
regrouped : (a b c d : ℕ) → a < 256 → b < 256
    → mixed_byte a b c d ≡ bit_xor (product 2 a) (bit_xor (product 3 b) (bit_xor c d))
regrouped a b c d la lb =
    ap (λ x. bit_xor x (bit_xor b (bit_xor c d))) (product_2-xor a b la lb)
    ∙ xor_assoc (product 2 a) (product 2 b) (bit_xor b (bit_xor c d))
    ∙ ap (bit_xor (product 2 a))
    (sym (xor_assoc (product 2 b) b (bit_xor c d)) ∙ ap (λ x. bit_xor x (bit_xor c d)) (triple_at b lb))

pub row_0 : (a b c d : ℕ) → a < 256 → b < 256 → c < 256 → d < 256 → mixed_byte a b c d ≡ mix_row 0 a b c d
unfolding mix_row
row_0 a b c d la lb lc ld =
    let p = product 2 a in
    let q = product 3 b in
    rw (← same_at c lc, ← same_at d ld)
    (regrouped a b c d la lb ∙ sym (xor_assoc p q (bit_xor c d)) ∙ sym (xor_assoc (bit_xor p q) c d))

pub row_1 : (a b c d : ℕ) → a < 256 → b < 256 → c < 256 → d < 256 → mixed_byte a b c d ≡ mix_row 1 d a b c
unfolding mix_row
row_1 a b c d la lb lc ld =
    let p = product 2 a in
    let q = product 3 b in
    rw (← same_at c lc, ← same_at d ld)
    (regrouped a b c d la lb
    ∙ ap (bit_xor p) (sym (xor_assoc q c d) ∙ xor_comm (bit_xor q c) d)
    ∙ sym (xor_assoc p d (bit_xor q c)) ∙ ap (λ x. bit_xor x (bit_xor q c)) (xor_comm p d)
    ∙ sym (xor_assoc (bit_xor d p) q c))

pub row_2 : (a b c d : ℕ) → a < 256 → b < 256 → c < 256 → d < 256 → mixed_byte a b c d ≡ mix_row 2 c d a b
unfolding mix_row
row_2 a b c d la lb lc ld =
    let p = product 2 a in
    let q = product 3 b in
    rw (← same_at c lc, ← same_at d ld)
    (regrouped a b c d la lb
    ∙ ap (bit_xor p) (xor_comm q (bit_xor c d))
    ∙ sym (xor_assoc p (bit_xor c d) q) ∙ ap (λ x. bit_xor x q) (xor_comm p (bit_xor c d)))

pub row_3 : (a b c d : ℕ) → a < 256 → b < 256 → c < 256 → d < 256 → mixed_byte a b c d ≡ mix_row 3 b c d a
unfolding mix_row
row_3 a b c d la lb lc ld =
    let p = product 2 a in
    let q = product 3 b in
    rw (← same_at c lc, ← same_at d ld)
    (regrouped a b c d la lb ∙ xor_comm p (bit_xor q (bit_xor c d)) ∙ ap (λ x. bit_xor x p) (sym (xor_assoc q c d)))

-- the byte of a plane is below 256
pub plane_byte-lt : (x : List (List ℕ)) (b i : ℕ) → plane_byte x b i < 256
unfolding plane_byte
plane_byte-lt x b i =
    omega (
      arith,
      bit_at-lt (get_or (get_or x 0 []) i 0) b,
      bit_at-lt (get_or (get_or x 1 []) i 0) b,
      bit_at-lt (get_or (get_or x 2 []) i 0) b,
      bit_at-lt (get_or (get_or x 3 []) i 0) b,
      bit_at-lt (get_or (get_or x 4 []) i 0) b,
      bit_at-lt (get_or (get_or x 5 []) i 0) b,
      bit_at-lt (get_or (get_or x 6 []) i 0) b,
      bit_at-lt (get_or (get_or x 7 []) i 0) b,
    )

-- the mixed bytes of a state are its mixed columns
pub mixed_state : (f : ℕ → ℕ) → ((i : ℕ) → f i < 256)
    → let at : ℕ → ℕ = λ i. mixed_byte (f i) (f (turned i 1)) (f (turned i 2)) (f (turned i 3)) in
    at 0 ∷ at 4 ∷ at 8 ∷ at 12 ∷ at 1 ∷ at 5 ∷ at 9 ∷ at 13 ∷ at 2 ∷ at 6 ∷ at 10 ∷ at 14 ∷ at 3 ∷ at 7 ∷ at 11 ∷ at 15 ∷ []
    ≡ mix_columns (f 0 ∷ f 4 ∷ f 8 ∷ f 12 ∷ f 1 ∷ f 5 ∷ f 9 ∷ f 13 ∷ f 2 ∷ f 6 ∷ f 10 ∷ f 14 ∷ f 3 ∷ f 7 ∷ f 11 ∷ f 15 ∷ [])
unfolding mix_columns
mixed_state f l =
    ap₂ ◌∷◌ (row_0 (f 0) (f 4) (f 8) (f 12) (l 0) (l 4) (l 8) (l 12))
    (ap₂ ◌∷◌ (row_1 (f 4) (f 8) (f 12) (f 0) (l 4) (l 8) (l 12) (l 0))
    (ap₂ ◌∷◌ (row_2 (f 8) (f 12) (f 0) (f 4) (l 8) (l 12) (l 0) (l 4))
    (ap₂ ◌∷◌ (row_3 (f 12) (f 0) (f 4) (f 8) (l 12) (l 0) (l 4) (l 8))
    (ap₂ ◌∷◌ (row_0 (f 1) (f 5) (f 9) (f 13) (l 1) (l 5) (l 9) (l 13))
    (ap₂ ◌∷◌ (row_1 (f 5) (f 9) (f 13) (f 1) (l 5) (l 9) (l 13) (l 1))
    (ap₂ ◌∷◌ (row_2 (f 9) (f 13) (f 1) (f 5) (l 9) (l 13) (l 1) (l 5))
    (ap₂ ◌∷◌ (row_3 (f 13) (f 1) (f 5) (f 9) (l 13) (l 1) (l 5) (l 9))
    (ap₂ ◌∷◌ (row_0 (f 2) (f 6) (f 10) (f 14) (l 2) (l 6) (l 10) (l 14))
    (ap₂ ◌∷◌ (row_1 (f 6) (f 10) (f 14) (f 2) (l 6) (l 10) (l 14) (l 2))
    (ap₂ ◌∷◌ (row_2 (f 10) (f 14) (f 2) (f 6) (l 10) (l 14) (l 2) (l 6))
    (ap₂ ◌∷◌ (row_3 (f 14) (f 2) (f 6) (f 10) (l 14) (l 2) (l 6) (l 10))
    (ap₂ ◌∷◌ (row_0 (f 3) (f 7) (f 11) (f 15) (l 3) (l 7) (l 11) (l 15))
    (ap₂ ◌∷◌ (row_1 (f 7) (f 11) (f 15) (f 3) (l 7) (l 11) (l 15) (l 3))
    (ap₂ ◌∷◌ (row_2 (f 11) (f 15) (f 3) (f 7) (l 11) (l 15) (l 3) (l 7))
    (ap₂ ◌∷◌ (row_3 (f 15) (f 3) (f 7) (f 11) (l 15) (l 3) (l 7) (l 11)) refl)))))))))))))))
