-- Strings of bytes as polynomials, modulo the field's: the leftmost bit is the coefficient of x^0.
use Rattle.std.proofs.Common.{◌≡◌, ℕ, zero, suc, ◌+◌, ◌*◌, ◌/◌, ◌%◌, ◌^◌, ◌<◌, ◌≤◌, List, [], ◌∷◌, ◌++◌, length, get_or, bit_xor, refl, sym, subst, ap, ap₂, ◌∙◌, arith}
use Rattle.std.proofs.lemmas.Nat.{pow_pos, pow-add, xor_block, xor_comm, xor_lt}
use Rattle.std.proofs.lemmas.Simd.{Each1-zip2, Each2-of, length-zip2}
use Rattle.std.proofs.Math.Nat.{mul_assoc, mul-le-mul_right, mul-lt-mul_of_pos_right}
use Rattle.std.specs.Int.{w128, to_be_bytes}
use Rattle.std.specs.Int.Bits.{xor_assoc, xor_zero_r}
use Rattle.std.specs.Simd.Lanes.{zip2, Each1}
use Rattle.eleos_base.specs.BlockField.{number_of, block_of, times_x, times_power_of_x}
use Rattle.eleos_lanes.specs.Rows.{value}
use Rattle.eleos_lanes.proofs.Mirrors.{sixteen_of}
use Rattle.eleos_base.proofs.BlockFieldLemmas.{xor_middle, times_power_of_x-xor}

-- v times x^8, by which a byte moves on
abbrev pub times_x8 : ℕ → ℕ
times_x8 v = times_power_of_x 8 v

-- ---- times x

times_x-even : (w : ℕ) → times_x (2 * w) ≡ w
unfolding times_x
times_x-even w =
    let even : 2 * w % 2 ≡ 0 = omega arith in
    let half : 2 * w / 2 ≡ w = omega arith in
    rw (even, half)

-- nothing falls out of a number whose n lowest bits are 0
pub times_power_of_x-shifted : (n w : ℕ) → times_power_of_x n (w * 2 ^ n) ≡ w
unfolding times_power_of_x
times_power_of_x-shifted zero w = omega arith
times_power_of_x-shifted (suc n) w =
    let one : suc n ≡ 1 + n = omega arith in
    let power : 2 ^ suc n ≡ 2 * 2 ^ n = ap (λ k. 2 ^ k) one ∙ pow-add 2 1 n in
    let double : w * 2 ^ suc n ≡ 2 * (w * 2 ^ n) = omega (arith, ap (λ z. w * z) power) in
    ap (λ v. times_power_of_x n (times_x v)) double ∙ ap (times_power_of_x n) (times_x-even (w * 2 ^ n))
    ∙ times_power_of_x-shifted n w

pub times_power_of_x-add : (m n v : ℕ) → times_power_of_x (m + n) v ≡ times_power_of_x n (times_power_of_x m v)
unfolding times_power_of_x
times_power_of_x-add zero n v =
    let same : 0 + n ≡ n = omega arith in
    ap (λ k. times_power_of_x k v) same
times_power_of_x-add (suc m) n v =
    let next : suc m + n ≡ suc (m + n) = omega arith in
    ap (λ k. times_power_of_x k v) next ∙ times_power_of_x-add m n (times_x v)

-- ---- values of strings

scaled : (x y : ℕ) → bit_xor x y * 2 ^ 120 ≡ bit_xor (x * 2 ^ 120) (y * 2 ^ 120)
scaled x y =
    let whole = xor_block 120 x y 0 0 (omega arith) (omega arith) in
    let a : x * 2 ^ 120 + 0 ≡ x * 2 ^ 120 = omega arith in
    let b : y * 2 ^ 120 + 0 ≡ y * 2 ^ 120 = omega arith in
    sym (sym (ap₂ bit_xor a b) ∙ whole ∙ omega arith)

zero_left : (v : ℕ) → bit_xor 0 v ≡ v
zero_left v = xor_comm 0 v ∙ xor_zero_r v

-- the value of the sum of two strings is the sum of their values
pub value-zip2 : (xs ys : List ℕ) → length xs ≡ length ys → value (zip2 bit_xor xs ys) ≡ bit_xor (value xs) (value ys)
unfolding value
value-zip2 [] [] same = refl
value-zip2 (x ∷ xs) [] same = absurd (omega arith)
value-zip2 [] (y ∷ ys) same = absurd (omega arith)
value-zip2 (x ∷ xs) (y ∷ ys) same =
    ap₂ bit_xor (scaled x y) (ap times_x8 (value-zip2 xs ys (omega arith)) ∙ times_power_of_x-xor 8 (value xs) (value ys))
    ∙ xor_middle (x * 2 ^ 120) (y * 2 ^ 120) (times_x8 (value xs)) (times_x8 (value ys))

-- a zero at the end adds nothing
pub value-zero_last : (xs : List ℕ) → value (xs ++ 0 ∷ []) ≡ value xs
unfolding value times_power_of_x times_x
value-zero_last [] = refl
value-zero_last (x ∷ xs) = ap (λ v. bit_xor (x * 2 ^ 120) (times_x8 v)) (value-zero_last xs)

-- a zero in front moves all bytes on
pub value-moved : (xs : List ℕ) → value (0 ∷ xs) ≡ times_x8 (value xs)
unfolding value
value-moved xs = zero_left (times_x8 (value xs))

-- a string behind another adds its value times x to the number of bits in front of it
pub value-append : (xs ys : List ℕ) → value (xs ++ ys) ≡ bit_xor (value xs) (times_power_of_x (8 * length xs) (value ys))
unfolding value times_power_of_x
value-append [] ys = sym (zero_left (value ys))
value-append (x ∷ xs) ys =
    let n = 8 * length xs in
    let more : 8 * length xs + 8 ≡ 8 * length (x ∷ xs) = omega arith in
    ap (λ v. bit_xor (x * 2 ^ 120) (times_x8 v)) (value-append xs ys)
    ∙ ap (bit_xor (x * 2 ^ 120)) (times_power_of_x-xor 8 (value xs) (times_power_of_x n (value ys)))
    ∙ sym (xor_assoc (x * 2 ^ 120) (times_x8 (value xs)) (times_x8 (times_power_of_x n (value ys))))
    ∙ ap (bit_xor (bit_xor (x * 2 ^ 120) (times_x8 (value xs))))
    (sym (times_power_of_x-add n 8 (value ys)) ∙ ap (λ k. times_power_of_x k (value ys)) more)

-- ---- a block's value is its number

-- a string as a number, its leftmost byte the highest
unfoldable pub big : List ℕ → ℕ
big [] = 0
big (b ∷ bs) = b * 2 ^ (8 * length bs) + big bs

-- a string of n bytes is a number below 2 ^ (8 n)
pub big-lt : (bs : List ℕ) → Each1 (λ b. b < 256) bs → big bs < 2 ^ (8 * length bs)
unfolding big
big-lt [] fits = omega arith
big-lt (b ∷ bs) fits =
    let rest = big-lt bs fits.1 in
    let size : 8 * length (b ∷ bs) ≡ 8 + 8 * length bs = omega arith in
    let p = 2 ^ (8 * length bs) in
    let whole : 2 ^ (8 + 8 * length bs) ≡ 256 * p = pow-add 2 8 (8 * length bs) in
    let most : b * p ≤ 255 * p = mul-le-mul_right {m = b} {n = 255} p (omega (arith, fits.0)) in
    rw (size, whole) (omega arith)

value_is : (bs : List ℕ) (k : ℕ) → length bs + k ≡ 16 → Each1 (λ b. b < 256) bs → value bs ≡ big bs * 2 ^ (8 * k)
unfolding value big
value_is [] k size fits = omega arith
value_is (b ∷ bs) k size fits =
    let n = big bs in
    let m = 8 * length bs in
    let rest : value bs ≡ big bs * 2 ^ (8 * suc k) = value_is bs (suc k) (omega arith) fits.1 in
    let eight : 8 * suc k ≡ 8 * k + 8 = omega arith in
    let split : big bs * 2 ^ (8 * suc k) ≡ big bs * 2 ^ (8 * k) * 2 ^ 8 =
    ap (λ j. big bs * 2 ^ j) eight ∙ ap (λ q. big bs * q) (pow-add 2 (8 * k) 8) ∙ sym (mul_assoc (big bs) (2 ^ (8 * k)) (2 ^ 8)) in
    let moved : times_x8 (value bs) ≡ big bs * 2 ^ (8 * k) = ap times_x8 (rest ∙ split) ∙ times_power_of_x-shifted 8 (big bs * 2 ^ (8 * k)) in
    let places : 120 ≡ 8 * length bs + 8 * k = omega arith in
    let power : 2 ^ 120 ≡ 2 ^ (8 * length bs) * 2 ^ (8 * k) = ap (λ j. 2 ^ j) places ∙ pow-add 2 (8 * length bs) (8 * k) in
    let small : big bs * 2 ^ (8 * k) < 2 ^ 120 =
    rw power (mul-lt-mul_of_pos_right (big-lt bs fits.1) (pow_pos (8 * k))) in
    let sum = xor_block 120 b 0 0 (big bs * 2 ^ (8 * k)) (omega arith) small in
    let left : b * 2 ^ 120 + 0 ≡ b * 2 ^ 120 = omega arith in
    let right : 0 * 2 ^ 120 + big bs * 2 ^ (8 * k) ≡ big bs * 2 ^ (8 * k) = omega arith in
    ap (bit_xor (b * 2 ^ 120)) moved ∙ sym (ap₂ bit_xor left right) ∙ sum
    ∙ ap₂ (λ x y. x * 2 ^ 120 + y) (xor_zero_r b) (zero_left (big bs * 2 ^ (8 * k)))
    ∙ omega (arith, ap (λ z. b * z) power)

-- a block's number
pub block_is : (b0 b1 b2 b3 b4 b5 b6 b7 b8 b9 b10 b11 b12 b13 b14 b15 : ℕ)
    → let bs = b0 ∷ b1 ∷ b2 ∷ b3 ∷ b4 ∷ b5 ∷ b6 ∷ b7 ∷ b8 ∷ b9 ∷ b10 ∷ b11 ∷ b12 ∷ b13 ∷ b14 ∷ b15 ∷ [] in
    big bs * 2 ^ 0 ≡ number_of bs
unfolding big number_of
block_is b0 b1 b2 b3 b4 b5 b6 b7 b8 b9 b10 b11 b12 b13 b14 b15 = omega arith

-- the value of a block of bytes is the block's number
pub value_of_block : (bs : List ℕ) → length bs ≡ 16 → Each1 (λ b. b < 256) bs → value bs ≡ number_of bs
value_of_block bs long fits =
    let at : ℕ → ℕ = λ i. get_or bs i 0 in
    let is : big bs * 2 ^ 0 ≡ number_of bs =
    subst (λ xs. big xs * 2 ^ 0 ≡ number_of xs) (sixteen_of bs long)
    (block_is (at 0) (at 1) (at 2) (at 3) (at 4) (at 5) (at 6) (at 7) (at 8) (at 9) (at 10) (at 11) (at 12) (at 13) (at 14) (at 15)) in
    value_is bs 0 (omega arith) fits ∙ is

-- 16 bytes as a number, the leftmost highest, are the block's number
pub big_is : (bs : List ℕ) → length bs ≡ 16 → big bs ≡ number_of bs
big_is bs long =
    let at : ℕ → ℕ = λ i. get_or bs i 0 in
    let is : big bs * 2 ^ 0 ≡ number_of bs =
    subst (λ xs. big xs * 2 ^ 0 ≡ number_of xs) (sixteen_of bs long)
    (block_is (at 0) (at 1) (at 2) (at 3) (at 4) (at 5) (at 6) (at 7) (at 8) (at 9) (at 10) (at 11) (at 12) (at 13) (at 14) (at 15)) in
    omega (arith, is)

-- a number's bytes make it up
pub number-block : (n : ℕ) → n < 2 ^ 128 → number_of (block_of n) ≡ n
unfolding block_of number_of
number-block n below = omega arith

block-fits : (n : ℕ) → Each1 (λ b. b < 256) (block_of n)
unfolding block_of
block-fits n =
    (omega arith, (omega arith, (omega arith, (omega arith, (omega arith, (omega arith, (omega arith, (omega arith, (omega arith, (omega arith, (omega arith, (omega arith, (omega arith, (omega arith, (omega arith, (omega arith, tt))))))))))))))))

-- the block of a number has 16 bytes
pub length-block_of : (n : ℕ) → length (block_of n) ≡ 16
unfolding block_of
length-block_of n = refl

-- a number's bytes have its value
pub value_of_number : (n : ℕ) → n < 2 ^ 128 → value (block_of n) ≡ n
value_of_number n below = value_of_block (block_of n) (length-block_of n) (block-fits n) ∙ number-block n below

-- the block of a number is its 16 bytes, the highest first
pub block_of_is : (n : ℕ) → block_of n ≡ to_be_bytes w128 n
unfolding block_of
block_of_is n = refl

-- the sum of a block and a number's bytes
pub number-xor : (bs : List ℕ) (n : ℕ) → length bs ≡ 16 → Each1 (λ b. b < 256) bs → n < 2 ^ 128
    → number_of (zip2 bit_xor bs (block_of n)) ≡ bit_xor n (number_of bs)
number-xor bs n long fits below =
    let same : length bs ≡ length (block_of n) = omega (arith, length-block_of n) in
    let bytes : Each1 (λ b. b < 256) (zip2 bit_xor bs (block_of n)) =
    Each1-zip2 bit_xor (λ b. b < 256) bs (block_of n)
    (Each2-of (λ b. b < 256) (λ b. b < 256) (λ a b. bit_xor a b < 256) (λ a b la lb. xor_lt 8 a b la lb) bs (block_of n) fits (block-fits n)) in
    sym (value_of_block (zip2 bit_xor bs (block_of n)) (length-zip2 bit_xor bs (block_of n) same ∙ long) bytes)
    ∙ value-zip2 bs (block_of n) same
    ∙ ap₂ bit_xor (value_of_block bs long fits) (value_of_number n below)
    ∙ xor_comm (number_of bs) n
