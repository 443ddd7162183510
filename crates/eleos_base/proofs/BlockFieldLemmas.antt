-- The product of blocks is additive in both factors and associative.
use Rattle.std.proofs.Common.{◌≡◌, ℕ, zero, suc, ◌<◌, ◌^◌, ◌+◌, ◌-◌, ◌*◌, ◌/◌, ◌%◌, true, false, cond, eqb, bit_xor, refl, sym, ◌∙◌, ap, ap₂, subst, arith, inl, inr, eq-zero-or-pos}
use Rattle.std.proofs.lemmas.Nat.{xor_block, xor_comm, xor_lt, xor_shr, xor_mod}
use Rattle.std.proofs.lemmas.Nat.Bits.{bit_at-lt, bit_at-suc, bit_at_above, bit_at_lowest, bit_at-zero}
use Rattle.std.specs.Int.{bit_at}
use Rattle.std.specs.Int.Bits.{xor_assoc, xor_self, xor_zero_r}
use Rattle.eleos_base.specs.BlockField.{reduction, times_x, times_power_of_x, where_set, times_bits, product, one, power}
use Rattle.eleos_base.proofs.Tables.{agree, agree_at}

-- ---- sums

-- four parts of a sum, with the middle two exchanged
pub xor_middle : (a b c d : ℕ) → bit_xor (bit_xor a b) (bit_xor c d) ≡ bit_xor (bit_xor a c) (bit_xor b d)
xor_middle a b c d =
    xor_assoc a b (bit_xor c d)
    ∙ ap (bit_xor a) (sym (xor_assoc b c d) ∙ ap (λ x. bit_xor x d) (xor_comm b c) ∙ xor_assoc c b d)
    ∙ sym (xor_assoc a c (bit_xor b d))

where_set-xor : (bit v w : ℕ) → where_set bit (bit_xor v w) ≡ bit_xor (where_set bit v) (where_set bit w)
unfolding where_set
where_set-xor bit v w = elim (eqb bit 1) as (λ b. cond b (bit_xor v w) 0 ≡ bit_xor (cond b v 0) (cond b w 0)) [ true ↦ refl | false ↦ refl ]

where_set-xor_bits : (a b v : ℕ) → a < 2 → b < 2 → where_set (bit_xor a b) v ≡ bit_xor (where_set a v) (where_set b v)
unfolding where_set
where_set-xor_bits zero zero v la lb = refl
where_set-xor_bits zero (suc zero) v la lb = refl
where_set-xor_bits (suc zero) zero v la lb = sym (xor_zero_r v)
where_set-xor_bits (suc zero) (suc zero) v la lb = sym (xor_self v)
where_set-xor_bits (suc (suc a)) b v la lb = absurd (omega arith)
where_set-xor_bits zero (suc (suc b)) v la lb = absurd (omega arith)
where_set-xor_bits (suc zero) (suc (suc b)) v la lb = absurd (omega arith)

-- what f keeps of nothing, it keeps of what may not be there
where_set_at : (f : ℕ → ℕ) (bit v : ℕ) → f 0 ≡ 0 → f (where_set bit v) ≡ where_set bit (f v)
unfolding where_set
where_set_at f bit v none = elim (eqb bit 1) as (λ b. f (cond b v 0) ≡ cond b (f v) 0) [ true ↦ refl | false ↦ none ]

bit_at-xor : (a b i : ℕ) → bit_at (bit_xor a b) i ≡ bit_xor (bit_at a i) (bit_at b i)
bit_at-xor a b i = ap (λ x. x % 2) (xor_shr a b i) ∙ xor_mod (a / 2 ^ i) (b / 2 ^ i) 1

-- two functions that keep sums, and agree at the powers of two, agree at each number of n bits
abbrev pub KeepsSums : (ℕ → ℕ) → Type 0
KeepsSums f = (a b : ℕ) → f (bit_xor a b) ≡ bit_xor (f a) (f b)

split_top : (n s : ℕ) → s < 2 ^ n → bit_xor (2 ^ n) s ≡ 2 ^ n + s
split_top n s below =
    let two : 0 < 2 ^ n = omega arith in
    let whole : bit_xor (1 * 2 ^ n + 0) (0 * 2 ^ n + s) ≡ bit_xor 1 0 * 2 ^ n + bit_xor 0 s = xor_block n 1 0 0 s two below in
    let left : 1 * 2 ^ n + 0 ≡ 2 ^ n = omega arith in
    let right : 0 * 2 ^ n + s ≡ s = omega arith in
    let sum : bit_xor 1 0 * 2 ^ n + bit_xor 0 s ≡ 2 ^ n + s = omega arith in
    sym (ap₂ bit_xor left right) ∙ whole ∙ sum

-- functions that keep sums and agree at 0 and at each power of two below 2 ^ n agree at each number below 2 ^ n
pub same_from_powers : (f g : ℕ → ℕ) → KeepsSums f → KeepsSums g → f 0 ≡ g 0 → (n : ℕ) → ((i : ℕ) → i < n → f (2 ^ i) ≡ g (2 ^ i))
    → (x : ℕ) → x < 2 ^ n → f x ≡ g x
same_from_powers f g sum_f sum_g none zero on x below =
    let e : 0 ≡ x = omega arith in
    subst (λ y. f y ≡ g y) e none
same_from_powers f g sum_f sum_g none (suc n) on x below =
    let double : 2 ^ suc n ≡ 2 ^ n + 2 ^ n = omega arith in
    elim (eq-zero-or-pos (2 ^ n - x)) [
      | inl high ↦
          let s = x - 2 ^ n in
          let small : s < 2 ^ n = omega arith in
          let e : 2 ^ n + s ≡ x = omega arith in
          let whole : bit_xor (2 ^ n) s ≡ x = split_top n s small ∙ e in
          let rest = same_from_powers f g sum_f sum_g none n (λ i k. on i (omega arith)) s small in
          subst (λ y. f y ≡ g y) whole (sum_f (2 ^ n) s ∙ ap₂ bit_xor (on n (omega arith)) rest ∙ sym (sum_g (2 ^ n) s))
      | inr low ↦ same_from_powers f g sum_f sum_g none n (λ i k. on i (omega arith)) x (omega arith)
    ]

-- ---- times x

-- times x as a sum: the number shifted by one bit, and R where a bit fell out
pub times_x_is : (v : ℕ) → times_x v ≡ bit_xor (v / 2) (where_set (v % 2) reduction)
unfolding times_x where_set
times_x_is v = elim (eqb (v % 2) 1) as (λ b. cond b (bit_xor (v / 2) reduction) (v / 2) ≡ bit_xor (v / 2) (cond b reduction 0)) [ true ↦ refl | false ↦ sym (xor_zero_r (v / 2)) ]

pub times_x-zero : times_x 0 ≡ 0
unfolding times_x
times_x-zero = refl

pub times_x-xor : KeepsSums times_x
times_x-xor v w =
    let low : where_set (bit_xor v w % 2) reduction ≡ bit_xor (where_set (v % 2) reduction) (where_set (w % 2) reduction) =
    ap (λ b. where_set b reduction) (xor_mod v w 1) ∙ where_set-xor_bits (v % 2) (w % 2) reduction (omega arith) (omega arith) in
    times_x_is (bit_xor v w) ∙ ap₂ bit_xor (xor_shr v w 1) low
    ∙ xor_middle (v / 2) (w / 2) (where_set (v % 2) reduction) (where_set (w % 2) reduction)
    ∙ sym (ap₂ bit_xor (times_x_is v) (times_x_is w))

reduction-lt : reduction < 2 ^ 128
unfolding reduction
reduction-lt = omega arith

where_set-lt : (bit v n : ℕ) → v < 2 ^ n → where_set bit v < 2 ^ n
unfolding where_set
where_set-lt bit v n below = elim (eqb bit 1) as (λ b. cond b v 0 < 2 ^ n) [ true ↦ below | false ↦ omega arith ]

pub times_x-lt : (v : ℕ) → v < 2 ^ 128 → times_x v < 2 ^ 128
times_x-lt v below =
    rw (times_x_is v) (xor_lt 128 (v / 2) (where_set (v % 2) reduction) (omega arith) (where_set-lt (v % 2) reduction 128 reduction-lt))

-- a sum times x^n is the sum of the two products
pub times_power_of_x-xor : (n : ℕ) → KeepsSums (times_power_of_x n)
unfolding times_power_of_x
times_power_of_x-xor zero v w = refl
times_power_of_x-xor (suc n) v w = ap (times_power_of_x n) (times_x-xor v w) ∙ times_power_of_x-xor n (times_x v) (times_x w)

times_x-times_power_of_x : (n v : ℕ) → times_x (times_power_of_x n v) ≡ times_power_of_x n (times_x v)
unfolding times_power_of_x
times_x-times_power_of_x zero v = refl
times_x-times_power_of_x (suc n) v = times_x-times_power_of_x n (times_x v)

-- ---- the product

pub times_bits-xor : (n u : ℕ) → KeepsSums (times_bits n u)
unfolding times_bits
times_bits-xor zero u v w = refl
times_bits-xor (suc n) u v w =
    let bit = bit_at u n in
    ap₂ bit_xor (where_set-xor bit v w) (ap (times_bits n u) (times_x-xor v w) ∙ times_bits-xor n u (times_x v) (times_x w))
    ∙ xor_middle (where_set bit v) (where_set bit w) (times_bits n u (times_x v)) (times_bits n u (times_x w))

times_bits-xor_left : (n u w v : ℕ) → times_bits n (bit_xor u w) v ≡ bit_xor (times_bits n u v) (times_bits n w v)
unfolding times_bits
times_bits-xor_left zero u w v = refl
times_bits-xor_left (suc n) u w v =
    let bit : where_set (bit_at (bit_xor u w) n) v ≡ bit_xor (where_set (bit_at u n) v) (where_set (bit_at w n) v) =
    ap (λ b. where_set b v) (bit_at-xor u w n) ∙ where_set-xor_bits (bit_at u n) (bit_at w n) v (bit_at-lt u n) (bit_at-lt w n) in
    ap₂ bit_xor bit (times_bits-xor_left n u w (times_x v))
    ∙ xor_middle (where_set (bit_at u n) v) (where_set (bit_at w n) v) (times_bits n u (times_x v)) (times_bits n w (times_x v))

pub times_bits-zero_left : (n v : ℕ) → times_bits n 0 v ≡ 0
unfolding times_bits where_set
times_bits-zero_left zero v = refl
times_bits-zero_left (suc n) v = rw (bit_at-zero n, times_bits-zero_left n (times_x v))

pub times_bits-zero : (n u : ℕ) → times_bits n u 0 ≡ 0
unfolding times_bits
times_bits-zero zero u = refl
times_bits-zero (suc n) u =
    ap₂ bit_xor (sym (where_set_at (λ x. 0) (bit_at u n) 0 refl)) (ap (times_bits n u) times_x-zero ∙ times_bits-zero n u)

-- a block times any bits is a block
pub times_bits-lt : (n u v : ℕ) → v < 2 ^ 128 → times_bits n u v < 2 ^ 128
unfolding times_bits
times_bits-lt zero u v below = omega arith
times_bits-lt (suc n) u v below =
    xor_lt 128 (where_set (bit_at u n) v) (times_bits n u (times_x v)) (where_set-lt (bit_at u n) v 128 below)
    (times_bits-lt n u (times_x v) (times_x-lt v below))

-- a factor x may stand at the second factor or before the product
pub times_bits-times_x : (n u v : ℕ) → times_bits n u (times_x v) ≡ times_x (times_bits n u v)
unfolding times_bits
times_bits-times_x zero u v = sym times_x-zero
times_bits-times_x (suc n) u v =
    ap₂ bit_xor (sym (where_set_at times_x (bit_at u n) v times_x-zero)) (times_bits-times_x n u (times_x v))
    ∙ sym (times_x-xor (where_set (bit_at u n) v) (times_bits n u (times_x v)))

-- the lowest bit of u, apart
times_bits_last : (n u v : ℕ) → times_bits (suc n) u v ≡ bit_xor (times_bits n (u / 2) v) (where_set (u % 2) (times_power_of_x n v))
unfolding times_bits times_power_of_x
times_bits_last zero u v = xor_zero_r (where_set (bit_at u 0) v) ∙ ap (λ b. where_set b v) (bit_at_lowest u)
times_bits_last (suc n) u v =
    ap₂ bit_xor (ap (λ b. where_set b v) (bit_at-suc u n)) (times_bits_last n u (times_x v))
    ∙ sym (xor_assoc (where_set (bit_at (u / 2) n) v) (times_bits n (u / 2) (times_x v)) (where_set (u % 2) (times_power_of_x n (times_x v))))

-- u / 2 has no bit at u's top place
times_bits_half : (n u v : ℕ) → u < 2 ^ suc n → times_bits (suc n) (u / 2) v ≡ times_x (times_bits n (u / 2) v)
unfolding times_bits where_set
times_bits_half n u v below =
    let none : bit_at (u / 2) n ≡ 0 = sym (bit_at-suc u n) ∙ bit_at_above u (suc n) (suc n) below (omega arith) in
    rw none (times_bits-times_x n (u / 2) v)

-- 0 times x^n is 0
pub times_power_of_x-zero : (n : ℕ) → times_power_of_x n 0 ≡ 0
unfolding times_power_of_x
times_power_of_x-zero zero = refl
times_power_of_x-zero (suc n) = ap (times_power_of_x n) times_x-zero ∙ times_power_of_x-zero n

-- x^128 is R: the sum of the powers of x that R's bits name
on_powers : agree (λ i. times_bits 128 reduction (2 ^ i)) (λ i. times_power_of_x 128 (2 ^ i)) 128 ≡ true
unfolding times_bits where_set times_x reduction times_power_of_x
on_powers = refl

reduction_is : (v : ℕ) → v < 2 ^ 128 → times_bits 128 reduction v ≡ times_power_of_x 128 v
reduction_is v below =
    same_from_powers (times_bits 128 reduction) (times_power_of_x 128) (times_bits-xor 128 reduction) (times_power_of_x-xor 128)
    (times_bits-zero 128 reduction ∙ sym (times_power_of_x-zero 128)) 128
    (agree_at (λ i. times_bits 128 reduction (2 ^ i)) (λ i. times_power_of_x 128 (2 ^ i)) 128 on_powers) v below

times_x-times_bits : (n u v : ℕ) → u < 2 ^ suc n → times_bits (suc n) reduction v ≡ times_power_of_x (suc n) v
    → times_bits (suc n) (times_x u) v ≡ times_x (times_bits (suc n) u v)
unfolding times_power_of_x
times_x-times_bits n u v below is =
    let half = times_bits n (u / 2) v in
    let last = where_set (u % 2) (times_power_of_x n v) in
    let low = where_set (u % 2) reduction in
    let low_is : times_bits (suc n) low v ≡ where_set (u % 2) (times_power_of_x n (times_x v)) =
    where_set_at (λ x. times_bits (suc n) x v) (u % 2) reduction (times_bits-zero_left (suc n) v) ∙ ap (where_set (u % 2)) is in
    let last_is : times_x last ≡ where_set (u % 2) (times_power_of_x n (times_x v)) =
    where_set_at times_x (u % 2) (times_power_of_x n v) times_x-zero ∙ ap (where_set (u % 2)) (times_x-times_power_of_x n v) in
    ap (λ x. times_bits (suc n) x v) (times_x_is u) ∙ times_bits-xor_left (suc n) (u / 2) low v
    ∙ ap₂ bit_xor (times_bits_half n u v below) (low_is ∙ sym last_is)
    ∙ sym (times_x-xor half last) ∙ ap times_x (sym (times_bits_last n u v))

-- a factor x may stand at the first factor or before the product
times_x-product : (u v : ℕ) → u < 2 ^ 128 → v < 2 ^ 128 → product (times_x u) v ≡ times_x (product u v)
unfolding product
times_x-product u v below_u below_v = times_x-times_bits 127 u v below_u (reduction_is v below_v)

-- a sum as first factor gives the sum of the two products
pub product-xor_left : (u w v : ℕ) → product (bit_xor u w) v ≡ bit_xor (product u v) (product w v)
unfolding product
product-xor_left u w v = times_bits-xor_left 128 u w v

pub product-xor : (u v w : ℕ) → product u (bit_xor v w) ≡ bit_xor (product u v) (product u w)
unfolding product
product-xor u v w = times_bits-xor 128 u v w

-- 0 as first factor gives 0
pub product-zero_left : (v : ℕ) → product 0 v ≡ 0
unfolding product
product-zero_left v = times_bits-zero_left 128 v

-- a product whose second factor is a block is a block
pub product-lt : (u v : ℕ) → v < 2 ^ 128 → product u v < 2 ^ 128
unfolding product
product-lt u v below = times_bits-lt 128 u v below

product-times_bits : (n u v w : ℕ) → v < 2 ^ 128 → w < 2 ^ 128 → product (times_bits n u v) w ≡ times_bits n u (product v w)
unfolding times_bits
product-times_bits zero u v w below_v below_w = product-zero_left w
product-times_bits (suc n) u v w below_v below_w =
    product-xor_left (where_set (bit_at u n) v) (times_bits n u (times_x v)) w
    ∙ ap₂ bit_xor (where_set_at (λ x. product x w) (bit_at u n) v (product-zero_left w))
    (product-times_bits n u (times_x v) w (times_x-lt v below_v) below_w ∙ ap (times_bits n u) (times_x-product v w below_v below_w))

pub product_is : (u v : ℕ) → product u v ≡ times_bits 128 u v
unfolding product
product_is u v = refl

-- of three factors, the last two of them blocks, either pair may be multiplied first
pub product_assoc : (u v w : ℕ) → v < 2 ^ 128 → w < 2 ^ 128 → product (product u v) w ≡ product u (product v w)
product_assoc u v w below_v below_w =
    ap (λ x. product x w) (product_is u v) ∙ product-times_bits 128 u v w below_v below_w ∙ sym (product_is u (product v w))

one-lt : one < 2 ^ 128
unfolding one
one-lt = omega arith

-- the powers of a block are blocks
pub power-lt : (h n : ℕ) → h < 2 ^ 128 → power h n < 2 ^ 128
unfolding power
power-lt h zero below = one-lt
power-lt h (suc n) below = product-lt h (power h n) (power-lt h n below)

ones_on_powers : agree (λ i. times_bits 128 (2 ^ i) one) (λ i. 2 ^ i) 128 ≡ true
unfolding times_bits where_set times_x reduction one
ones_on_powers = refl

-- a block times the block 1 is that block
pub product-one : (u : ℕ) → u < 2 ^ 128 → product u one ≡ u
unfolding product
product-one u below =
    same_from_powers (λ x. times_bits 128 x one) (λ x. x) (λ a b. times_bits-xor_left 128 a b one) (λ a b. refl)
    (times_bits-zero_left 128 one) 128 (agree_at (λ i. times_bits 128 (2 ^ i) one) (λ i. 2 ^ i) 128 ones_on_powers) u below
