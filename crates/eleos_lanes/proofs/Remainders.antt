-- The remainder of a polynomial of 256 coefficients.
use Rattle.std.proofs.Common.{◌≡◌, ℕ, ◌+◌, ◌*◌, ◌/◌, ◌%◌, ◌^◌, ◌<◌, true, bit_xor, refl, sym, ap, ap₂, ◌∙◌, arith}
use Rattle.std.proofs.lemmas.Nat.{pow_pos, xor_block, xor_shr, xor_mod}
use Rattle.eleos_base.specs.BlockField.{times_power_of_x, times_x, reduction}
use Rattle.eleos_base.proofs.Tables.{agree, agree_at}
use Rattle.eleos_base.proofs.BlockFieldLemmas.{KeepsSums, same_from_powers, xor_middle, times_power_of_x-xor, times_power_of_x-zero}

shifted_left : ℕ → ℕ → ℕ
shifted_left k v = v * 2 ^ k % 2 ^ 128

shifted_left-xor : (k : ℕ) → KeepsSums (shifted_left k)
unfolding shifted_left
shifted_left-xor k a b =
    let some : 0 < 2 ^ k = omega (arith, pow_pos k) in
    let whole = xor_block k a b 0 0 some some in
    let left : a * 2 ^ k + 0 ≡ a * 2 ^ k = omega arith in
    let right : b * 2 ^ k + 0 ≡ b * 2 ^ k = omega arith in
    let sum : bit_xor a b * 2 ^ k ≡ bit_xor (a * 2 ^ k) (b * 2 ^ k) = sym (sym (ap₂ bit_xor left right) ∙ whole ∙ omega arith) in
    ap (λ v. v % 2 ^ 128) sum ∙ xor_mod (a * 2 ^ k) (b * 2 ^ k) 128

-- sums of what keeps sums keep sums
both-xor : (f g : ℕ → ℕ) → KeepsSums f → KeepsSums g → KeepsSums (λ v. bit_xor (f v) (g v))
both-xor f g sum_f sum_g a b = ap₂ bit_xor (sum_f a b) (sum_g a b) ∙ xor_middle (f a) (f b) (g a) (g b)

-- what comes back from the right
abbrev pub folded : ℕ → ℕ
folded v = bit_xor (bit_xor (bit_xor v (v * 2 ^ 127 % 2 ^ 128)) (v * 2 ^ 126 % 2 ^ 128)) (v * 2 ^ 121 % 2 ^ 128)

abbrev pub spread : ℕ → ℕ
spread v = bit_xor (bit_xor (bit_xor v (v / 2)) (v / 4)) (v / 128)

folded-xor : KeepsSums folded
unfolding shifted_left
folded-xor =
    both-xor (λ v. bit_xor (bit_xor v (shifted_left 127 v)) (shifted_left 126 v)) (shifted_left 121)
    (both-xor (λ v. bit_xor v (shifted_left 127 v)) (shifted_left 126)
    (both-xor (λ v. v) (shifted_left 127) (λ a b. refl) (shifted_left-xor 127)) (shifted_left-xor 126))
    (shifted_left-xor 121)

spread-xor : KeepsSums spread
spread-xor =
    both-xor (λ v. bit_xor (bit_xor v (v / 2)) (v / 4)) (λ v. v / 128)
    (both-xor (λ v. bit_xor v (v / 2)) (λ v. v / 4)
    (both-xor (λ v. v) (λ v. v / 2) (λ a b. refl) (λ a b. xor_shr a b 1)) (λ a b. xor_shr a b 2))
    (λ a b. xor_shr a b 7)

on_powers : agree (λ i. spread (folded (2 ^ i))) (λ i. times_power_of_x 128 (2 ^ i)) 128 ≡ true
unfolding times_power_of_x times_x reduction
on_powers = refl

-- v times x^128
pub spread_folded : (v : ℕ) → v < 2 ^ 128 → spread (folded v) ≡ times_power_of_x 128 v
spread_folded v below =
    same_from_powers (λ x. spread (folded x)) (times_power_of_x 128)
    (λ a b. ap spread (folded-xor a b) ∙ spread-xor (folded a) (folded b)) (times_power_of_x-xor 128)
    (sym (times_power_of_x-zero 128)) 128
    (agree_at (λ i. spread (folded (2 ^ i))) (λ i. times_power_of_x 128 (2 ^ i)) 128 on_powers) v below
