-- Horner's rule: the code's hash is the sum of powers.
use Rattle.std.proofs.Common.{◌≡◌, ℕ, suc, ◌^◌, ◌<◌, List, [], ◌∷◌, ◌++◌, length, bit_xor, refl, sym, ap, ◌∙◌, arith}
use Rattle.std.specs.Int.Bits.{xor_assoc, xor_zero_r}
use Rattle.eleos_base.specs.BlockField.{product, power}
use Rattle.eleos_base.specs.Ghash.{sum_of_powers}
use Rattle.eleos_base.proofs.BlockFieldLemmas.{product-xor_left, product-zero_left, product_assoc, product-one, product-lt, power-lt}
use Rattle.eleos_gcm.specs.Horner.{horner}

-- a factor h more
product-power : (h sum n : ℕ) → h < 2 ^ 128 → product (product sum h) (power h n) ≡ product sum (power h (suc n))
unfolding power
product-power h sum n below = product_assoc sum h (power h n) below (power-lt h n below)

-- the hash so far times a power, and the blocks' sum
pub horner_is : (h sum : ℕ) (xs : List ℕ) → h < 2 ^ 128 → sum < 2 ^ 128
    → horner h sum xs ≡ bit_xor (product sum (power h (length xs))) (sum_of_powers h xs)
unfolding horner sum_of_powers power
horner_is h sum [] below fits = sym (xor_zero_r (product sum (power h 0)) ∙ product-one sum fits)
horner_is h sum (x ∷ xs) below fits =
    let next = product (bit_xor sum x) h in
    let factor = power h (suc (length xs)) in
    horner_is h next xs below (product-lt (bit_xor sum x) h below)
    ∙ ap (λ y. bit_xor y (sum_of_powers h xs))
    (product-power h (bit_xor sum x) (length xs) below ∙ product-xor_left sum x factor)
    ∙ xor_assoc (product sum factor) (product x factor) (sum_of_powers h xs)

-- from 0 on the hash by Horner's rule is the sum of powers
pub horner_from_zero : (h : ℕ) (xs : List ℕ) → h < 2 ^ 128 → horner h 0 xs ≡ sum_of_powers h xs
horner_from_zero h xs below =
    horner_is h 0 xs below (omega arith)
    ∙ ap (λ y. bit_xor y (sum_of_powers h xs)) (product-zero_left (power h (length xs)))

-- the hash of more blocks goes on from the hash of those before them
pub horner-append : (h sum : ℕ) (xs ys : List ℕ) → horner h sum (xs ++ ys) ≡ horner h (horner h sum xs) ys
unfolding horner
horner-append h sum [] ys = refl
horner-append h sum (x ∷ xs) ys = horner-append h (product (bit_xor sum x) h) xs ys
