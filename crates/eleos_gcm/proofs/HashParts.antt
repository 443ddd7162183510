-- The hash of the aad, the ciphertext and their lengths, taken in one after another.
use Rattle.std.proofs.Common.{◌≡◌, ℕ, ◌+◌, ◌*◌, ◌/◌, ◌^◌, ◌<◌, List, ◌++◌, length, sym, ap, ◌∙◌, arith, length-append}
use Rattle.eleos_base.specs.Ghash.{blocks, sum_of_powers}
use Rattle.eleos_base.specs.Gcm.{block_count, padded}
use Rattle.eleos_gcm.specs.Horner.{horner}
use Rattle.eleos_gcm.proofs.Padding.{length-padded, padded_whole, blocks-append}
use Rattle.eleos_gcm.proofs.HornerRule.{horner_from_zero, horner-append}

-- the hash of a string after a hash, as the code has it
abbrev then_hashed : ℕ → ℕ → List ℕ → ℕ
then_hashed h sum bytes = horner h sum (blocks (block_count (length bytes)) (padded bytes))

-- the hash of aad, text and a last block, one after another, is the sum of powers over all their blocks, aad and text padded
pub hash_in_parts : (h : ℕ) (aad text last : List ℕ) → h < 2 ^ 128 → length last ≡ 16
    → then_hashed h (then_hashed h (then_hashed h 0 aad) text) last
    ≡ sum_of_powers h (blocks (length (padded aad ++ padded text ++ last) / 16) (padded aad ++ padded text ++ last))
hash_in_parts h aad text last below size =
    let n = block_count (length aad) in
    let m = block_count (length text) in
    let front = padded aad ++ padded text in
    let front_size : length front ≡ 16 * (n + m) =
    omega (arith, length-append (padded aad) (padded text), length-padded aad, length-padded text) in
    let count : length (front ++ last) / 16 ≡ n + m + 1 = omega (arith, length-append front last, front_size, size) in
    let one : block_count (length last) ≡ 1 = omega (arith, size) in
    let xs = blocks n (padded aad) in
    let ys = blocks m (padded text) in
    let zs = blocks 1 last in
    let parts : blocks (n + m + 1) (front ++ last) ≡ xs ++ ys ++ zs =
    blocks-append (n + m) 1 front last front_size
    ∙ ap (λ b. b ++ zs) (blocks-append n m (padded aad) (padded text) (length-padded aad)) in
    rw (count, parts, padded_whole last 1 size, one)
    (ap (λ s. horner h s zs) (sym (horner-append h 0 xs ys)) ∙ sym (horner-append h 0 (xs ++ ys) zs)
    ∙ horner_from_zero h (xs ++ ys ++ zs) below)
