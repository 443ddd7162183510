-- The hash of a string, four blocks at a time.
use Rattle.std.proofs.Common.{◌≡◌, ℕ, zero, suc, ◌+◌, ◌-◌, ◌*◌, ◌≤◌, ◌<◌, ◌^◌, List, ◌∷◌, ◌++◌, length, take, drop, bit_xor, refl, sym, ap, ap₂, ◌∙◌, arith, length-drop}
use Rattle.std.proofs.lemmas.List.{drop-append-le, drop-drop, drop-take, take-append-le, take-take}
use Rattle.eleos_base.specs.BlockField.{number_of, power, product}
use Rattle.eleos_base.specs.Ghash.{blocks, sum_of_powers}
use Rattle.eleos_base.specs.Gcm.{block_count, padded}
use Rattle.eleos_gcm.specs.Horner.{horner}
use Rattle.eleos_gcm.proofs.HornerRule.{horner_is, horner-append}

-- after i blocks, the others are to be taken in
pub record IsHashed (h start : ℕ) (bytes : List ℕ) (sum i : ℕ) : Type 0 where
  pub rest : let n = block_count (length bytes) in
      horner h sum (blocks (n - i) (drop (16 * i) (padded bytes))) ≡ horner h start (blocks n (padded bytes))

-- before the first block the hash is the one that it starts from
pub none_hashed : (h start : ℕ) (bytes : List ℕ) → IsHashed h start bytes start 0
none_hashed h start bytes =
    let n = block_count (length bytes) in
    let all : n - 0 ≡ n = omega arith in
    record { rest = ap (λ k. horner h start (blocks k (padded bytes))) all }

length-blocks : (n : ℕ) (xs : List ℕ) → length (blocks n xs) ≡ n
unfolding blocks
length-blocks zero xs = refl
length-blocks (suc n) xs = ap suc (length-blocks n (drop 16 xs))

-- the first blocks and the others
blocks_apart : (n m : ℕ) (xs : List ℕ) → blocks (n + m) xs ≡ blocks n xs ++ blocks m (drop (16 * n) xs)
unfolding blocks
blocks_apart zero m xs =
    let none : 0 + m ≡ m = omega arith in
    ap (λ k. blocks k xs) none
blocks_apart (suc n) m xs =
    let next : suc n + m ≡ suc (n + m) = omega arith in
    let place : 16 * suc n ≡ 16 + 16 * n = omega arith in
    ap (λ k. blocks k xs) next
    ∙ ap (λ ys. number_of (take 16 xs) ∷ ys)
    (blocks_apart n m (drop 16 xs)
    ∙ ap (λ ys. blocks n (drop 16 xs) ++ blocks m ys) (drop-drop (16 * n) 16 xs ∙ ap (λ k. drop k xs) (sym place)))

-- blocks read no further than they reach
blocks-take : (n k : ℕ) (xs : List ℕ) → 16 * n ≤ k → blocks n (take k xs) ≡ blocks n xs
unfolding blocks
blocks-take zero k xs le = refl
blocks-take (suc n) k xs le =
    let split : 16 + (k - 16) ≡ k = omega arith in
    let moved : drop 16 (take (16 + (k - 16)) xs) ≡ take (k - 16) (drop 16 xs) = drop-take 16 (k - 16) xs in
    ap₂ (λ x ys. number_of x ∷ ys) (take-take 16 k xs (omega arith))
    (ap (blocks n) (rw split at moved) ∙ blocks-take n (k - 16) (drop 16 xs) (omega arith))

-- four blocks of the string itself
four_padded : (bytes : List ℕ) (at : ℕ) → at + 64 ≤ length bytes → take 64 (drop at (padded bytes)) ≡ take 64 (drop at bytes)
four_padded bytes at within =
    ap (take 64) (drop-append-le at bytes _ (omega arith))
    ∙ take-append-le 64 (drop at bytes) _ (omega (arith, length-drop at bytes))

-- four blocks more are taken in, by the first four powers of the hash subkey
pub four_hashed : (h start : ℕ) (bytes four : List ℕ) (sum next i : ℕ) → h < 2 ^ 128 → sum < 2 ^ 128 → 64 * i + 64 ≤ length bytes
    → four ≡ take 64 (drop (64 * i) bytes)
    → next ≡ bit_xor (product sum (power h 4)) (sum_of_powers h (blocks 4 four))
    → IsHashed h start bytes sum (4 * i) → IsHashed h start bytes next (4 * (i + 1))
four_hashed h start bytes four sum next i below fits within is hash hashed =
    let n = block_count (length bytes) in
    let rest = drop (16 * (4 * i)) (padded bytes) in
    let left : n - 4 * i ≡ 4 + (n - 4 * (i + 1)) = omega arith in
    let place : 16 * (4 * (i + 1)) ≡ 16 * (4 * i) + 64 = omega arith in
    let same : 16 * (4 * i) ≡ 64 * i = omega arith in
    let own : blocks 4 four ≡ blocks 4 rest =
    ap (blocks 4) is ∙ ap (blocks 4) (sym (four_padded bytes (64 * i) within))
    ∙ blocks-take 4 64 (drop (64 * i) (padded bytes)) (omega arith)
    ∙ ap (λ k. blocks 4 (drop k (padded bytes))) (sym same) in
    let first : horner h sum (blocks 4 rest) ≡ next =
    horner_is h sum (blocks 4 rest) below fits
    ∙ ap (λ k. bit_xor (product sum (power h k)) (sum_of_powers h (blocks 4 rest))) (length-blocks 4 rest)
    ∙ ap (λ xs. bit_xor (product sum (power h 4)) (sum_of_powers h xs)) (sym own) ∙ sym hash in
    let others = blocks (n - 4 * (i + 1)) (drop 64 rest) in
    record {
      rest =
          ap (λ xs. horner h next (blocks (n - 4 * (i + 1)) xs)) (ap (λ k. drop k (padded bytes)) place ∙ sym (drop-drop 64 (16 * (4 * i)) (padded bytes)))
          ∙ ap (λ s. horner h s others) (sym first) ∙ sym (horner-append h sum (blocks 4 rest) others)
          ∙ ap (horner h sum) (sym (blocks_apart 4 (n - 4 * (i + 1)) rest))
          ∙ ap (λ k. horner h sum (blocks k rest)) (sym left) ∙ hashed.rest;
    }

-- one block more is taken in, by the hash subkey alone
pub one_hashed : (h start : ℕ) (bytes block : List ℕ) (sum next i : ℕ) → i < block_count (length bytes)
    → block ≡ take 16 (drop (16 * i) (padded bytes)) → next ≡ product (bit_xor sum (number_of block)) h
    → IsHashed h start bytes sum i → IsHashed h start bytes next (i + 1)
unfolding horner blocks
one_hashed h start bytes block sum next i below is hash hashed =
    let n = block_count (length bytes) in
    let left : n - i ≡ suc (n - (i + 1)) = omega arith in
    let place : 16 * (i + 1) ≡ 16 * i + 16 = omega arith in
    let moved : drop (16 * (i + 1)) (padded bytes) ≡ drop 16 (drop (16 * i) (padded bytes)) = rw place (sym (drop-drop 16 (16 * i) (padded bytes))) in
    let whole = rw left at hashed.rest in
    record { rest = rw (moved, hash, is) whole }

-- after the last block the hash is that of the whole padded string
pub all_hashed : (h start : ℕ) (bytes : List ℕ) (sum i : ℕ) → block_count (length bytes) ≤ i → IsHashed h start bytes sum i
    → sum ≡ horner h start (blocks (block_count (length bytes)) (padded bytes))
unfolding horner blocks
all_hashed h start bytes sum i last hashed =
    let none : block_count (length bytes) - i ≡ 0 = omega arith in
    rw none at hashed.rest
