-- Blocks in the front of eight.
use Rattle.std.proofs.Common.{◌≡◌, ℕ, ◌+◌, ◌-◌, ◌*◌, ◌≤◌, List, ◌++◌, length, take, drop, slice_range, ◌∙◌, ap, arith, length-drop}
use Rattle.std.proofs.lemmas.List.{drop-append-le, drop-take, take-append-le, take-take}
use Rattle.std.proofs.lemmas.Slice.{between_is}

-- block i, by its ends
pub block_range : (xs : List ℕ) (i : ℕ) → slice_range xs (16 * i) (16 * i + 16) ≡ take 16 (drop (16 * i) xs)
block_range xs i = between_is xs (16 * i) (16 * i + 16) ∙ drop-take (16 * i) 16 xs

-- a block of a front is one of the whole
pub block_in_front : (n i : ℕ) (xs : List ℕ) → 16 * i + 16 ≤ n → take 16 (drop (16 * i) (take n xs)) ≡ take 16 (drop (16 * i) xs)
block_in_front n i xs within =
    let split : 16 * i + (n - 16 * i) ≡ n = omega arith in
    let moved : drop (16 * i) (take (16 * i + (n - 16 * i)) xs) ≡ take (n - 16 * i) (drop (16 * i) xs) = drop-take (16 * i) (n - 16 * i) xs in
    ap (take 16) (rw split at moved) ∙ take-take 16 (n - 16 * i) (drop (16 * i) xs) (omega arith)

-- a block of what stands before something else
pub block_before : (i : ℕ) (xs ys : List ℕ) → 16 * i + 16 ≤ length xs → take 16 (drop (16 * i) (xs ++ ys)) ≡ take 16 (drop (16 * i) xs)
block_before i xs ys within =
    ap (take 16) (drop-append-le (16 * i) xs ys (omega arith))
    ∙ take-append-le 16 (drop (16 * i) xs) ys (omega (arith, length-drop (16 * i) xs))
