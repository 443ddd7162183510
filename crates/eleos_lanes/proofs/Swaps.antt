-- A number in two halves, the bytes of each turned round.
use Rattle.std.proofs.Common.{◌≡◌, ℕ, ◌+◌, ◌-◌, ◌*◌, ◌/◌, ◌%◌, ◌^◌, ◌<◌, [], ◌∷◌, get_or, refl, ◌∙◌, arith, w64}
use Rattle.std.proofs.lemmas.List.{ext_get_or}
use Rattle.std.proofs.lemmas.Simd.{get_or_narrower}
use Rattle.std.specs.Int.{swap_bytes}
use Rattle.std.specs.Simd.Lanes.{Each1, number_l, digits_l}
use Rattle.eleos_base.specs.BlockField.{block_of}
use Rattle.eleos_lanes.proofs.Bits.{below_eight, below_sixteen}

-- byte i of eight that were turned round
byte_swapped : (m i : ℕ) → i < 8 → swap_bytes w64 m / 256 ^ i % 256 ≡ m / 256 ^ (7 - i) % 256
byte_swapped m =
    below_eight (λ i. swap_bytes w64 m / 256 ^ i % 256 ≡ m / 256 ^ (7 - i) % 256)
    (omega arith) (omega arith) (omega arith) (omega arith) (omega arith) (omega arith) (omega arith) (omega arith)

-- the bytes of both halves, lowest first, are the number's, highest first
pub halves_swapped : (n : ℕ) → n < 2 ^ 128 → Each1 (λ x. x < 2 ^ 64) (swap_bytes w64 (n / 2 ^ 64) ∷ swap_bytes w64 (n % 2 ^ 64) ∷ [])
    → digits_l 256 16 (number_l (2 ^ 64) (swap_bytes w64 (n / 2 ^ 64) ∷ swap_bytes w64 (n % 2 ^ 64) ∷ [])) ≡ block_of n
unfolding block_of
halves_swapped n below fits =
    let high = n / 2 ^ 64 in
    let low = n % 2 ^ 64 in
    let xs = swap_bytes w64 (n / 2 ^ 64) ∷ swap_bytes w64 (n % 2 ^ 64) ∷ [] in
    let all = digits_l 256 16 (number_l (2 ^ 64) xs) in
    let first : (i : ℕ) → i < 8 → get_or all (8 * 0 + i) 0 ≡ high / 256 ^ (7 - i) % 256 =
    λ i less. get_or_narrower (2 ^ 64) 8 256 16 xs 0 i refl fits less (omega arith) ∙ byte_swapped high i less in
    let second : (i : ℕ) → i < 8 → get_or all (8 * 1 + i) 0 ≡ low / 256 ^ (7 - i) % 256 =
    λ i less. get_or_narrower (2 ^ 64) 8 256 16 xs 1 i refl fits less (omega arith) ∙ byte_swapped low i less in
    ext_get_or 0 all (block_of n) refl
    (λ k less. below_sixteen (λ k. get_or all k 0 ≡ get_or (block_of n) k 0)
    (first 0 (omega arith) ∙ omega arith) (first 1 (omega arith) ∙ omega arith) (first 2 (omega arith) ∙ omega arith)
    (first 3 (omega arith) ∙ omega arith) (first 4 (omega arith) ∙ omega arith) (first 5 (omega arith) ∙ omega arith)
    (first 6 (omega arith) ∙ omega arith) (first 7 (omega arith) ∙ omega arith)
    (second 0 (omega arith) ∙ omega arith) (second 1 (omega arith) ∙ omega arith) (second 2 (omega arith) ∙ omega arith)
    (second 3 (omega arith) ∙ omega arith) (second 4 (omega arith) ∙ omega arith) (second 5 (omega arith) ∙ omega arith)
    (second 6 (omega arith) ∙ omega arith) (second 7 (omega arith) ∙ omega arith) k less)
