-- Blocks and the planes that they are mirrored in.
use Rattle.std.proofs.Common.{◌≡◌, ℕ, ◌+◌, ◌*◌, ◌-◌, ◌≤◌, ◌<◌, List, [], ◌∷◌, ◌++◌, length, take, drop, get_or, true, refl, sym, ap, ◌∙◌, arith, length-append, length-take, length-drop}
use Rattle.std.proofs.lemmas.List.{ext_get_or, drop-take}
use Rattle.std.proofs.lemmas.Slice.{between_is, between-put_mid, take-put_mid_below}
use borrow.Rule.Slice.PartMut.{put_mid}
use Rattle.std.specs.Int.{bit_at}
use Rattle.eleos_base.proofs.Tables.{agree, agree_at}
use Rattle.eleos_lanes.specs.Planes.{block_at, byte_of, lane_of, plane_bit, plane_byte, vectors}
use Rattle.eleos_lanes.proofs.Bits.{below_eight, below_sixteen, same_byte, sixteen}

-- in each lane the squares of bits are each other's mirror images, where the first are by rows
abbrev pub AreMirrored : List (List ℕ) → List (List ℕ) → Type 0
AreMirrored x v = (b k i : ℕ) → b < 8 → k < 8 → i < 16 → plane_bit x b (lane_of i) k ≡ plane_bit v k i b

own_bits : agree (λ x. byte_of (bit_at x 0) (bit_at x 1) (bit_at x 2) (bit_at x 3) (bit_at x 4) (bit_at x 5) (bit_at x 6) (bit_at x 7)) (λ x. x) 256 ≡ true
own_bits = refl

-- a byte is made of its bits
pub byte_of_bits : (x : ℕ) → x < 256
    → byte_of (bit_at x 0) (bit_at x 1) (bit_at x 2) (bit_at x 3) (bit_at x 4) (bit_at x 5) (bit_at x 6) (bit_at x 7) ≡ x
byte_of_bits = agree_at (λ x. byte_of (bit_at x 0) (bit_at x 1) (bit_at x 2) (bit_at x 3) (bit_at x 4) (bit_at x 5) (bit_at x 6) (bit_at x 7)) (λ x. x) 256 own_bits

-- a list of sixteen, entry after entry
pub sixteen_of : (xs : List ℕ) → length xs ≡ 16
    → let at : ℕ → ℕ = λ i. get_or xs i 0 in
    at 0 ∷ at 1 ∷ at 2 ∷ at 3 ∷ at 4 ∷ at 5 ∷ at 6 ∷ at 7 ∷ at 8 ∷ at 9 ∷ at 10 ∷ at 11 ∷ at 12 ∷ at 13 ∷ at 14 ∷ at 15 ∷ [] ≡ xs
sixteen_of xs long =
    let at : ℕ → ℕ = λ i. get_or xs i 0 in
    let all = at 0 ∷ at 1 ∷ at 2 ∷ at 3 ∷ at 4 ∷ at 5 ∷ at 6 ∷ at 7 ∷ at 8 ∷ at 9 ∷ at 10 ∷ at 11 ∷ at 12 ∷ at 13 ∷ at 14 ∷ at 15 ∷ [] in
    ext_get_or 0 all xs (sym long)
    (below_sixteen (λ i. get_or all i 0 ≡ get_or xs i 0) refl refl refl refl refl refl refl refl refl refl refl refl refl refl refl refl)

-- block b in the planes is vector b of what they were mirrored from
pub mirrored_block : (x v : List (List ℕ)) (b : ℕ) → AreMirrored x v → b < 8
    → length (get_or v b []) ≡ 16 → ((i : ℕ) → i < 16 → get_or (get_or v b []) i 0 < 256) → block_at x b ≡ get_or v b []
unfolding block_at plane_byte
mirrored_block x v b are low long fits =
    let own = get_or v b [] in
    sixteen (λ i. plane_byte x b (lane_of i)) (λ i. get_or own i 0)
    (λ i below.
    same_byte (are b 0 i low (omega arith) below) (are b 1 i low (omega arith) below) (are b 2 i low (omega arith) below)
    (are b 3 i low (omega arith) below) (are b 4 i low (omega arith) below) (are b 5 i low (omega arith) below)
    (are b 6 i low (omega arith) below) (are b 7 i low (omega arith) below)
    ∙ byte_of_bits (get_or own i 0) (fits i below))
    ∙ sixteen_of own long

-- vector k of eight
pub vector_at : (bytes : List ℕ) (k : ℕ) → k < 8 → get_or (vectors bytes) k [] ≡ take 16 (drop (16 * k) bytes)
unfolding vectors
vector_at bytes = below_eight (λ k. get_or (vectors bytes) k [] ≡ take 16 (drop (16 * k) bytes)) refl refl refl refl refl refl refl refl

-- ---- eight rows of a list of bytes

-- a row that was written is there, and the rows before it are as they were
pub row_written : (xs row : List ℕ) (k : ℕ) → 16 * k + 16 ≤ length xs → length row ≡ 16
    → take 16 (drop (16 * k) (put_mid (16 * k) 16 xs row)) ≡ row
row_written xs row k within long =
    let all = put_mid (16 * k) 16 xs row in
    let size : length row ≡ 16 * k + 16 - 16 * k = omega arith in
    sym (drop-take (16 * k) 16 all) ∙ sym (between_is all (16 * k) (16 * k + 16))
    ∙ between-put_mid (16 * k) 16 xs row (16 * k + 16) (omega arith) size

-- a row before the one that was written is as it was
pub row_kept : (xs row : List ℕ) (j k : ℕ) → j < k → 16 * k + 16 ≤ length xs
    → take 16 (drop (16 * j) (put_mid (16 * k) 16 xs row)) ≡ take 16 (drop (16 * j) xs)
row_kept xs row j k before within =
    sym (drop-take (16 * j) 16 (put_mid (16 * k) 16 xs row))
    ∙ ap (drop (16 * j)) (take-put_mid_below (16 * k) 16 xs row (16 * j + 16) (omega arith) (omega arith))
    ∙ drop-take (16 * j) 16 xs

-- the bytes are as many after a row was written
pub length-row_written : (xs row : List ℕ) (k : ℕ) → 16 * k + 16 ≤ length xs → length row ≡ 16
    → length (put_mid (16 * k) 16 xs row) ≡ length xs
length-row_written xs row k within long =
    let behind = drop 16 (drop (16 * k) xs) in
    omega (
      arith,
      long,
      length-append (take (16 * k) xs) (row ++ behind),
      length-append row behind,
      length-take (16 * k) xs,
      length-drop 16 (drop (16 * k) xs),
      length-drop (16 * k) xs,
    )

-- blocks in planes that stand one after another
pub block_in_vectors : (bytes : List ℕ) (v : List (List ℕ)) (b : ℕ) → ((k : ℕ) → k < 8 → take 16 (drop (16 * k) bytes) ≡ get_or v k [])
    → block_at (vectors bytes) b ≡ block_at v b
unfolding block_at plane_byte
block_in_vectors bytes v b are =
    let own : (k : ℕ) → k < 8 → get_or (vectors bytes) k [] ≡ get_or v k [] = λ k low. vector_at bytes k low ∙ are k low in
    sixteen (λ i. plane_byte (vectors bytes) b (lane_of i)) (λ i. plane_byte v b (lane_of i))
    (λ i below.
    same_byte (ap (λ x. bit_at (get_or x (lane_of i) 0) b) (own 0 (omega arith))) (ap (λ x. bit_at (get_or x (lane_of i) 0) b) (own 1 (omega arith)))
    (ap (λ x. bit_at (get_or x (lane_of i) 0) b) (own 2 (omega arith))) (ap (λ x. bit_at (get_or x (lane_of i) 0) b) (own 3 (omega arith)))
    (ap (λ x. bit_at (get_or x (lane_of i) 0) b) (own 4 (omega arith))) (ap (λ x. bit_at (get_or x (lane_of i) 0) b) (own 5 (omega arith)))
    (ap (λ x. bit_at (get_or x (lane_of i) 0) b) (own 6 (omega arith))) (ap (λ x. bit_at (get_or x (lane_of i) 0) b) (own 7 (omega arith))))
