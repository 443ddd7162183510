-- Blocks of padded strings.
use Rattle.std.proofs.Common.{◌≡◌, ℕ, zero, suc, ◌+◌, ◌-◌, ◌*◌, ◌≤◌, ◌<◌, min, List, ◌∷◌, ◌++◌, length, take, drop, replicate, sym, ap, ◌∙◌, arith, inl, inr, length-append, length-drop, zero-add}
use Rattle.std.proofs.lemmas.List.{length-replicate, nil_from_length, drop-append-le, take_all, take-append-le, append-nil, drop-replicate}
use Rattle.std.proofs.lemmas.Bool.{cases_lt}
use Rattle.eleos_base.specs.Ghash.{blocks}
use Rattle.eleos_base.specs.Gcm.{block_count, padded}
use Rattle.eleos_base.specs.BlockField.{number_of}

-- a padded string is as long as its blocks, 16 bytes each
pub length-padded : (bytes : List ℕ) → length (padded bytes) ≡ 16 * block_count (length bytes)
length-padded bytes =
    omega (arith, length-append bytes (replicate (16 * block_count (length bytes) - length bytes) 0), length-replicate {A = ℕ})

-- a short block, filled up with zeros
short_block : (rest : List ℕ) (k count : ℕ) → length rest ≡ k → k + count ≡ 16 → take k rest ++ drop k (replicate 16 0) ≡ take 16 (rest ++ replicate count 0)
short_block rest k count size fill =
    let zeros : List ℕ = replicate count 0 in
    let left : 16 - k ≡ count = omega arith in
    let fits : length (rest ++ zeros) ≤ 16 = omega (arith, length-append rest zeros, length-replicate {A = ℕ} count 0) in
    ap (λ xs. xs ++ drop k (replicate 16 0)) (take_all k rest (omega arith))
    ∙ ap (λ ys. rest ++ ys) (drop-replicate k 16 0 ∙ ap (λ n. replicate n 0) left) ∙ sym (take_all 16 (rest ++ zeros) fits)

-- the block from a place on, which is padded where it is the last
pub padded_block : (bytes : List ℕ) (i k : ℕ) → 16 * i < length bytes → k ≡ min (length bytes - 16 * i) 16
    → take k (drop (16 * i) bytes) ++ drop k (replicate 16 0) ≡ take 16 (drop (16 * i) (padded bytes))
padded_block bytes i k within width =
    let count = 16 * block_count (length bytes) - length bytes in
    let rest = drop (16 * i) bytes in
    let size = length-drop (16 * i) bytes in
    let behind : drop (16 * i) (padded bytes) ≡ rest ++ replicate count 0 = drop-append-le (16 * i) bytes (replicate count 0) (omega arith) in
    elim (cases_lt (length rest) 16) [
      | inl less ↦ rw behind (short_block rest k count (omega arith) (omega arith))
      | inr more ↦
          let full : k ≡ 16 = omega arith in
          rw (full, behind) (append-nil (take 16 rest) ∙ sym (take-append-le 16 rest (replicate count 0) more))
    ]

-- whole blocks need no padding
pub padded_whole : (bytes : List ℕ) (n : ℕ) → length bytes ≡ 16 * n → padded bytes ≡ bytes
padded_whole bytes n whole =
    let none : 16 * block_count (length bytes) - length bytes ≡ 0 = omega arith in
    ap (λ k. bytes ++ replicate k 0) none ∙ append-nil bytes

-- blocks of one string and then of another
pub blocks-append : (n m : ℕ) (front behind : List ℕ) → length front ≡ 16 * n → blocks (n + m) (front ++ behind) ≡ blocks n front ++ blocks m behind
unfolding blocks
blocks-append zero m front behind size =
    let none = nil_from_length front (omega arith) in
    rw (none, zero-add m)
blocks-append (suc n) m front behind size =
    let next : suc n + m ≡ suc (n + m) = omega arith in
    rw (next, take-append-le 16 front behind (omega arith), drop-append-le 16 front behind (omega arith))
    (ap (λ xs. number_of (take 16 front) ∷ xs)
    (blocks-append n m (drop 16 front) behind (omega (arith, length-drop 16 front))))
