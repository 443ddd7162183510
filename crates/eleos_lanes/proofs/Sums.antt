-- Sums of rows that move on byte by byte.
use Rattle.std.proofs.Common.{◌≡◌, ℕ, zero, suc, ◌+◌, ◌*◌, ◌<◌, ◌≤◌, List, [], ◌∷◌, ◌++◌, length, take, get_or, replicate, bit_xor, refl, sym, subst, ap, ap₂, ◌∙◌, arith, inl, inr, length-take}
use Rattle.std.proofs.lemmas.Nat.{xor_comm}
use Rattle.std.proofs.lemmas.List.{get_or-take, take_all, take_more, append_assoc, get_or_past}
use Rattle.std.proofs.lemmas.Bool.{cases_lt}
use Rattle.std.proofs.lemmas.Simd.{length-zip2, length-replicate, get_or-replicate}
use Rattle.std.specs.Int.Bits.{xor_assoc}
use Rattle.std.specs.Simd.Lanes.{zip2}
use Rattle.eleos_base.specs.BlockField.{times_power_of_x, times_x}
use Rattle.eleos_lanes.specs.Rows.{value}
use Rattle.eleos_lanes.proofs.Mirrors.{sixteen_of}
use Rattle.eleos_lanes.proofs.Values.{times_x8, value-zip2, value-append, value-moved, value-zero_last}

-- the bytes of a sum after n rows
pub record IsSum (total : ℕ) (front back : List ℕ) (n : ℕ) : Type 0 where
  pub long_front : length front ≡ 16
  pub long_back : length back ≡ 16
  pub zeros : (k : ℕ) → n ≤ k → get_or back k 0 ≡ 0
  pub is : value (front ++ back) ≡ total

-- lanes of a vector of zeros before another's
pub moved_lanes : (xs : List ℕ) → length xs ≡ 16
    → let at : ℕ → ℕ = λ i. get_or xs i 0 in
    0 ∷ at 0 ∷ at 1 ∷ at 2 ∷ at 3 ∷ at 4 ∷ at 5 ∷ at 6 ∷ at 7 ∷ at 8 ∷ at 9 ∷ at 10 ∷ at 11 ∷ at 12 ∷ at 13 ∷ at 14 ∷ [] ≡ 0 ∷ take 15 xs
moved_lanes xs long =
    let at : ℕ → ℕ = λ i. get_or xs i 0 in
    let all = at 0 ∷ at 1 ∷ at 2 ∷ at 3 ∷ at 4 ∷ at 5 ∷ at 6 ∷ at 7 ∷ at 8 ∷ at 9 ∷ at 10 ∷ at 11 ∷ at 12 ∷ at 13 ∷ at 14 ∷ at 15 ∷ [] in
    ap (λ ys. 0 ∷ take 15 ys) (sixteen_of xs long)

-- the last lane of a vector and those of another
pub lanes_behind : (xs ys : List ℕ) → length xs ≡ 16 → length ys ≡ 16
    → let at : ℕ → ℕ = λ i. get_or (xs ++ ys) i 0 in
    at 15 ∷ at 16 ∷ at 17 ∷ at 18 ∷ at 19 ∷ at 20 ∷ at 21 ∷ at 22 ∷ at 23 ∷ at 24 ∷ at 25 ∷ at 26 ∷ at 27 ∷ at 28 ∷ at 29 ∷ at 30 ∷ []
    ≡ get_or xs 15 0 ∷ take 15 ys
lanes_behind xs ys long_x long_y =
    let x : ℕ → ℕ = λ i. get_or xs i 0 in
    let y : ℕ → ℕ = λ i. get_or ys i 0 in
    let ex = x 0 ∷ x 1 ∷ x 2 ∷ x 3 ∷ x 4 ∷ x 5 ∷ x 6 ∷ x 7 ∷ x 8 ∷ x 9 ∷ x 10 ∷ x 11 ∷ x 12 ∷ x 13 ∷ x 14 ∷ x 15 ∷ [] in
    let these : List ℕ → List ℕ → List ℕ =
    λ v w. (let at : ℕ → ℕ = λ i. get_or (v ++ w) i 0 in
    at 15 ∷ at 16 ∷ at 17 ∷ at 18 ∷ at 19 ∷ at 20 ∷ at 21 ∷ at 22 ∷ at 23 ∷ at 24 ∷ at 25 ∷ at 26 ∷ at 27 ∷ at 28 ∷ at 29 ∷ at 30 ∷ []) in
    subst (λ v. these v ys ≡ get_or v 15 0 ∷ take 15 ys) (sixteen_of xs long_x)
    (subst (λ w. these ex w ≡ get_or ex 15 0 ∷ take 15 w) (sixteen_of ys long_y) refl)

zero_taken : (xs : List ℕ) (j : ℕ) → get_or xs j 0 ≡ 0 → get_or (take 15 xs) j 0 ≡ 0
zero_taken xs j none =
    elim (cases_lt j 15) [
      | inl low ↦ get_or-take 15 xs j 0 low ∙ none
      | inr high ↦ get_or_past (take 15 xs) j 0 (omega (arith, length-take 15 xs))
    ]

zero_later : (n k : ℕ) (xs : List ℕ) (x : ℕ) → n + 1 ≤ k → ((j : ℕ) → n ≤ j → get_or xs j 0 ≡ 0) → get_or (x ∷ xs) k 0 ≡ 0
zero_later n zero xs x above none = absurd (omega arith)
zero_later n (suc k) xs x above none = none k (omega arith)

-- one row more: the lanes of both vectors move on by one, and the row is added to the front
pub sum_step : (total : ℕ) (front back row : List ℕ) (n : ℕ) → n < 16 → length row ≡ 16 → IsSum total front back n
    → IsSum (bit_xor (times_x8 total) (value row)) (zip2 bit_xor (0 ∷ take 15 front) row) (get_or front 15 0 ∷ take 15 back) (n + 1)
sum_step total front back row n below long sum =
    let p = 0 ∷ take 15 front in
    let q = get_or front 15 0 ∷ take 15 back in
    let long_p : length p ≡ 16 = omega (arith, length-take 15 front, sum.long_front) in
    let same : length p ≡ length row = omega arith in
    let long_z = length-zip2 bit_xor p row same in
    let last : get_or back 15 0 ≡ 0 = sum.zeros 15 (omega arith) in
    let whole_front : take 15 front ++ get_or front 15 0 ∷ [] ≡ front =
    sym (take_more front 15 0 (omega (arith, sum.long_front))) ∙ take_all 16 front (omega (arith, sum.long_front)) in
    let whole_back : take 15 back ++ 0 ∷ [] ≡ back =
    ap (λ z. take 15 back ++ z ∷ []) (sym last) ∙ sym (take_more back 15 0 (omega (arith, sum.long_back)))
    ∙ take_all 16 back (omega (arith, sum.long_back)) in
    let joined : take 15 front ++ q ≡ front ++ take 15 back =
    sym (append_assoc (take 15 front) (get_or front 15 0 ∷ []) (take 15 back)) ∙ ap (λ xs. xs ++ take 15 back) whole_front in
    let dropped : value (front ++ take 15 back) ≡ value (front ++ back) =
    sym (value-zero_last (front ++ take 15 back)) ∙ ap value (append_assoc front (take 15 back) (0 ∷ []) ∙ ap (λ xs. front ++ xs) whole_back) in
    let moved : value (p ++ q) ≡ times_x8 total =
    ap (λ xs. value (0 ∷ xs)) joined ∙ value-moved (front ++ take 15 back) ∙ ap times_x8 (dropped ∙ sum.is) in
    let later : (k : ℕ) → n + 1 ≤ k → get_or q k 0 ≡ 0 =
    λ k above. zero_later n k (take 15 back) (get_or front 15 0) above (λ j from. zero_taken back j (sum.zeros j from)) in
    let tail = times_power_of_x (8 * length p) (value q) in
    record {
      long_front = long_z ∙ long_p;
      long_back = omega (arith, length-take 15 back, sum.long_back);
      zeros = later;
      is =
          value-append (zip2 bit_xor p row) q
          ∙ ap₂ bit_xor (value-zip2 p row same) (ap (λ m. times_power_of_x (8 * m) (value q)) long_z)
          ∙ xor_assoc (value p) (value row) tail ∙ ap (bit_xor (value p)) (xor_comm (value row) tail)
          ∙ sym (xor_assoc (value p) tail (value row))
          ∙ ap (λ v. bit_xor v (value row)) (sym (value-append p q) ∙ moved);
    }

zero_lanes : (k : ℕ) → get_or (replicate {A = ℕ} 16 0) k 0 ≡ 0
zero_lanes k =
    elim (cases_lt k 16) [
      | inl low ↦ get_or-replicate {A = ℕ} 16 k 0 0 low
      | inr high ↦ get_or_past (replicate {A = ℕ} 16 0) k 0 (omega (arith, length-replicate {A = ℕ} 16 0))
    ]

-- before the first row
pub no_rows : (total : ℕ) → 0 ≡ total → IsSum total (replicate 16 0) (replicate 16 0) 0
unfolding value times_power_of_x times_x
no_rows total none =
    record { long_front = refl; long_back = refl; zeros = λ k above. zero_lanes k; is = none }
