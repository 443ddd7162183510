-- Sums of bytes: 64 at a time, and then one after another.
use Rattle.std.proofs.Common.{◌≡◌, ◌+◌, ◌-◌, ◌≤◌, ◌<◌, ℕ, List, [], ◌∷◌, length, set, get_or, bit_or, bit_xor, ap, arith, refl, sym, ap₂, ◌∙◌, subst, inl, inr, eq-zero-or-pos}
use Rattle.std.proofs.lemmas.Simd.{length-zip2, length-chunk, get_or-zip2, get_or-chunk, get_or-put_chunk_below, get_or-put_chunk_at, get_or-put_chunk_above}
use Rattle.std.proofs.lemmas.List.{ext_get_or, get_or-set_same, get_or-set_other}
use Rattle.std.proofs.lemmas.Nat.{le_or_l, le_or_r}
use Rattle.std.specs.Int.Bits.{xor_assoc, xor_self, xor_zero_r}
use Rattle.std.specs.Simd.Lanes.{zip2, chunk, put_chunk, fold_l}

-- what a loop keeps at place `at`
abbrev pub IsDone : List ℕ → List ℕ → List ℕ → ℕ → Type 0
IsDone into old from at =
    ((k : ℕ) → k < at → get_or into k 0 ≡ bit_xor (get_or old k 0) (get_or from k 0))
    × ((k : ℕ) → at ≤ k → get_or into k 0 ≡ get_or old k 0)

-- the sums of 64 bytes of both from a place on
abbrev pub xored : List ℕ → List ℕ → ℕ → List ℕ
xored into from at = zip2 bit_xor (chunk at 64 into) (chunk at 64 from)

pub length-xored : (into from : List ℕ) (at : ℕ) → length into ≡ length from → at + 64 ≤ length into → length (xored into from at) ≡ 64
length-xored into from at same within =
    let a = length-chunk at 64 into within in
    let b = length-chunk at 64 from (omega arith) in
    length-zip2 bit_xor (chunk at 64 into) (chunk at 64 from) (a ∙ sym b) ∙ a

-- the loop is 64 bytes further once the sums of these are put
pub chunk_step : (into old from : List ℕ) (at : ℕ) → length into ≡ length from → at + 64 ≤ length into → IsDone into old from at
    → IsDone (put_chunk at into (xored into from at)) old from (at + 64)
chunk_step into old from at same within done =
    let ys = xored into from at in
    let len = length-xored into from at same within in
    let a = length-chunk at 64 into within in
    let b = length-chunk at 64 from (omega arith) in (
      (λ k l. elim (eq-zero-or-pos (at - k)) [
        | inl z ↦
            let e : at + (k - at) ≡ k = omega arith in
            let at_j : get_or (put_chunk at into ys) (at + (k - at)) 0 ≡ bit_xor (get_or old (at + (k - at)) 0) (get_or from (at + (k - at)) 0)
            = get_or-put_chunk_at at into ys (k - at) 0 (omega arith) (omega arith)
            ∙ get_or-zip2 bit_xor (chunk at 64 into) (chunk at 64 from) (k - at) 0 0 0 (omega arith) (omega arith)
            ∙ ap₂ bit_xor (get_or-chunk at 64 into (k - at) 0 (omega arith) ∙ done.1 (at + (k - at)) (omega arith)) (get_or-chunk at 64 from (k - at) 0 (omega arith)) in
            subst (λ m. get_or (put_chunk at into ys) m 0 ≡ bit_xor (get_or old m 0) (get_or from m 0)) e at_j
        | inr g ↦ get_or-put_chunk_below at into ys k 0 (omega arith) ∙ done.0 k (omega arith)
      ]),
      (λ k l. get_or-put_chunk_above at into ys k 0 (omega arith) ∙ done.1 k (omega arith)),
    )

-- the loop is one byte further once the sum of that byte is set
pub byte_step : (into old from : List ℕ) (at : ℕ) → at < length into → IsDone into old from at
    → IsDone (set into at (bit_xor (get_or into at 0) (get_or from at 0))) old from (at + 1)
byte_step into old from at within done = (
  (λ k l. elim (eq-zero-or-pos (at - k)) [
    | inl z ↦
        let e : at ≡ k = omega arith in
        let here : get_or (set into at (bit_xor (get_or into at 0) (get_or from at 0))) at 0 ≡ bit_xor (get_or old at 0) (get_or from at 0)
        = get_or-set_same into at _ 0 within ∙ ap₂ bit_xor (done.1 at (omega arith)) refl in
        subst (λ m. get_or (set into at (bit_xor (get_or into at 0) (get_or from at 0))) m 0 ≡ bit_xor (get_or old m 0) (get_or from m 0)) e here
    | inr g ↦ get_or-set_other into at k _ 0 (λ e. omega arith) ∙ done.0 k (omega arith)
  ]),
  (λ k l. get_or-set_other into at k _ 0 (λ e. omega arith) ∙ done.1 k (omega arith)),
)

-- at the end all bytes are the sums of the old ones and those added
pub all_done : (into old from : List ℕ) (at : ℕ) → length into ≡ length from → length old ≡ length from → length from ≤ at → IsDone into old from at
    → into ≡ zip2 bit_xor old from
all_done into old from at a b le done =
    let len = length-zip2 bit_xor old from b in
    ext_get_or 0 into (zip2 bit_xor old from) (omega arith) (λ i l. done.0 i (omega arith) ∙ sym (get_or-zip2 bit_xor old from i 0 0 0 (omega arith) (omega arith)))

-- ---- whether two lists differ

xor_none : (x y : ℕ) → bit_xor x y ≡ 0 → x ≡ y
xor_none x y none =
    sym (xor_assoc x y y ∙ ap (bit_xor x) (xor_self y) ∙ xor_zero_r x) ∙ ap (λ z. bit_xor z y) none

or_none : (x y : ℕ) → bit_or x y ≡ 0 → (x ≡ 0) × (y ≡ 0)
or_none x y none = (omega (arith, le_or_l x y, none), omega (arith, le_or_r x y, none))

-- no difference is collected just where the lists are the same
pub none_differs : (a b : List ℕ) (s : ℕ) → length a ≡ length b → fold_l bit_or s (zip2 bit_xor a b) ≡ 0 → (s ≡ 0) × (a ≡ b)
none_differs [] [] s long none = (none, refl)
none_differs (x ∷ a) [] s long none = absurd (omega arith)
none_differs [] (y ∷ b) s long none = absurd (omega arith)
none_differs (x ∷ a) (y ∷ b) s long none =
    let rest = none_differs a b (bit_or s (bit_xor x y)) (omega arith) none in
    let parts = or_none s (bit_xor x y) rest.0 in
    (parts.0, ap₂ ◌∷◌ (xor_none x y parts.1) rest.1)

-- a list and itself have no difference to collect
pub same_collects : (a : List ℕ) → fold_l bit_or 0 (zip2 bit_xor a a) ≡ 0
same_collects [] = refl
same_collects (x ∷ a) =
    let none : bit_or 0 (bit_xor x x) ≡ 0 = ap (bit_or 0) (xor_self x) in
    ap (λ s. fold_l bit_or s (zip2 bit_xor a a)) none ∙ same_collects a
