-- How often a number stands in a list.
use Rattle.std.proofs.Common.{◌≡◌, ◌≢◌, ◌⊎◌, inl, inr, ⊎_elim, ℕ, zero, suc, ◌+◌, ◌<◌, ◌≤◌, ◌==◌, List, [], ◌∷◌, ◌++◌, length, filter, Bool, true, false, not, if◌then◌else◌, sum_by, refl, sym, ◌∙◌, ap, arith}
use Rattle.std.specs.List.{range_with_len}
use Rattle.std.proofs.lemmas.Bool.{eq-eqb, ne_eqb, eqb-true}
use Rattle.std.proofs.lemmas.Bool.Decides.{nat_tests}
use Rattle.std.proofs.lemmas.List.Sums.{sum_by-cons}
use Rattle.eleos_core.proofs.Tests.{by_test}

-- how often the number g stands in the list
abbrev pub times : ℕ → List ℕ → ℕ
times g [] = 0
times g (f ∷ fs) = if g == f then times g fs + 1 else times g fs

-- 1 where the test holds, else 0
abbrev pub one_if : Bool → ℕ
one_if b = if b then 1 else 0

-- in a list with one more at its end
pub times_more : (g f : ℕ) (fs : List ℕ) → times g (fs ++ f ∷ []) ≡ (if g == f then times g fs + 1 else times g fs)
times_more g f [] = refl
times_more g f (h ∷ fs) = by_test (g == h) (λ v. (if v then times g (fs ++ f ∷ []) + 1 else times g (fs ++ f ∷ [])) ≡ (if g == f then (if v then times g fs + 1 else times g fs) + 1 else if v then times g fs + 1 else times g fs))
    (λ _. ap (λ n. n + 1) (times_more g f fs) ∙ both (g == f))
    (λ _. times_more g f fs)
  where
    both : (b : Bool) → (if b then times g fs + 1 else times g fs) + 1 ≡ (if b then times g fs + 1 + 1 else times g fs + 1)
    both true = refl
    both false = refl

-- it stands there once more where it is that one
pub times_one_more : (f : ℕ) (fs : List ℕ) → times f (fs ++ f ∷ []) ≡ times f fs + 1
times_one_more f fs = times_more f f fs ∙ ap (λ v. if v then times f fs + 1 else times f fs) (eq-eqb f f refl)

-- and as often as before where it is another
pub times_more_other : (g f : ℕ) (fs : List ℕ) → g ≢ f → times g (fs ++ f ∷ []) ≡ times g fs
times_more_other g f fs ne = times_more g f fs ∙ ap (λ v. if v then times g fs + 1 else times g fs) (ne_eqb g f ne)

-- in a list without another number
pub times_less : (g f : ℕ) (fs : List ℕ) → g ≢ f → times g (filter (λ h. not (h == f)) fs) ≡ times g fs
times_less g f [] ne = refl
times_less g f (h ∷ fs) ne = by_test (h == f) (λ v. h == f ≡ v → times g (if not v then h ∷ filter (λ h. not (h == f)) fs else filter (λ h. not (h == f)) fs) ≡ (if g == h then times g fs + 1 else times g fs))
    (λ _ is. let no_is : g == h ≡ false = grind (arith, nat_tests) in times_less g f fs ne ∙ sym (ap (λ v. if v then times g fs + 1 else times g fs) no_is))
    (λ _ is. ap (λ n. if g == h then n + 1 else n) (times_less g f fs ne)) refl

-- a number that was taken out is gone
pub none_left : (f : ℕ) (fs : List ℕ) → times f (filter (λ h. not (h == f)) fs) ≡ 0
none_left f [] = refl
none_left f (h ∷ fs) = by_test (h == f) (λ v. h == f ≡ v → times f (if not v then h ∷ filter (λ h. not (h == f)) fs else filter (λ h. not (h == f)) fs) ≡ 0)
    (λ _ is. none_left f fs)
    (λ _ is. let no_is : f == h ≡ false = grind (arith, nat_tests) in ap (λ v. if v then times f (filter (λ h. not (h == f)) fs) + 1 else times f (filter (λ h. not (h == f)) fs)) no_is ∙ none_left f fs) refl

-- and the list is shorter by as many times as it stood there
pub length_less : (f : ℕ) (fs : List ℕ) → length (filter (λ h. not (h == f)) fs) + times f fs ≡ length fs
length_less f [] = refl
length_less f (h ∷ fs) = by_test (h == f) (λ v. h == f ≡ v → length (if not v then h ∷ filter (λ h. not (h == f)) fs else filter (λ h. not (h == f)) fs) + (if f == h then times f fs + 1 else times f fs) ≡ suc (length fs))
    (λ _ is. let yes_is : f == h ≡ true = grind (arith, nat_tests) in let e = length_less f fs in ap (λ v. length (filter (λ h. not (h == f)) fs) + (if v then times f fs + 1 else times f fs)) yes_is ∙ omega arith)
    (λ _ is. let no_is : f == h ≡ false = grind (arith, nat_tests) in let e = length_less f fs in ap (λ v. suc (length (filter (λ h. not (h == f)) fs)) + (if v then times f fs + 1 else times f fs)) no_is ∙ omega arith) refl

-- a run of numbers has those from its first on once, and no other
pub times_out : (g a n : ℕ) → (g < a) ⊎ (a + n ≤ g) → times g (range_with_len a n) ≡ 0
times_out g a zero out = refl
times_out g a (suc n) out = let no_is : g == a ≡ false = ⊎_elim (λ (l : g < a). grind (arith, nat_tests)) (λ (l : a + suc n ≤ g). grind (arith, nat_tests)) out in
    ap (λ v. if v then times g (range_with_len (a + 1) n) + 1 else times g (range_with_len (a + 1) n)) no_is
    ∙ times_out g (a + 1) n (⊎_elim (λ (l : g < a). inl (omega arith)) (λ (l : a + suc n ≤ g). inr (omega arith)) out)

-- a number of the run stands there once
pub times_in : (g a n : ℕ) → a ≤ g → g < a + n → times g (range_with_len a n) ≡ 1
times_in g a zero low high = absurd (omega arith)
times_in g a (suc n) low high = by_test (g == a) (λ v. g == a ≡ v → (if v then times g (range_with_len (a + 1) n) + 1 else times g (range_with_len (a + 1) n)) ≡ 1)
    (λ _ is. let i : g ≡ a = eqb-true g a is in ap (λ n. n + 1) (times_out g (a + 1) n (inl (omega arith))))
    (λ _ is. let ne : a < g = grind (arith, nat_tests) in times_in g (a + 1) n (omega arith) (omega arith)) refl

-- it is a sum over the list
pub sum-times : (g : ℕ) (fs : List ℕ) → sum_by (λ f. one_if (f == g)) fs ≡ times g fs
sum-times g [] = refl
sum-times g (f ∷ fs) = sum_by-cons (λ f. one_if (f == g)) f fs ∙ by_test (f == g) (λ v. f == g ≡ v → one_if v + sum_by (λ f. one_if (f == g)) fs ≡ (if g == f then times g fs + 1 else times g fs))
    (λ _ is. let yes_is : g == f ≡ true = grind (arith, nat_tests) in let e = sum-times g fs in sym (ap (λ v. if v then times g fs + 1 else times g fs) yes_is ∙ omega arith))
    (λ _ is. let no_is : g == f ≡ false = grind (arith, nat_tests) in let e = sum-times g fs in sym (ap (λ v. if v then times g fs + 1 else times g fs) no_is ∙ omega arith)) refl
