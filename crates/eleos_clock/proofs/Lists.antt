-- Lists of frames: how often a frame stands in one, and places of a round.
use Rattle.std.proofs.Common.{◌≡◌, ◌≢◌, ◌⊎◌, inl, inr, ⊎_elim, ℕ, zero, suc, ◌+◌, ◌-◌, ◌<◌, ◌≤◌, ◌==◌, List, [], ◌∷◌, ◌++◌, length, cond, nat_lt, nat_eq, get_or, sum_by, refl, sym, ◌∙◌, ap, arith, IsPermutation}
use Rattle.std.specs.List.{IsDistinct, remove}
use Rattle.std.proofs.lemmas.Bool.{cases_lt, eq-eqb, eqb-true, eqb-false, ne_eqb}
use Rattle.std.proofs.lemmas.Bool.Decides.{nat_tests}
use Rattle.std.proofs.lemmas.List.Sorted.{IsPermutation-cons, IsPermutation-refl, IsPermutation-remove, IsPermutation-sym, IsPermutation-trans, sum_by-IsPermutation}
use Rattle.std.proofs.lemmas.List.Sums.{sum_by-cons}
use Rattle.std.proofs.lemmas.Map.Keys.{apart_from_distinct}
use Rattle.eleos_base.specs.Ties.{Has}
use Rattle.eleos_core.proofs.Tests.{by_test}
use Rattle.eleos_turn.specs.Numbers.{times}
use Rattle.eleos_turn.proofs.Numbers.{times_here}
use Rattle.eleos_clock.specs.Lists.{first_place, place_at}

-- with one more at the end
pub times_last : (g f : ℕ) (xs : List ℕ) → times g (xs ++ f ∷ []) ≡ times g xs + cond (g == f) 1 0
times_last g f [] = omega arith
times_last g f (x ∷ xs) = let rest = times_last g f xs in omega (arith, rest)

-- a number put at the end stands in the list once more
pub times_last_here : (f : ℕ) (xs : List ℕ) → times f (xs ++ f ∷ []) ≡ times f xs + 1
times_last_here f xs = times_last f f xs ∙ ap (λ b. times f xs + cond b 1 0) (eq-eqb f f refl)

-- and another number as often as before
pub times_last_else : (g f : ℕ) (xs : List ℕ) → g ≢ f → times g (xs ++ f ∷ []) ≡ times g xs
times_last_else g f xs ne = times_last g f xs ∙ (ap (λ b. times g xs + cond b 1 0) (ne_eqb g f ne) ∙ omega arith)

-- what stands at a place stands there
pub times_at : (xs : List ℕ) (i d : ℕ) → i < length xs → 1 ≤ times (get_or xs i d) xs
times_at [] i d lt = absurd (omega (arith, lt))
times_at (x ∷ xs) zero d lt = let h = times_here x xs in omega (arith, h)
times_at (x ∷ xs) (suc i) d lt = let rest = times_at xs i d (omega (arith, lt)) in omega (arith, rest)

-- and what stands in the list has a place
pub place_of : (g : ℕ) (xs : List ℕ) → 1 ≤ times g xs → (i : ℕ) × (i < length xs) × (g ≡ get_or xs i g)
place_of g [] some = absurd (omega (arith, some))
place_of g (x ∷ xs) some = by_test (g == x) (λ v. g == x ≡ v → 1 ≤ cond v 1 0 + times g xs → (i : ℕ) × (i < length (x ∷ xs)) × (g ≡ get_or (x ∷ xs) i g))
    (λ _ is _. (0, omega arith, eqb-true g x is))
    (λ _ is more. let rest = place_of g xs (omega (arith, more)) in (suc rest.0, (let lt = rest.1 in omega (arith, lt)), rest.2)) refl some

-- a number that is counted in a list at least once stands in it
pub has_from : (g : ℕ) (xs : List ℕ) → 1 ≤ times g xs → Has g xs
has_from g [] some = absurd (omega (arith, some))
has_from g (x ∷ xs) some = by_test (g == x) (λ v. g == x ≡ v → 1 ≤ cond v 1 0 + times g xs → Has g (x ∷ xs))
    (λ _ is _. inl (eqb-true g x is))
    (λ _ is more. inr (has_from g xs (omega (arith, more)))) refl some

-- and one that stands in it is counted at least once
pub has_into : (g : ℕ) (xs : List ℕ) → Has g xs → 1 ≤ times g xs
has_into g [] has = absurd has
has_into g (x ∷ xs) has = ⊎_elim
    (λ (is : g ≡ x). let one = ap {B = ℕ} (λ b. cond b 1 0) (eq-eqb g x is) in omega (arith, one))
    (λ (more : Has g xs). let rest = has_into g xs more in omega (arith, rest)) has

-- reordered lists have each number as often
times_sum : (g : ℕ) (xs : List ℕ) → sum_by (λ h. cond (g == h) 1 0) xs ≡ times g xs
times_sum g [] = refl
times_sum g (x ∷ xs) = sum_by-cons (λ h. cond (g == h) 1 0) x xs ∙ ap (λ n. cond (g == x) 1 0 + n) (times_sum g xs)

-- so each number is as often in the one as in the other
pub times_alike : (xs ys : List ℕ) → IsPermutation xs ys → (g : ℕ) → times g xs ≡ times g ys
times_alike xs ys same g = sym (times_sum g xs) ∙ (sym (sum_by-IsPermutation (λ h. cond (g == h) 1 0) xs ys same) ∙ times_sum g ys)

-- and the other way round
pub permutes : (xs ys : List ℕ) → ((g : ℕ) → times g xs ≡ times g ys) → IsPermutation xs ys
permutes [] [] same = IsPermutation-refl []
permutes [] (y ∷ ys) same = let h = same y in let t = times_here y ys in absurd (omega (arith, h, t))
permutes (x ∷ xs) ys same =
    let t = times_here x xs in let h = same x in
    let at = place_of x ys (omega (arith, t, h)) in
    let rest : List ℕ = remove ys at.0 in
    let moved : IsPermutation ys (x ∷ rest) = IsPermutation-remove ys at.0 x at.1 at.2 in
    IsPermutation-trans (x ∷ xs) (x ∷ rest) ys
    (IsPermutation-cons x xs rest (permutes xs rest (λ g. let a = same g in let b = times_alike ys (x ∷ rest) moved g in omega (arith, a, b))))
    (IsPermutation-sym ys (x ∷ rest) moved)

-- numbers at two places of a list without repeats differ
pub differ_at : (xs : List ℕ) (i j d : ℕ) → IsDistinct nat_eq xs → i < length xs → j < length xs → i ≢ j → get_or xs i d ≢ get_or xs j d
differ_at xs i j d distinct lt lt' ne same = ⊎_elim
    (λ (l : i < j). eqb-false _ _ (apart_from_distinct nat_eq xs i j d distinct l lt') same)
    (λ (l : j ≤ i). eqb-false _ _ (apart_from_distinct nat_eq xs j i d distinct (below j i l ne) lt) (sym same))
    (either i j)
  where
    either : (a b : ℕ) → (a < b) ⊎ (b ≤ a)
    either a b = cases_lt a b

    below : (a b : ℕ) → a ≤ b → b ≢ a → a < b
    below a b le ne = ⊎_elim (λ (l : a < b). l) (λ (l : b ≤ a). absurd (ne (omega (arith, l, le)))) (either a b)

-- the steps of a round
pub first_inside : (hand n : ℕ) → 0 < n → first_place hand n < n
first_inside hand n some = grind (arith, nat_tests)

-- each step of a round comes to a place inside the list
pub place_inside : (start i n : ℕ) → start < n → i < n → place_at start i n < n
place_inside start i n s l = grind (arith, nat_tests)

-- two steps of one round come to different places
pub place_apart : (start i j n : ℕ) → start < n → i < n → j < n → i ≢ j → place_at start i n ≢ place_at start j n
place_apart start i j n s l l' ne same = ne (grind (arith, nat_tests))

-- and each place of the list is that of some step
pub step_to : (start p n : ℕ) → start < n → p < n → (i : ℕ) × (i < n) × (place_at start i n ≡ p)
step_to start p n s l = by_test (nat_lt p start) (λ v. nat_lt p start ≡ v → (i : ℕ) × (i < n) × (place_at start i n ≡ p))
    (λ _ is. (p + n - start, grind (arith, nat_tests), grind (arith, nat_tests)))
    (λ _ is. (p - start, grind (arith, nat_tests), grind (arith, nat_tests))) refl
