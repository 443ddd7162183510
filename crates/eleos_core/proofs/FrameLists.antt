-- Lists of numbers by how often each number stands in them: which have the same numbers, and whose numbers differ.
use Rattle.std.proofs.Common.{◌≡◌, ℕ, zero, suc, ◌+◌, ◌<◌, ◌≤◌, List, [], ◌∷◌, length, Bool, true, false, cond, ◌==◌, ◌&&◌, nat_eq, slice_index_or, refl, sym, ◌∙◌, ap, subst, arith, IsPermutation, Contains}
use Rattle.std.specs.List.{AllByRecursion, IsDistinct, list_all, list_any, count_by, remove}
use Rattle.std.proofs.lemmas.Bool.{and_parts, and_from, eqb-true, eqb-false, eq-eqb, ne_eqb}
use Rattle.std.proofs.lemmas.Bool.Decides.{Decides-eqb}
use Rattle.std.proofs.lemmas.Cmp.{nat_eq_equiv}
use Rattle.std.proofs.lemmas.List.Sorted.{IsPermutation-cons, IsPermutation-refl, IsPermutation-remove, IsPermutation-sym, IsPermutation-trans, sum_by-IsPermutation}
use Rattle.std.proofs.lemmas.List.Sums.{sum_by-cons}
use Rattle.std.proofs.lemmas.Map.Keys.{IsDistinct-from_apart, IsDistinct-head, IsDistinct-tail}
use Rattle.std.proofs.lemmas.Map.Made.{is_member-Decides, length-le_from_is_member}
use Rattle.eleos_base.specs.declared.memory.Looked.{Looked}
use Rattle.eleos_core.specs.Sweeps.{frames_in}
use Rattle.eleos_core.proofs.Tests.{by_test}

-- how often the number stands in the list
abbrev times : ℕ → List ℕ → ℕ
times v [] = 0
times v (x ∷ xs) = cond (x == v) 1 0 + times v xs

pub times_are : (v : ℕ) (xs : List ℕ) → count_by (λ x. x == v) xs ≡ times v xs
times_are v [] = refl
times_are v (x ∷ xs) = sum_by-cons (λ x. cond (x == v) 1 0) x xs ∙ ap (λ n. cond (x == v) 1 0 + n) (times_are v xs)

times_same : (xs ys : List ℕ) → IsPermutation xs ys → (v : ℕ) → times v xs ≡ times v ys
times_same xs ys same v = sym (times_are v xs) ∙ (sym (sum_by-IsPermutation (λ x. cond (x == v) 1 0) xs ys same) ∙ times_are v ys)

times_here : (v : ℕ) (xs : List ℕ) → times v (v ∷ xs) ≡ 1 + times v xs
times_here v xs = ap (λ b. cond b 1 0 + times v xs) (eq-eqb v v refl)

less : (a b m n : ℕ) → a + m ≡ b + n → a ≡ b → m ≡ n
less a b m n both first = omega arith

-- where a number that stands in the list stands
found_at : (x : ℕ) (ys : List ℕ) → 1 ≤ times x ys → (i : ℕ) × (i < length ys) × (x ≡ slice_index_or ys i x)
found_at x [] some = absurd (omega arith)
found_at x (y ∷ ys) some = by_test (y == x) (λ b. 1 ≤ cond b 1 0 + times x ys → (i : ℕ) × (i < length (y ∷ ys)) × (x ≡ slice_index_or (y ∷ ys) i x))
    (λ yes_is here. (0, (omega arith), sym (eqb-true y x yes_is)))
    (λ no_is later. let rest : 1 ≤ times x ys = omega arith in let r = found_at x ys rest in (suc r.0, (let inside = r.1 in omega arith), r.2))
    some

-- lists in which each number stands as often have the same numbers
permuted : (xs ys : List ℕ) → ((v : ℕ) → times v xs ≡ times v ys) → IsPermutation xs ys
permuted [] [] same = IsPermutation-refl []
permuted [] (y ∷ ys) same = let h = same y in let t = times_here y ys in absurd (omega arith)
permuted (x ∷ xs) ys same =
    let here : 1 ≤ times x ys = (let h = same x in let t = times_here x xs in omega arith) in
    let r = found_at x ys here in
    let rest : List ℕ = remove ys r.0 in
    let split : IsPermutation ys (x ∷ rest) = IsPermutation-remove ys r.0 x r.1 r.2 in
    let alike : (v : ℕ) → times v xs ≡ times v rest = λ v. less (cond (x == v) 1 0) (cond (x == v) 1 0) (times v xs) (times v rest) (same v ∙ times_same ys (x ∷ rest) split v) refl in
    IsPermutation-trans (x ∷ xs) (x ∷ rest) ys (IsPermutation-cons x xs rest (permuted xs rest alike)) (IsPermutation-sym ys (x ∷ rest) split)

-- each number of the third list stands in the first as often as in the second
abbrev all_alike : List ℕ → List ℕ → List ℕ → Bool
all_alike xs ys zs = list_all (λ v. times v xs == times v ys) zs

alike_at : (xs ys zs : List ℕ) → all_alike xs ys zs ≡ true → (v : ℕ) → 1 ≤ times v zs → times v xs ≡ times v ys
alike_at xs ys [] all v some = absurd (omega arith)
alike_at xs ys (z ∷ zs) all v some =
    let parts = and_parts (times z xs == times z ys) (all_alike xs ys zs) all in
    by_test (z == v) (λ b. 1 ≤ cond b 1 0 + times v zs → times v xs ≡ times v ys)
    (λ yes_is here. subst (λ w. times w xs ≡ times w ys) (eqb-true z v yes_is) (eqb-true (times z xs) (times z ys) parts.0))
    (λ no_is later. let rest : 1 ≤ times v zs = omega arith in alike_at xs ys zs parts.1 v rest)
    some

alike_all : (xs ys zs : List ℕ) → ((v : ℕ) → times v xs ≡ times v ys) → all_alike xs ys zs ≡ true
alike_all xs ys [] same = refl
alike_all xs ys (z ∷ zs) same = and_from (times z xs == times z ys) (all_alike xs ys zs) (eq-eqb (times z xs) (times z ys) (same z)) (alike_all xs ys zs same)

-- where that is so of the numbers of both, it is so of all
alike_everywhere : (xs ys : List ℕ) → all_alike xs ys xs ≡ true → all_alike xs ys ys ≡ true → (v : ℕ) → times v xs ≡ times v ys
alike_everywhere xs ys all all' v = by_first (times v xs) refl
  where
    by_second : (n : ℕ) → times v ys ≡ n → times v xs ≡ 0 → times v xs ≡ times v ys
    by_second zero is none = none ∙ sym is
    by_second (suc n) is none = alike_at xs ys ys all' v (omega arith)

    by_first : (m : ℕ) → times v xs ≡ m → times v xs ≡ times v ys
    by_first zero is = by_second (times v ys) refl is
    by_first (suc m) is = alike_at xs ys xs all v (omega arith)

-- how often a sweep names a frame
named_are : (v : ℕ) (sweep : List Looked) → count_by (λ (seen : Looked). seen.frame == v) sweep ≡ times v (frames_in sweep)
named_are v [] = refl
named_are v (seen ∷ sweep) = sum_by-cons (λ (s : Looked). cond (s.frame == v) 1 0) seen sweep ∙ ap (λ n. cond (seen.frame == v) 1 0 + n) (named_are v sweep)

-- a sweep and a list, by counts of each frame where it stands
module _ (sweep : List Looked) (list : List ℕ) where
  abbrev pub is_alike : ℕ → Bool
  is_alike v = count_by (λ (other : Looked). other.frame == v) sweep == count_by (λ frame. frame == v) list

  alike_is : (v : ℕ) → is_alike v ≡ (times v (frames_in sweep) == times v list)
  alike_is v = λ i. named_are v sweep i == times_are v list i

  seen_are : (more : List Looked) → list_all (λ (seen : Looked). is_alike seen.frame) more ≡ all_alike (frames_in sweep) list (frames_in more)
  seen_are [] = refl
  seen_are (seen ∷ more) = λ i. alike_is seen.frame i && seen_are more i

  listed_are : (more : List ℕ) → list_all is_alike more ≡ all_alike (frames_in sweep) list more
  listed_are [] = refl
  listed_are (frame ∷ more) = λ i. alike_is frame i && listed_are more i

  -- these counts decide whether both have the same frames
  pub same_decides : (r : Bool) → r ≡ (list_all (λ (seen : Looked). is_alike seen.frame) sweep && list_all is_alike list)
      → (r ≡ true → IsPermutation (frames_in sweep) list) × (IsPermutation (frames_in sweep) list → r ≡ true)
  same_decides r is =
      let tests : r ≡ (all_alike (frames_in sweep) list (frames_in sweep) && all_alike (frames_in sweep) list list) = is ∙ (λ i. seen_are sweep i && listed_are list i) in (
        (λ yes. let parts = and_parts (all_alike (frames_in sweep) list (frames_in sweep)) (all_alike (frames_in sweep) list list) (sym tests ∙ yes) in
            permuted (frames_in sweep) list (alike_everywhere (frames_in sweep) list parts.0 parts.1)),
        (λ same. let alike = times_same (frames_in sweep) list same in
            tests ∙ and_from _ _ (alike_all (frames_in sweep) list (frames_in sweep) alike) (alike_all (frames_in sweep) list list alike)),
      )

-- each number of the second list stands once in the first
abbrev all_once : List ℕ → List ℕ → Bool
all_once xs zs = list_all (λ v. times v xs == 1) zs

once_at : (xs zs : List ℕ) (i d : ℕ) → all_once xs zs ≡ true → i < length zs → times (slice_index_or zs i d) xs ≡ 1
once_at xs [] i d all inside = absurd (omega arith)
once_at xs (z ∷ zs) zero d all inside = eqb-true (times z xs) 1 (and_parts (times z xs == 1) (all_once xs zs) all).0
once_at xs (z ∷ zs) (suc i) d all inside = once_at xs zs i d (and_parts (times z xs == 1) (all_once xs zs) all).1 (omega arith)

stands : (xs : List ℕ) (i d : ℕ) → i < length xs → 1 ≤ times (slice_index_or xs i d) xs
stands [] i d inside = absurd (omega arith)
stands (x ∷ xs) zero d inside = let t = times_here x xs in omega arith
stands (x ∷ xs) (suc i) d inside = let h = stands xs i d (omega arith) in omega arith

-- a number at two places stands there twice
stands_twice : (xs : List ℕ) (i j d : ℕ) → i < j → j < length xs → slice_index_or xs i d ≡ slice_index_or xs j d → 2 ≤ times (slice_index_or xs i d) xs
stands_twice [] i j d below inside same = absurd (omega arith)
stands_twice (x ∷ xs) i zero d below inside same = absurd (omega arith)
stands_twice (x ∷ xs) zero (suc j) d below inside same =
    let t = times_here x xs in
    let later : 1 ≤ times x xs = subst (λ v. 1 ≤ times v xs) (sym same) (stands xs j d (omega arith)) in omega arith
stands_twice (x ∷ xs) (suc i) (suc j) d below inside same = let h = stands_twice xs i j d (omega arith) (omega arith) same in omega arith

absent : (x : ℕ) (xs : List ℕ) → AllByRecursion (λ y. nat_eq x y ≡ false) xs → times x xs ≡ 0
absent x [] all = refl
absent x (y ∷ ys) all = (λ i. cond (ne_eqb y x (λ same. eqb-false x y all.0 (sym same)) i) 1 0 + absent x ys all.1 i)

-- numbers that differ stand once each
at_most_once : (xs : List ℕ) → IsDistinct nat_eq xs → (v : ℕ) → times v xs ≤ 1
at_most_once [] distinct v = omega arith
at_most_once (x ∷ xs) distinct v = by_test (x == v) (λ b. cond b 1 0 + times v xs ≤ 1)
    (λ yes_is. let none : times x xs ≡ 0 = absent x xs (IsDistinct-head nat_eq x xs distinct) in
    let same : times v xs ≡ 0 = subst (λ w. times w xs ≡ 0) (eqb-true x v yes_is) none in omega arith)
    (λ no_is. let most : times v xs ≤ 1 = at_most_once xs (IsDistinct-tail nat_eq x xs distinct) v in omega arith)

all_once_of : (xs zs : List ℕ) → ((v : ℕ) → 1 ≤ times v zs → times v xs ≡ 1) → all_once xs zs ≡ true
all_once_of xs [] once = refl
all_once_of xs (z ∷ zs) once = and_from (times z xs == 1) (all_once xs zs)
    (eq-eqb (times z xs) 1 (once z (let t = times_here z zs in omega arith))) (all_once_of xs zs (λ v some. once v (omega arith)))

-- counts of each frame decide whether the sweep names none twice
module _ (sweep : List Looked) where
  once_are : (more : List Looked) → list_all (λ (seen : Looked). count_by (λ (other : Looked). other.frame == seen.frame) sweep == 1) more ≡ all_once (frames_in sweep) (frames_in more)
  once_are [] = refl
  once_are (seen ∷ more) = λ i. (named_are seen.frame sweep i == 1) && once_are more i

  pub distinct_decides : (r : Bool) → r ≡ list_all (λ (seen : Looked). count_by (λ (other : Looked). other.frame == seen.frame) sweep == 1) sweep
      → (r ≡ true → IsDistinct nat_eq (frames_in sweep)) × (IsDistinct nat_eq (frames_in sweep) → r ≡ true)
  distinct_decides r is = (
    (λ yes. IsDistinct-from_apart nat_eq (frames_in sweep) (λ i j d below inside.
        ne_eqb (slice_index_or (frames_in sweep) i d) (slice_index_or (frames_in sweep) j d) (λ same.
        let twice = stands_twice (frames_in sweep) i j d below inside same in
        let once = once_at (frames_in sweep) (frames_in sweep) i d (sym (once_are sweep) ∙ (sym is ∙ yes)) (omega arith) in omega arith))),
    (λ distinct. is ∙ (once_are sweep ∙ all_once_of (frames_in sweep) (frames_in sweep) (λ v some. let most = at_most_once (frames_in sweep) distinct v in omega arith))),
  )

-- a number stands in a list just where it is found there
pub member_from : (x : ℕ) (xs : List ℕ) → list_any (nat_eq x) xs ≡ true → Contains xs x
member_from x xs = (is_member-Decides Decides-eqb xs x).0

-- the other way round: what stands in it is found
pub member_into : (x : ℕ) (xs : List ℕ) → Contains xs x → list_any (nat_eq x) xs ≡ true
member_into x xs = (is_member-Decides Decides-eqb xs x).1

-- numbers that differ and stand in a list are no more than the list has
pub no_longer : (xs ys : List ℕ) → IsDistinct nat_eq xs → ((x : ℕ) → list_any (nat_eq x) xs ≡ true → list_any (nat_eq x) ys ≡ true) → length xs ≤ length ys
no_longer xs ys distinct listed = length-le_from_is_member nat_eq_equiv xs ys distinct listed
