-- Runs of numbers that follow each other: each number lies in the run that has it, and in no other.
use Rattle.std.proofs.Common.{◌≡◌, inl, inr, ℕ, zero, suc, ◌+◌, ◌-◌, ◌<◌, ◌≤◌, ◌==◌, List, [], ◌∷◌, length, take, false, Some, None, option_map, sum, sum_by, slice_index, nat_lt, if◌then◌else◌, refl, sym, ◌∙◌, ap, arith}
use Rattle.std.specs.List.{range_with_len}
use Rattle.std.proofs.lemmas.Bool.{ne_eqb, eqb-true, eqb-false, eq-eqb, ltb-true, ltb-false}
use Rattle.std.proofs.lemmas.List.{take_all}
use Rattle.std.proofs.lemmas.List.FromFn.{fill_by_all}
use Rattle.std.proofs.lemmas.List.Sums.{sum_by-cons, sum-map}
use Rattle.eleos_base.specs.Runs.{first_of_run, run_with}
use Rattle.eleos_base.specs.Places.{Owner}
use Rattle.eleos_core.specs.State.{is_owner}
use Rattle.eleos_core.proofs.Tests.{by_test}
use Rattle.eleos_core.proofs.Times.{times, one_if, times_in, times_out}

suc_eqb : (a b : ℕ) → (suc a == suc b) ≡ (a == b)
suc_eqb a b = by_test (a == b) (λ v. a == b ≡ v → (suc a == suc b) ≡ v)
    (λ _ is. eq-eqb (suc a) (suc b) (ap suc (eqb-true a b is)))
    (λ _ is. ne_eqb (suc a) (suc b) (λ same. eqb-false a b is (omega arith))) refl

-- the next run is no first one, and the runs behind the first are numbered from it
later_not_first : (o : Owner) → is_owner (option_map suc o) (Some 0) ≡ false
later_not_first None = refl
later_not_first (Some e) = ne_eqb (suc e) 0 (λ same. omega arith)

later_same : (o : Owner) (e : ℕ) → is_owner (option_map suc o) (Some (suc e)) ≡ is_owner o (Some e)
later_same None e = refl
later_same (Some d) e = suc_eqb d e

first_of_later : (n : ℕ) (lengths : List ℕ) (e : ℕ) → first_of_run (n ∷ lengths) (suc e) ≡ n + first_of_run lengths e
first_of_later n lengths e = sum_by-cons (λ x. x) n (take e lengths)

-- where numbers are counted from a on, a number stands in a run where that is the run that has it
pub run_times : (lengths : List ℕ) (a e i : ℕ) → times (a + i) (range_with_len (a + first_of_run lengths e) (slice_index lengths e)) ≡ one_if (is_owner (run_with lengths i) (Some e))
run_times [] a e i = refl
run_times (n ∷ lengths) a zero i = by_test (nat_lt i n) (λ v. nat_lt i n ≡ v → times (a + i) (range_with_len (a + 0) n) ≡ one_if (is_owner (if v then Some 0 else option_map suc (run_with lengths (i - n))) (Some 0)))
    (λ _ is. let low : i < n = ltb-true i n is in times_in (a + i) (a + 0) n (omega arith) (omega arith))
    (λ _ is. let high : n ≤ i = ltb-false i n is in times_out (a + i) (a + 0) n (inr (omega arith)) ∙ sym (ap one_if (later_not_first (run_with lengths (i - n))))) refl
run_times (n ∷ lengths) a (suc e) i = by_test (nat_lt i n) (λ v. nat_lt i n ≡ v → times (a + i) (range_with_len (a + first_of_run (n ∷ lengths) (suc e)) (slice_index lengths e)) ≡ one_if (is_owner (if v then Some 0 else option_map suc (run_with lengths (i - n))) (Some (suc e))))
    (λ _ is. let low : i < n = ltb-true i n is in let at = first_of_later n lengths e in
    times_out (a + i) (a + first_of_run (n ∷ lengths) (suc e)) (slice_index lengths e) (inl (omega arith)) ∙ sym (ap one_if (ne_eqb 0 (suc e) (λ same. omega arith))))
    (λ _ is. let high : n ≤ i = ltb-false i n is in let at = first_of_later n lengths e in
    let same_number : a + i ≡ a + n + (i - n) = omega arith in
    let same_start : a + first_of_run (n ∷ lengths) (suc e) ≡ a + n + first_of_run lengths e = omega arith in
    (λ t. times (same_number t) (range_with_len (same_start t) (slice_index lengths e)))
    ∙ (run_times lengths (a + n) e (i - n) ∙ sym (ap one_if (later_same (run_with lengths (i - n)) e)))) refl

-- no run has a number past the last
pub run_past : (lengths : List ℕ) (i : ℕ) → sum lengths ≤ i → run_with lengths i ≡ None
run_past [] i past = refl
run_past (n ∷ lengths) i past = let all = sum_by-cons (λ x. x) n lengths in by_test (nat_lt i n) (λ v. nat_lt i n ≡ v → (if v then Some 0 else option_map suc (run_with lengths (i - n))) ≡ None)
    (λ _ is. let low : i < n = ltb-true i n is in absurd (omega arith))
    (λ _ is. ap (option_map suc) (run_past lengths (i - n) (omega arith))) refl

-- and one has each other
later_is_run : (o : Owner) → is_owner o None ≡ false → is_owner (option_map suc o) None ≡ false
later_is_run None none = none
later_is_run (Some e) none = refl

-- a number below the sum lies in some run
pub run_is : (lengths : List ℕ) (i : ℕ) → i < sum lengths → is_owner (run_with lengths i) None ≡ false
run_is [] i within = absurd (omega arith)
run_is (n ∷ lengths) i within = let all = sum_by-cons (λ x. x) n lengths in by_test (nat_lt i n) (λ v. nat_lt i n ≡ v → is_owner (if v then Some 0 else option_map suc (run_with lengths (i - n))) None ≡ false)
    (λ _ is. refl)
    (λ _ is. let high : n ≤ i = ltb-false i n is in later_is_run (run_with lengths (i - n)) (run_is lengths (i - n) (omega arith))) refl

-- a run is one of so many
abbrev pub IsBelow : ℕ → Owner → Type 0
IsBelow n None = Unit {0}
IsBelow n (Some e) = e < n

later_below : (n : ℕ) (o : Owner) → IsBelow n o → IsBelow (suc n) (option_map suc o)
later_below n None below = tt
later_below n (Some e) below = omega arith

-- the run that has a number, if any has it, is one of these
pub run_below : (lengths : List ℕ) (i : ℕ) → IsBelow (length lengths) (run_with lengths i)
run_below [] i = tt
run_below (n ∷ lengths) i = by_test (nat_lt i n) (λ v. IsBelow (suc (length lengths)) (if v then Some 0 else option_map suc (run_with lengths (i - n))))
    (λ _. omega arith)
    (λ _. later_below (length lengths) (run_with lengths (i - n)) (run_below lengths (i - n)))

-- the runs together have as many numbers as their lengths say
pub first_behind : (lengths : List ℕ) → first_of_run lengths (length lengths) ≡ sum lengths
first_behind lengths = ap sum (take_all (length lengths) lengths (omega arith))

-- and so it is counted run by run
pub sum_of_runs : (lengths : List ℕ) → sum_by (λ e. slice_index lengths e) (range_with_len 0 (length lengths)) ≡ sum lengths
sum_of_runs lengths = sym (sum-map (λ e. slice_index lengths e) (range_with_len 0 (length lengths))) ∙ sym (ap sum (fill_by_all (λ e. slice_index lengths e) lengths (length lengths) 0 refl (λ e lt. refl)))
