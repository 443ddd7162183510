-- Where sub-pages lie: what is known of their numbers. Nothing else needs to know how they are counted.
use Rattle.std.proofs.Common.{◌≡◌, ◌≢◌, ℕ, zero, suc, ◌+◌, ◌-◌, ◌*◌, ◌/◌, ◌<◌, ◌≤◌, List, [], ◌∷◌, length, take, true, false, get_or, slice_index, refl, sym, subst, ap, arith, inl, inr, eqb-true}
use mathlib.Core.Logic.{dite}
use native.Mathlib.Decide.{ℕ_discrete}
use Rattle.std.specs.List.{range_with_len}
use Rattle.std.proofs.lemmas.Bool.Decides.{nat_tests}
use Rattle.std.proofs.lemmas.List.{get_or-map}
use Rattle.std.proofs.lemmas.List.Sums.{sum_by-cons}
use Rattle.eleos_base.specs.declared.memory.Addr.{Addr}
use Rattle.eleos_base.specs.declared.plan.Plan.{Plan}
use Rattle.eleos_base.specs.declared.plan.EnclavePlan.{EnclavePlan}
use Rattle.eleos_base.specs.Plain.{is_in_range, zeros}
use Rattle.eleos_base.specs.Plans.{sub_bytes, subs_in}
use Rattle.eleos_base.specs.Ties.{Has}
use Rattle.eleos_base.specs.Runs.{first_of_run}
use Rattle.eleos_base.specs.Places.{page_counts, per_page, page_of, subs_of, first_sub, subs, is_sub_of, sub_of, blank_bytes}

has-range : (a n s : ℕ) → a ≤ s → s < a + n → Has s (range_with_len a n)
has-range a zero s low high = absurd (omega arith)
has-range a (suc n) s low high = dite (ℕ_discrete s a) (λ e. inl e) (λ ne. inr (has-range (a + 1) n s (omega arith) (omega arith)))

-- a run of numbers ends before each later one begins
run-before : (lengths : List ℕ) (j e : ℕ) → j < e → first_of_run lengths j + slice_index lengths j ≤ first_of_run lengths e
run-before [] zero e lt = omega arith
run-before [] (suc j) e lt = omega arith
run-before (n ∷ lengths) j zero lt = absurd (omega arith)
run-before (n ∷ lengths) zero (suc e) lt =
    let later : first_of_run (n ∷ lengths) (suc e) ≡ n + first_of_run lengths e = sum_by-cons (λ (m : ℕ). m) n (take e lengths) in
    let own : slice_index (n ∷ lengths) zero ≡ n = refl in
    let start : first_of_run (n ∷ lengths) zero ≡ 0 = refl in
    omega arith
run-before (n ∷ lengths) (suc j) (suc e) lt =
    let later : first_of_run (n ∷ lengths) (suc e) ≡ n + first_of_run lengths e = sum_by-cons (λ (m : ℕ). m) n (take e lengths) in
    let own : slice_index (n ∷ lengths) (suc j) ≡ slice_index lengths j = refl in
    let start : first_of_run (n ∷ lengths) (suc j) ≡ n + first_of_run lengths j = sum_by-cons (λ (m : ℕ). m) n (take j lengths) in
    omega (arith, run-before lengths j e (omega arith))

module _ (k : Plan) where
  -- a sub-page is one of its page
  pub has-sub_of : (s p : ℕ) → page_of k s ≡ p → Has s (subs_of k p)
  has-sub_of s p e = subst (λ (q : ℕ). Has s (subs_of k q)) e (has-range (page_of k s * per_page k) (per_page k) s (omega arith) (omega arith))

  -- the bytes of a blank sub-page are zeros, in each enclave
  pub blank-is : (e : ℕ) → zeros (sub_bytes k e) ≡ blank_bytes k
  blank-is e = refl

  -- an access in range is one of the enclave
  pub at_home : (e n : ℕ) (at : Addr) → is_in_range (sub_bytes k e) e (subs k e) at n ≡ true → at.enclave ≡ e
  at_home e n at inside = eqb-true at.enclave e (grind (arith, nat_tests))

  -- and lies in one of its sub-pages
  pub local-within : (e n : ℕ) (at : Addr) → is_in_range (sub_bytes k e) e (subs k e) at n ≡ true → at.at / sub_bytes k e < subs k e
  local-within e n at inside = grind (arith, nat_tests)

  -- which has the address
  pub sub_of-is : (e : ℕ) (at : Addr) → at.enclave ≡ e → sub_of k at ≡ first_sub k e + at.at / sub_bytes k e
  sub_of-is e at home = ap (λ (d : ℕ). first_sub k d + at.at / sub_bytes k d) home

  -- a sub-page of an enclave is its first and some more
  pub sub-again : (e s : ℕ) → is_sub_of k e s ≡ true → first_sub k e + (s - first_sub k e) ≡ s
  sub-again e s is = grind (arith, nat_tests)

  -- the sub-pages of an enclave by their place in it
  pub sub-inside : (e i : ℕ) → i < subs k e → is_sub_of k e (first_sub k e + i) ≡ true
  sub-inside e i within = grind (arith, nat_tests)

  -- and back from the machine's number to the place in the enclave
  pub sub-local : (e i : ℕ) → first_sub k e + i - first_sub k e ≡ i
  sub-local e i = omega arith

  -- none of which is another enclave's
  pub sub-outside : (e j i : ℕ) → j ≢ e → i < subs k j → is_sub_of k e (first_sub k j + i) ≡ false
  sub-outside e j i other within =
      let below : j < e → first_of_run (page_counts k) j + slice_index (page_counts k) j ≤ first_of_run (page_counts k) e = run-before (page_counts k) j e in
      let above : e < j → first_of_run (page_counts k) e + slice_index (page_counts k) e ≤ first_of_run (page_counts k) j = run-before (page_counts k) e j in
      grind (arith, nat_tests)

  -- how many sub-pages an enclave has, by its plan
  pub subs-is : (e : ℕ) (d : EnclavePlan) → e < length k.enclaves → subs_in k e (get_or k.enclaves e d).pages ≡ subs k e
  subs-is e d within = ap (subs_in k e) (sym (get_or-map (λ (made : EnclavePlan). made.pages) k.enclaves e d 0 within))
