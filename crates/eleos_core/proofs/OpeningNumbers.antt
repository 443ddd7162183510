-- Where each enclave's pages, sub-pages and frames lie among the machine's.
use Rattle.std.proofs.Common.{◌≡◌, ℕ, zero, suc, ◌+◌, ◌-◌, ◌*◌, ◌<◌, ◌≤◌, List, [], ◌∷◌, length, take, slice_index_or, nat_lt, true, false, Some, option_map, sum, slice_index, if◌then◌else◌, refl, sym, ◌∙◌, ap, subst, arith}
use Rattle.std.proofs.lemmas.Bool.Decides.{nat_tests}
use Rattle.std.proofs.lemmas.List.{get_or-map, length-map}
use Rattle.std.proofs.lemmas.List.Sums.{sum-map, sum_by-cons, sum_by_more, sum_by_more_le}
use Rattle.eleos_base.specs.declared.plan.EnclavePlan.{EnclavePlan}
use Rattle.eleos_base.specs.declared.plan.Plan.{Plan}
use Rattle.eleos_base.specs.Plans.{IsGood, subs_in}
use Rattle.eleos_core.specs.Cells.{subs_per_page}
use Rattle.eleos_base.specs.Places.{all_frames, all_pages, first_sub, frame_counts, page_counts, per_page, subs}
use Rattle.eleos_base.specs.Runs.{first_of_run, run_with}
use Rattle.eleos_core.proofs.RunNumbers.{first_behind}

-- the run e has n numbers
pub record IsLegalRun (lengths : List ℕ) (e n : ℕ) : Type 0 where
  pub is : slice_index lengths e ≡ n
  pub next : first_of_run lengths (e + 1) ≡ first_of_run lengths e + n
  pub within : first_of_run lengths e + n ≤ sum lengths

run_at : (lengths : List ℕ) (e n : ℕ) → e < length lengths → slice_index lengths e ≡ n → IsLegalRun lengths e n
run_at lengths e n exists is = subst (IsLegalRun lengths e) is (record { is = refl; next = sum_by_more (λ (m : ℕ). m) lengths e 0 exists; within = sum_by_more_le (λ (m : ℕ). m) lengths e 0 exists })

module _ (k : Plan) (made : List EnclavePlan) (same : made ≡ k.enclaves) (e : ℕ) (d : EnclavePlan) (exists : e < length made) where
  plan_exists : e < length k.enclaves
  plan_exists = subst (λ ms. e < length ms) same exists

  -- an enclave's pages
  pub pages_at : IsLegalRun (page_counts k) e (slice_index_or made e d).pages
  pages_at =
      let many = length-map k.enclaves (λ (m : EnclavePlan). m.pages) in
      let exists' = plan_exists in
      run_at (page_counts k) e (slice_index_or made e d).pages (omega arith)
      (get_or-map (λ (m : EnclavePlan). m.pages) k.enclaves e d 0 plan_exists ∙ ap (λ ms. (slice_index_or ms e d).pages) (sym same))

  -- and its frames
  pub frames_at : IsLegalRun (frame_counts k) e (slice_index_or made e d).frames
  frames_at =
      let many = length-map k.enclaves (λ (m : EnclavePlan). m.frames) in
      let exists' = plan_exists in
      run_at (frame_counts k) e (slice_index_or made e d).frames (omega arith)
      (get_or-map (λ (m : EnclavePlan). m.frames) k.enclaves e d 0 plan_exists ∙ ap (λ ms. (slice_index_or ms e d).frames) (sym same))

-- all runs together
pub all_runs_pages : (k : Plan) (e : ℕ) → e ≡ length k.enclaves → first_of_run (page_counts k) e ≡ all_pages k
all_runs_pages k e all = ap (first_of_run (page_counts k)) (all ∙ sym (length-map k.enclaves (λ (m : EnclavePlan). m.pages))) ∙ first_behind (page_counts k)

-- the pool's frames are numbered from the sum of those of all enclaves on
pub all_runs_frames : (k : Plan) (e : ℕ) → e ≡ length k.enclaves → first_of_run (frame_counts k) e ≡ sum (frame_counts k)
all_runs_frames k e all = ap (first_of_run (frame_counts k)) (all ∙ sym (length-map k.enclaves (λ (m : EnclavePlan). m.frames))) ∙ first_behind (frame_counts k)

-- how many pages and frames a good plan has
pub few_pages : (k : Plan) → IsGood k → all_pages k ≤ 4096
few_pages k good = let all = sum-map (λ (made : EnclavePlan). made.pages) k.enclaves in let few = good.all_pages in omega arith

-- a good plan has at most 512 frames
pub few_frames : (k : Plan) → IsGood k → all_frames k ≤ 512
few_frames k good = let all = sum-map (λ (made : EnclavePlan). made.frames) k.enclaves in let few = good.frames in omega arith

-- so many pages have so many sub-pages
pub subs_made : (k : Plan) (e pages : ℕ) → subs_in k e pages ≡ pages * subs_per_page
subs_made k e pages = omega arith

-- a page's sub-pages, counted from the enclave's first, are the enclave's
pub sub_within : (k : Plan) (e p i : ℕ) → p < slice_index (page_counts k) e → i < subs_per_page → p * subs_per_page + i < subs k e
sub_within k e p i page sub = omega arith

-- and lie in the page that the machine has there
pub sub_place : (k : Plan) (e p i : ℕ) → first_sub k e + (p * subs_per_page + i) ≡ (first_of_run (page_counts k) e + p) * per_page k + i
sub_place k e p i = omega arith

-- a number within a run is found there
lt_true : (a b : ℕ) → a < b → nat_lt a b ≡ true
lt_true a b h = grind (arith, nat_tests)

lt_false : (a b : ℕ) → b ≤ a → nat_lt a b ≡ false
lt_false a b h = grind (arith, nat_tests)

-- so the run of a number is the one in whose bounds it lies
pub run_found : (lengths : List ℕ) (e i : ℕ) → first_of_run lengths e ≤ i → i < first_of_run lengths e + slice_index lengths e → run_with lengths i ≡ Some e
run_found [] zero i low high = absurd (omega arith)
run_found [] (suc e) i low high = absurd (omega arith)
run_found (n ∷ lengths) zero i low high = ap (λ v. if v then Some 0 else option_map suc (run_with lengths (i - n))) (lt_true i n (omega arith))
run_found (n ∷ lengths) (suc e) i low high =
    let first : first_of_run (n ∷ lengths) (suc e) ≡ n + first_of_run lengths e = sum_by-cons (λ (m : ℕ). m) n (take e lengths) in
    ap (λ v. if v then Some 0 else option_map suc (run_with lengths (i - n))) (lt_false i n (omega arith)) ∙ ap (option_map suc) (run_found lengths e (i - n) (omega arith) (omega arith))
