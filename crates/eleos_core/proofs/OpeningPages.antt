-- The pages before the first event, enclave by enclave.
use Rattle.std.proofs.Common.{◌≡◌, ℕ, ◌+◌, ◌*◌, ◌<◌, List, [], ◌∷◌, ◌++◌, map, None, slice_index, sym, ◌∙◌, ap, subst, arith}
use Rattle.std.specs.List.{AllByRecursion, find, range_with_len}
use Rattle.std.proofs.lemmas.Simd.{map-map}
use Rattle.std.proofs.lemmas.List.FromFn.{map-range_with_len_more}
use Rattle.eleos_base.specs.declared.memory.Live.{Live}
use Rattle.eleos_base.specs.declared.plan.Plan.{Plan}
use Rattle.eleos_base.specs.Plain.{has_sub}
use Rattle.eleos_core.specs.declared.cells.page.Page.{Page}
use Rattle.eleos_core.specs.Cells.{IsPage, part_of_page, part_with, subs_per_page}
use Rattle.eleos_core.specs.Opening.{ArePages, absent_page, pages_among, sub_among, subs_among, opening_page, opening_sub}
use Rattle.eleos_core.specs.Parts.{blank_sub, block_in, home_of_sub, page_part}
use Rattle.eleos_base.specs.Places.{first_sub, page_counts, per_page, subs}
use Rattle.eleos_base.specs.Runs.{first_of_run}
use Rattle.eleos_core.specs.State.{live}
use Rattle.eleos_core.proofs.Numbers.{home_sub_is}
use Rattle.eleos_core.proofs.OpeningLists.{all_more, grown, map_runs, same_runs}
use Rattle.eleos_core.proofs.OpeningNumbers.{sub_place, sub_within}
use Rattle.eleos_core.proofs.Addresses.{sub-inside, sub-local}

-- one more page
pub pages_more : (old pages : List Page) (page : Page) (pages' : List Page) (blocks : List Live) (n : ℕ) → pages' ≡ pages ++ page ∷ [] → part_of_page page ≡ absent_page (subs_among blocks n)
    → map part_of_page pages ≡ map part_of_page old ++ pages_among blocks n → map part_of_page pages' ≡ map part_of_page old ++ pages_among blocks (n + 1)
pages_more old pages page pages' blocks n add is so_far =
    grown part_of_page pages pages' page (map part_of_page old) (pages_among blocks n) (pages_among blocks (n + 1)) (absent_page (subs_among blocks n)) add is
    (map-range_with_len_more (λ p. absent_page (subs_among blocks p)) 0 n n (omega arith)) so_far

-- what holds of the pages so far and of one more holds of all
pub holds_more : (pages pages' : List Page) (page : Page) → pages' ≡ pages ++ page ∷ [] → ((wear frames : ℕ) → IsPage wear frames page) → ArePages pages → ArePages pages'
holds_more pages pages' page add holds all = λ wear frames. subst (AllByRecursion (IsPage wear frames)) (sym add) (all_more (IsPage wear frames) pages page (all wear frames) (holds wear frames))

module _ (k : Plan) (e : ℕ) where
  -- a sub-page by its number in its enclave, and by that in the machine
  sub_is : (i : ℕ) → i < subs k e → part_with (sub_among (live k [] e) i) [] ≡ opening_sub k (first_sub k e + i)
  sub_is i within =
      let home : home_of_sub k (first_sub k e + i) ≡ e = home_sub_is k e (first_sub k e + i) (sub-inside k e i within) in
      sym (ap (λ h. record blank_sub { block = block_in k h (live k [] h) (first_sub k e + i) }) home ∙ ap (λ (l : ℕ). record blank_sub { block = find (has_sub l) (live k [] e) }) (sub-local k e i))

  -- and a page
  page_is : (p : ℕ) → p < slice_index (page_counts k) e → absent_page (subs_among (live k [] e) p) ≡ opening_page k (first_of_run (page_counts k) e + p)
  page_is p within = ap (page_part None) (map-map (λ u. part_with u []) (sub_among (live k [] e)) (range_with_len (p * subs_per_page) subs_per_page)
      ∙ same_runs (λ s. part_with (sub_among (live k [] e) s) []) (opening_sub k) (p * subs_per_page) ((first_of_run (page_counts k) e + p) * per_page k) subs_per_page
      (λ i lt. sub_is (p * subs_per_page + i) (sub_within k e p i within lt) ∙ ap (opening_sub k) (sub_place k e p i)))

  -- with the pages of one more enclave
  pub enclave_more : (pages pages' : List Page) (blocks : List Live) (count : ℕ) → blocks ≡ live k [] e → slice_index (page_counts k) e ≡ count → map part_of_page pages' ≡ map part_of_page pages ++ pages_among blocks count
      → map part_of_page pages ≡ map (opening_page k) (range_with_len 0 (first_of_run (page_counts k) e)) → map part_of_page pages' ≡ map (opening_page k) (range_with_len 0 (first_of_run (page_counts k) e + count))
  enclave_more pages pages' blocks count live-is many add so_far = add ∙ (ap (λ qs. qs ++ pages_among blocks count) so_far ∙ (ap (λ bs. map (opening_page k) (range_with_len 0 (first_of_run (page_counts k) e)) ++ pages_among bs count) live-is
      ∙ map_runs (opening_page k) (λ p. absent_page (subs_among (live k [] e) p)) 0 0 (first_of_run (page_counts k) e) count
      (λ i lt. ap (λ (p : ℕ). absent_page (subs_among (live k [] e) p)) (let same : 0 + i ≡ i = omega arith in same) ∙ (page_is i (omega arith) ∙ ap (opening_page k) (let same : first_of_run (page_counts k) e + i ≡ 0 + first_of_run (page_counts k) e + i = omega arith in same)))))
