-- Which cell has which number, and what stands at a place of a page's part.
use Rattle.std.proofs.Common.{◌≡◌, ℕ, zero, suc, ◌+◌, ◌-◌, ◌*◌, ◌<◌, ◌≤◌, ◌==◌, List, [], ◌∷◌, length, map, filter, true, false, Option, Some, None, option_map, if◌then◌else◌, nat_lt, slice_index_or, refl, ◌∙◌, subst, ap, arith}
use Rattle.std.specs.List.{range_with_len}
use Rattle.std.proofs.lemmas.Bool.Decides.{nat_tests}
use Rattle.std.proofs.lemmas.List.{length-map}
use Rattle.eleos_base.specs.declared.plan.Plan.{Plan}
use Rattle.eleos_base.specs.declared.plan.EnclavePlan.{EnclavePlan}
use Rattle.eleos_base.specs.Lists.{map_from}
use Rattle.eleos_base.specs.Runs.{run_with}
use Rattle.eleos_base.specs.Places.{Owner, all_frames, all_pages, home_of, page_counts, page_of, per_page, subs_of}
use Rattle.eleos_core.specs.Seals.{Seals}
use Rattle.eleos_core.specs.State.{History, is_sealed}
use Rattle.eleos_core.specs.Parts.{Cell, no_cell, the_alloc, the_clock, the_page, the_frame, alloc_cell, clock_cell, page_cell, frame_cell, later_cell, cell_of, SubPart, blank_sub, sub_part, sub_in, sealed_from}
use Rattle.eleos_core.proofs.Numbers.{page_high, page_low}
use Rattle.eleos_core.proofs.Tests.{by_test}

-- a run that is found is one of the runs
run_exists : (ns : List ℕ) (i run : ℕ) → run_with ns i ≡ Some run → run < length ns
run_exists [] i run = λ e. cc
run_exists (n ∷ ns) i run = by_test (nat_lt i n) (λ v. (if v then Some 0 else option_map suc (run_with ns (i - n))) ≡ Some run → run < suc (length ns))
    (λ _ e. let is : 0 ≡ run = cc in omega arith)
    (λ _ e. later (run_with ns (i - n)) (λ other. run_exists ns (i - n) other) refl e)
  where
    later : (o : Option ℕ) → ((other : ℕ) → run_with ns (i - n) ≡ Some other → other < length ns) → run_with ns (i - n) ≡ o → option_map suc o ≡ Some run → run < suc (length ns)
    later None below is e = cc
    later (Some other) below is e = let same : suc other ≡ run = cc in let lt = below other is in omega arith

module _ (k : Plan) where
  -- the cell that has the number of an alloc cell, of a clock cell, of a page's and of a frame's
  pub alloc_is : (e : ℕ) → e < length k.enclaves → cell_of k (alloc_cell k e) ≡ the_alloc e
  alloc_is e h = grind (arith, nat_tests)

  -- of an enclave's clock cell
  pub enclave_clock_is : (e : ℕ) → e < length k.enclaves → cell_of k (clock_cell k (Some e)) ≡ the_clock (Some e)
  enclave_clock_is e h = grind (arith, nat_tests)

  -- of the pool's
  pub pool_clock_is : cell_of k (clock_cell k None) ≡ the_clock None
  pool_clock_is = grind (arith, nat_tests)

  -- of a page's
  pub page_is : (p : ℕ) → p < all_pages k → cell_of k (page_cell k p) ≡ the_page p
  page_is p h = grind (arith, nat_tests)

  -- of a frame's
  pub frame_is : (f : ℕ) → f < all_frames k → cell_of k (frame_cell k f) ≡ the_frame f
  frame_is f h = grind (arith, nat_tests)

  -- the clock of a page's enclave
  pub home_clock_is : (p : ℕ) → cell_of k (clock_cell k (home_of k p)) ≡ the_clock (home_of k p)
  home_clock_is p = by_home (home_of k p) refl where
    by_home : (o : Owner) → home_of k p ≡ o → cell_of k (clock_cell k o) ≡ the_clock o
    by_home None is = pool_clock_is
    by_home (Some e) is = enclave_clock_is e (subst (λ (z : ℕ). e < z) (length-map k.enclaves (λ (made : EnclavePlan). made.pages)) (run_exists (page_counts k) p e is))

  -- each number is that of an alloc cell, a clock cell, a page's, a frame's, or no cell's
  pub by_cell : (P : ℕ → Cell → Type 0) → ((e : ℕ) → e < length k.enclaves → P (alloc_cell k e) (the_alloc e)) → ((e : ℕ) → e < length k.enclaves → P (clock_cell k (Some e)) (the_clock (Some e)))
      → P (clock_cell k None) (the_clock None) → ((p : ℕ) → p < all_pages k → P (page_cell k p) (the_page p)) → ((f : ℕ) → f < all_frames k → P (frame_cell k f) (the_frame f)) → ((c : ℕ) → P c no_cell) → (c : ℕ) → P c (cell_of k c)
  by_cell P an_alloc a_clock pool a_page a_frame none c = by_test (nat_lt c n) (λ v. nat_lt c n ≡ v → P c (if v then the_alloc c else if nat_lt (c - n) n then the_clock (Some (c - n)) else if c - n == n then the_clock None else later_cell k (c - (n + n + 1))))
      (λ _ is. an_alloc c (grind (arith, nat_tests)))
      (λ _ is0. by_test (nat_lt (c - n) n) (λ v. nat_lt (c - n) n ≡ v → P c (if v then the_clock (Some (c - n)) else if c - n == n then the_clock None else later_cell k (c - (n + n + 1))))
      (λ _ is. subst (λ (q : ℕ). P q (the_clock (Some (c - n)))) (past_n c n is0) (a_clock (c - n) (grind (arith, nat_tests))))
      (λ _ is1. by_test (c - n == n) (λ v. c - n == n ≡ v → P c (if v then the_clock None else later_cell k (c - (n + n + 1))))
      (λ _ is. subst (λ (q : ℕ). P q (the_clock None)) (past_two c n is0 is) pool)
      (λ _ is2. by_test (nat_lt i (all_pages k)) (λ v. nat_lt i (all_pages k) ≡ v → P c (if v then the_page i else if nat_lt (i - all_pages k) (all_frames k) then the_frame (i - all_pages k) else no_cell))
      (λ _ is. subst (λ (q : ℕ). P q (the_page i)) (past_all c n is0 is1 is2) (a_page i (grind (arith, nat_tests))))
      (λ _ is3. by_test (nat_lt (i - all_pages k) (all_frames k)) (λ v. nat_lt (i - all_pages k) (all_frames k) ≡ v → P c (if v then the_frame (i - all_pages k) else no_cell))
      (λ _ is. subst (λ (q : ℕ). P q (the_frame (i - all_pages k))) (past_pages c n (all_pages k) is0 is1 is2 is3) (a_frame (i - all_pages k) (grind (arith, nat_tests))))
      (λ _ is. none c) refl) refl) refl) refl) refl
    where
      n : ℕ
      n = length k.enclaves

      i : ℕ
      i = c - (n + n + 1)

      past_n : (c n : ℕ) → nat_lt c n ≡ false → n + (c - n) ≡ c
      past_n c n is = grind (arith, nat_tests)

      past_two : (c n : ℕ) → nat_lt c n ≡ false → (c - n == n) ≡ true → n + n ≡ c
      past_two c n is is' = grind (arith, nat_tests)

      past_all : (c n : ℕ) → nat_lt c n ≡ false → nat_lt (c - n) n ≡ false → (c - n == n) ≡ false → n + n + 1 + (c - (n + n + 1)) ≡ c
      past_all c n is is' is'' = grind (arith, nat_tests)

      past_pages : (c n pages : ℕ) → nat_lt c n ≡ false → nat_lt (c - n) n ≡ false → (c - n == n) ≡ false → nat_lt (c - (n + n + 1)) pages ≡ false → n + n + 1 + pages + (c - (n + n + 1) - pages) ≡ c
      past_pages c n pages is is' is'' no_page = grind (arith, nat_tests)

at_range : {A : Type 0} (h : ℕ → A) (d : A) (a n i : ℕ) → i < n → slice_index_or (map h (range_with_len a n)) i d ≡ h (a + i)
at_range h d a zero i l = absurd (omega arith)
at_range h d a (suc n) zero l = ap h (omega arith)
at_range h d a (suc n) (suc i) l = at_range h d (a + 1) n i (omega arith) ∙ ap h (omega arith)

-- lists over a range of numbers
pub mapped_range : {A B : Type 0} (f : ℕ → A → B) (h : ℕ → A) (a n : ℕ) → map_from f a (map h (range_with_len a n)) ≡ map (λ s. f s (h s)) (range_with_len a n)
mapped_range f h a zero = refl
mapped_range f h a (suc n) = ap (λ r. f a (h a) ∷ r) (mapped_range f h (a + 1) n)

-- two functions that agree on the numbers of a range make one list of it
pub map_same : {A : Type 0} (f g : ℕ → A) (a n : ℕ) → ((s : ℕ) → a ≤ s → s < a + n → f s ≡ g s) → map f (range_with_len a n) ≡ map g (range_with_len a n)
map_same f g a zero h = refl
map_same f g a (suc n) h = ap (λ u. u ∷ map f (range_with_len (a + 1) n)) (h a (omega arith) (omega arith)) ∙ ap (λ r. g a ∷ r) (map_same f g (a + 1) n (λ s l u. h s (omega arith) (omega arith)))

module _ (k : Plan) (x : Seals) (past : History) where
  -- the parts of a page's sub-pages
  abbrev pub parts_of : ℕ → List SubPart
  parts_of p = map (sub_part k x past) (subs_of k p)

  -- what stands at a sub-page's place in its page's part
  pub part_of_sub : (s : ℕ) → sub_in k (parts_of (page_of k s)) s ≡ sub_part k x past s
  part_of_sub s =
      let low = page_low k s in
      let high = page_high k s in
      at_range (sub_part k x past) blank_sub (page_of k s * per_page k) (per_page k) (s - page_of k s * per_page k) (omega (arith, low, high)) ∙ ap (sub_part k x past) (omega (arith, low))

  -- the sealed ones among a range of sub-pages
  pub sealed_are : (a n : ℕ) → sealed_from a (map (sub_part k x past) (range_with_len a n)) ≡ filter (is_sealed k past) (range_with_len a n)
  sealed_are a zero = refl
  sealed_are a (suc n) = by_test (is_sealed k past a) (λ v. (if v then a ∷ sealed_from (a + 1) (map (sub_part k x past) (range_with_len (a + 1) n)) else sealed_from (a + 1) (map (sub_part k x past) (range_with_len (a + 1) n)))
      ≡ (if v then a ∷ filter (is_sealed k past) (range_with_len (a + 1) n) else filter (is_sealed k past) (range_with_len (a + 1) n)))
      (λ _. ap (λ r. a ∷ r) (sealed_are (a + 1) n))
      (λ _. sealed_are (a + 1) n)
