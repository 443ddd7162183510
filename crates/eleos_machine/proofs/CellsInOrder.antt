-- A made core's cells, one behind the other in the order of their numbers, are the machine's cells before the first event.
use Rattle.std.proofs.Common.{◌≡◌, ◌≢◌, ℕ, ◌+◌, ◌-◌, ◌<◌, ◌≤◌, ◌==◌, List, [], ◌++◌, length, map, true, false, nat_lt, Some, None, refl, sym, ◌∙◌, ap, subst, arith, get_or, if◌then◌else◌}
use Rattle.std.proofs.lemmas.Bool.Decides.{nat_tests}
use Rattle.std.proofs.lemmas.List.{get_or-append_right, get_or-map, get_or_append_left, get_or_past, length-append, length-map}
use Rattle.eleos_base.specs.declared.memory.Live.{Live}
use Rattle.eleos_base.specs.declared.plan.Plan.{Plan}
use Rattle.eleos_core.specs.declared.cells.frame.Frame.{Frame}
use Rattle.eleos_core.specs.declared.cells.page.Page.{Page}
use Rattle.eleos_core.specs.Applying.{Shows}
use Rattle.eleos_core.specs.Cells.{Cells, IsCore, cells_of, part_in, part_of_frame, part_of_page}
use Rattle.eleos_core.specs.Parts.{Part, alloc_part, cell_of, clock_part, later_cell, no_cell, no_part, the_alloc, the_clock, the_frame, the_page}
use Rattle.eleos_base.specs.Places.{all_frames, all_pages}
use Rattle.eleos_core.specs.Seals.{Seals}
use Rattle.eleos_core.proofs.Tests.{by_test}
use Rattle.eleos_machine.specs.Machines.{AreOpening, all_cells}

below : (c n : ℕ) → nat_lt c n ≡ true → c < n
below c n is = grind (arith, nat_tests)

above : (c n : ℕ) → nat_lt c n ≡ false → n ≤ c
above c n is = grind (arith, nat_tests)

same : (c n : ℕ) → (c == n) ≡ true → c ≡ n
same c n is = grind (arith, nat_tests)

other : (c n : ℕ) → (c == n) ≡ false → c ≢ n
other c n is = grind (arith, nat_tests)

module _ (k : Plan) (lives : List (List Live)) (clocks : List (List ℕ)) (pages : List Page) (frames : List Frame) (links : List ℕ) (core : IsCore k lives clocks pages frames links) where
  abbrev n : ℕ
  n = length k.enclaves

  abbrev m : Cells
  m = cells_of k lives clocks pages frames links

  abbrev allocs : List Part
  allocs = map alloc_part lives

  abbrev owners : List Part
  owners = map clock_part clocks

  abbrev paged : List Part
  paged = map part_of_page pages

  abbrev framed : List Part
  framed = map part_of_frame frames

  -- all of them in order
  abbrev pub in_order : List Part
  in_order = ((allocs ++ owners) ++ paged) ++ framed

  allocs_long : length allocs ≡ n
  allocs_long = length-map lives alloc_part ∙ core.enclaves

  owners_long : length owners ≡ n + 1
  owners_long = length-map clocks clock_part ∙ core.owners

  paged_long : length paged ≡ all_pages k
  paged_long = length-map pages part_of_page ∙ core.pages_are

  framed_long : length framed ≡ all_frames k
  framed_long = length-map frames part_of_frame ∙ core.frames_are

  first_long : length (allocs ++ owners) ≡ n + n + 1
  first_long = let all = length-append allocs owners in let a = allocs_long in let b = owners_long in omega (arith, all, a, b)

  second_long : length ((allocs ++ owners) ++ paged) ≡ n + n + 1 + all_pages k
  second_long = let all = length-append (allocs ++ owners) paged in let a = first_long in let b = paged_long in omega (arith, all, a, b)

  whole_long : length in_order ≡ all_cells k
  whole_long = let all = length-append ((allocs ++ owners) ++ paged) framed in let a = second_long in let b = framed_long in omega (arith, all, a, b)

  -- one of the first, of those with the pages, of all
  in_first : (c : ℕ) → c < n + n + 1 → get_or in_order c no_part ≡ get_or (allocs ++ owners) c no_part
  in_first c lt = get_or_append_left ((allocs ++ owners) ++ paged) framed no_part c (let a = second_long in omega (arith, a, lt)) ∙ get_or_append_left (allocs ++ owners) paged no_part c (let a = first_long in omega (arith, a, lt))

  alloc_at : (c : ℕ) → c < n → get_or in_order c no_part ≡ part_in m (the_alloc c)
  alloc_at c lt = in_first c (omega (arith, lt)) ∙ (get_or_append_left allocs owners no_part c (let a = allocs_long in omega (arith, a, lt)) ∙ get_or-map alloc_part lives c [] no_part (let a = core.enclaves in omega (arith, a, lt)))

  owner_at : (c : ℕ) → n ≤ c → c < n + n + 1 → get_or in_order c no_part ≡ clock_part (get_or clocks (c - n) [])
  owner_at c le lt = in_first c lt ∙ (get_or-append_right allocs owners n c no_part allocs_long le ∙ get_or-map clock_part clocks (c - n) [] no_part (let a = core.owners in omega (arith, a, le, lt)))

  page_at : (c : ℕ) → n + n + 1 ≤ c → c - (n + n + 1) < all_pages k → get_or in_order c no_part ≡ part_in m (the_page (c - (n + n + 1)))
  page_at c le lt = get_or_append_left ((allocs ++ owners) ++ paged) framed no_part c (let a = second_long in omega (arith, a, le, lt)) ∙ get_or-append_right (allocs ++ owners) paged (n + n + 1) c no_part first_long le

  frame_at : (c : ℕ) → n + n + 1 + all_pages k ≤ c → get_or in_order c no_part ≡ part_in m (the_frame (c - (n + n + 1) - all_pages k))
  frame_at c le = get_or-append_right ((allocs ++ owners) ++ paged) framed (n + n + 1 + all_pages k) c no_part second_long le ∙ ap (λ i. get_or framed i no_part) (omega (arith, le))

  none_at : (c : ℕ) → all_cells k ≤ c → get_or in_order c no_part ≡ no_part
  none_at c le = get_or_past in_order c no_part (let a = whole_long in omega (arith, a, le))

  -- each by its number
  at : (c : ℕ) → get_or in_order c no_part ≡ part_in m (cell_of k c)
  at c = by_test (nat_lt c n) (λ v. nat_lt c n ≡ v → get_or in_order c no_part ≡ part_in m (if v then the_alloc c else if nat_lt (c - n) n then the_clock (Some (c - n)) else if c - n == n then the_clock None else later_cell k (c - (n + n + 1))))
      (λ _ is. alloc_at c (below c n is))
      (λ _ is0. by_test (nat_lt (c - n) n) (λ v. nat_lt (c - n) n ≡ v → get_or in_order c no_part ≡ part_in m (if v then the_clock (Some (c - n)) else if c - n == n then the_clock None else later_cell k (c - (n + n + 1))))
      (λ _ is. let le = above c n is0 in let lt = below (c - n) n is in owner_at c le (omega (arith, le, lt)))
      (λ _ is1. by_test (c - n == n) (λ v. (c - n == n) ≡ v → get_or in_order c no_part ≡ part_in m (if v then the_clock None else later_cell k (c - (n + n + 1))))
      (λ _ is. let le = above c n is0 in let e = same (c - n) n is in owner_at c le (omega (arith, le, e)) ∙ ap (λ i. clock_part (get_or clocks i [])) e)
      (λ _ is2. by_test (nat_lt (c - (n + n + 1)) (all_pages k)) (λ v. nat_lt (c - (n + n + 1)) (all_pages k) ≡ v → get_or in_order c no_part ≡ part_in m (if v then the_page (c - (n + n + 1)) else if nat_lt (c - (n + n + 1) - all_pages k) (all_frames k) then the_frame (c - (n + n + 1) - all_pages k) else no_cell))
      (λ _ is. page_at c (past c (above c n is0) (above (c - n) n is1) (other (c - n) n is2)) (below (c - (n + n + 1)) (all_pages k) is))
      (λ _ is3. by_test (nat_lt (c - (n + n + 1) - all_pages k) (all_frames k)) (λ v. nat_lt (c - (n + n + 1) - all_pages k) (all_frames k) ≡ v → get_or in_order c no_part ≡ part_in m (if v then the_frame (c - (n + n + 1) - all_pages k) else no_cell))
      (λ _ is. let le = past c (above c n is0) (above (c - n) n is1) (other (c - n) n is2) in let le3 = above (c - (n + n + 1)) (all_pages k) is3 in frame_at c (omega (arith, le, le3)))
      (λ _ is. let le = past c (above c n is0) (above (c - n) n is1) (other (c - n) n is2) in let le3 = above (c - (n + n + 1)) (all_pages k) is3 in let le4 = above (c - (n + n + 1) - all_pages k) (all_frames k) is in none_at c (omega (arith, le, le3, le4)))
      refl) refl) refl) refl) refl
    where
      past : (c : ℕ) → n ≤ c → n ≤ c - n → (c - n ≢ n) → n + n + 1 ≤ c
      past c a b d = omega (arith, a, b, d)

  -- where the core shows that nothing has happened yet, they are the machine's before the first event
  pub are_opening : ((x : Seals) → Shows x [] m) → AreOpening k in_order
  are_opening shown = record { count = whole_long; each = λ x c. at c ∙ (shown x).parts c }

-- the same of a core that was taken apart
pub opening_of : (k : Plan) (m : Cells) (lives : List (List Live)) (clocks : List (List ℕ)) (pages : List Page) (frames : List Frame) (parts : List Part) → m.plan ≡ k → cells_of m.plan lives clocks pages frames m.links ≡ m
    → IsCore m.plan lives clocks pages frames m.links → ((x : Seals) → Shows x [] m) → parts ≡ ((map alloc_part lives ++ map clock_part clocks) ++ map part_of_page pages) ++ map part_of_frame frames → AreOpening k parts
opening_of k m lives clocks pages frames parts plan same core shown are =
    subst (λ (k : Plan). AreOpening k parts) plan (subst (AreOpening m.plan) (sym are) (are_opening m.plan lives clocks pages frames m.links core (λ x. subst (Shows x []) (sym same) (shown x))))
