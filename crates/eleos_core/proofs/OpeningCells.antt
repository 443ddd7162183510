-- The cells before the first event: what holds of them, and that they show the empty history.
use Rattle.std.proofs.Common.{◌≡◌, ℕ, ◌+◌, ◌-◌, ◌*◌, ◌<◌, List, [], ◌∷◌, length, map, replicate, Some, None, slice_index, slice_index_or, length-append, refl, sym, ◌∙◌, ap, subst, arith}
use Rattle.std.specs.List.{range_with_len}
use Rattle.std.proofs.lemmas.List.{get_or_append_left, get_or_at, length-map, length-replicate}
use Rattle.std.proofs.lemmas.List.FromFn.{get_or-map-range_with_len, length-map-range_with_len}
use Rattle.eleos_base.specs.declared.memory.Live.{Live}
use Rattle.eleos_base.specs.declared.plan.Plan.{Plan}
use Rattle.eleos_base.specs.Plans.{IsGood}
use Rattle.eleos_core.specs.declared.cells.frame.Frame.{Frame}
use Rattle.eleos_core.specs.declared.cells.page.Page.{Page}
use Rattle.eleos_core.specs.Applying.{Shows}
use Rattle.eleos_core.specs.Cells.{IsCore, cells_of, part_in, part_of_frame, part_of_page}
use Rattle.eleos_core.specs.Opening.{AreFrames, ArePages, opening_clocks, opening_frame, opening_lives, opening_page}
use Rattle.eleos_core.specs.Order.{AreInOrder}
use Rattle.eleos_core.specs.Parts.{alloc_part, clock_part, no_part, part_of}
use Rattle.eleos_base.specs.Places.{all_frames, all_pages, subs}
use Rattle.eleos_core.specs.Seals.{Seals, seals_by}
use Rattle.eleos_core.specs.State.{live, opening_frames}
use Rattle.eleos_core.proofs.CellNumbers.{by_cell}
use Rattle.eleos_core.proofs.OpeningLists.{zero_at}
use Rattle.eleos_core.proofs.Ordered.{in_order, none_empty}

-- the cells of a plan before its first event
pub record IsOpening (k : Plan) (lives : List (List Live)) (clocks : List (List ℕ)) (pages : List Page) (frames : List Frame) (links : List ℕ) : Type 0 where
  pub lives_are : lives ≡ opening_lives k
  pub clocks_are : clocks ≡ opening_clocks k
  pub pages_are : map part_of_page pages ≡ map (opening_page k) (range_with_len 0 (all_pages k))
  pub each_page : ArePages pages
  pub frames_are : map part_of_frame frames ≡ map (opening_frame k) (range_with_len 0 (all_frames k))
  pub each_frame : AreFrames frames
  pub links_are : links ≡ replicate (length k.callers * all_pages k) 0

-- as many pages as the plan has
pub pages_count : (k : Plan) (pages : List Page) → map part_of_page pages ≡ map (opening_page k) (range_with_len 0 (all_pages k)) → length pages ≡ all_pages k
pages_count k pages are = sym (length-map pages part_of_page) ∙ (ap length are ∙ length-map-range_with_len (opening_page k) 0 (all_pages k))

module _ (k : Plan) (lives : List (List Live)) (clocks : List (List ℕ)) (pages : List Page) (frames : List Frame) (links : List ℕ) (opening : IsOpening k lives clocks pages frames links) where
  live_at : (e : ℕ) → e < length k.enclaves → slice_index_or lives e [] ≡ live k [] e
  live_at e exists = ap (λ ls. slice_index_or ls e []) opening.lives_are ∙ get_or-map-range_with_len (live k []) 0 (length k.enclaves) e e [] exists (omega arith)

  abbrev owned : ℕ → List ℕ
  owned e = opening_frames k (Some e)

  owned_count : length (map owned (range_with_len 0 (length k.enclaves))) ≡ length k.enclaves
  owned_count = length-map-range_with_len owned 0 (length k.enclaves)

  clock_at : (e : ℕ) → e < length k.enclaves → slice_index_or clocks e [] ≡ opening_frames k (Some e)
  clock_at e exists = ap (λ cs. slice_index_or cs e []) opening.clocks_are
      ∙ (get_or_append_left (map owned (range_with_len 0 (length k.enclaves))) (opening_frames k None ∷ []) [] e (let many = owned_count in omega arith)
      ∙ get_or-map-range_with_len owned 0 (length k.enclaves) e e [] exists (omega arith))

  pool_at : slice_index_or clocks (length k.enclaves) [] ≡ opening_frames k None
  pool_at = ap (λ cs. slice_index_or cs (length k.enclaves) []) opening.clocks_are
      ∙ get_or_at (map owned (range_with_len 0 (length k.enclaves))) (opening_frames k None) [] [] (length k.enclaves) owned_count

  page_at : (p : ℕ) → p < all_pages k → slice_index_or (map part_of_page pages) p no_part ≡ opening_page k p
  page_at p exists = ap (λ qs. slice_index_or qs p no_part) opening.pages_are ∙ get_or-map-range_with_len (opening_page k) 0 (all_pages k) p p no_part exists (omega arith)

  frame_at : (f : ℕ) → f < all_frames k → slice_index_or (map part_of_frame frames) f no_part ≡ opening_frame k f
  frame_at f exists = ap (λ qs. slice_index_or qs f no_part) opening.frames_are ∙ get_or-map-range_with_len (opening_frame k) 0 (all_frames k) f f no_part exists (omega arith)

  -- they show that nothing has happened yet
  pub shows_opening : (x : Seals) → Shows x [] (cells_of k lives clocks pages frames links)
  shows_opening x = record {
    parts = by_cell k (λ c cell. part_in (cells_of k lives clocks pages frames links) cell ≡ part_of k x [] cell)
        (λ e exists. ap alloc_part (live_at e exists))
        (λ e exists. ap clock_part (clock_at e exists))
        (ap clock_part pool_at)
        page_at frame_at (λ c. refl);
    links = λ who p caller exists. ap (λ ls. slice_index ls ((who - 1) * all_pages k + p)) opening.links_are ∙ zero_at (length k.callers * all_pages k) ((who - 1) * all_pages k + p);
  }

  -- and keep to what holds of all cells
  pub core_opening : IsGood k → IsCore k lives clocks pages frames links
  core_opening good = record {
    good = good;
    enclaves = ap length opening.lives_are ∙ length-map-range_with_len (live k []) 0 (length k.enclaves);
    in_order = λ e exists. subst (AreInOrder 0 (subs k e)) (sym (live_at e exists)) (in_order k (seals_by []) (none_empty k good) [] tt e exists);
    owners = ap length opening.clocks_are ∙ (length-append (map owned (range_with_len 0 (length k.enclaves))) (opening_frames k None ∷ []) ∙ ap (λ n. n + 1) owned_count);
    pages_are = pages_count k pages opening.pages_are;
    each_page = opening.each_page k.wear (all_frames k);
    frames_are = sym (length-map frames part_of_frame) ∙ (ap length opening.frames_are ∙ length-map-range_with_len (opening_frame k) 0 (all_frames k));
    each_frame = opening.each_frame (all_pages k);
    links_are = ap length opening.links_are ∙ length-replicate (length k.callers * all_pages k) 0;
  }
