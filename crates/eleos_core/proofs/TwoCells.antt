-- An entry that touches the cells of a page and a frame alone.
use Rattle.std.proofs.Common.{◌≡◌, ℕ, ◌<◌, List, ◌∷◌, [], length, cond, ◌==◌, slice_index_or, slice_set, refl, sym, subst, ◌∙◌, ap, inl, inr, arith}
use Rattle.std.proofs.lemmas.List.{get_or-map, length-set}
use Rattle.std.proofs.lemmas.List.Elements.{All-from_recursion, All-get_or, All-set, recursion_from_All}
use Rattle.std.specs.List.{AllByRecursion}
use Rattle.eleos_base.specs.declared.memory.Live.{Live}
use Rattle.eleos_base.specs.declared.plan.Plan.{Plan}
use Rattle.eleos_base.specs.Ties.{Has}
use Rattle.eleos_core.specs.declared.cells.frame.Frame.{Frame}
use Rattle.eleos_core.specs.declared.cells.page.Page.{Page}
use Rattle.eleos_core.specs.Applying.{Makes, parts_in}
use Rattle.eleos_core.specs.Cells.{Cells, IsPage, IsUse, IsCore, cells_of, part_of_frame, part_of_page}
use Rattle.eleos_core.specs.Parts.{MayStep, Stamp, after_at, foot, frame_cell, no_part, page_cell, part_after, the_frame, the_page}
use Rattle.eleos_base.specs.Places.{all_frames, all_pages}
use Rattle.eleos_core.specs.Seals.{Seals}
use Rattle.eleos_core.specs.State.{links_by}
use Rattle.eleos_core.proofs.Sets.{AreWhole, at_other, at_same, cell_of-frame, cell_of-page, frame_at, map_frame, map_page, page_at, page_not_frame, set_frame, set_page, core_whole, whole_page}

-- what holds of each item still does after one is set
pub recursion-set : {A : Type 0} (P : A → Type 0) (xs : List A) (i : ℕ) (x : A) → P x → AllByRecursion P xs → AllByRecursion P (slice_set xs i x)
recursion-set P xs i x here each = recursion_from_All P (slice_set xs i x) (All-set P xs i x here (All-from_recursion P xs each))

module _ (k : Plan) (live : List (List Live)) (clocks : List (List ℕ)) (pages : List Page) (frames : List Frame) (links : List ℕ) (core : IsCore k live clocks pages frames links) where
  -- the cells of a core, and those after a page and a frame are set
  abbrev before : Cells
  before = cells_of k live clocks pages frames links

  abbrev with_both : ℕ → Page → ℕ → Frame → Cells
  with_both p page f frame = cells_of k live clocks (slice_set pages p page) (slice_set frames f frame) links

  -- they are a core's
  pub core_with_both : (p : ℕ) (page : Page) (f : ℕ) (frame : Frame) → IsPage k.wear (all_frames k) page → IsUse (all_pages k) frame.used
      → IsCore k live clocks (slice_set pages p page) (slice_set frames f frame) links
  core_with_both p page f frame page_is frame_is = record {
    good = core.good;
    enclaves = core.enclaves;
    in_order = core.in_order;
    owners = core.owners;
    pages_are = length-set pages p page ∙ core.pages_are;
    each_page = recursion-set (IsPage k.wear (all_frames k)) pages p page page_is core.each_page;
    frames_are = length-set frames f frame ∙ core.frames_are;
    each_frame = recursion-set (λ (other : Frame). IsUse (all_pages k) other.used) frames f frame frame_is core.each_frame;
    links_are = core.links_are;
  }

  module _ (p : ℕ) (page : Page) (f : ℕ) (frame : Frame) (page_exists : p < all_pages k) (frame_exists : f < all_frames k) where
    -- the part of each cell
    both_set : (c : ℕ) → parts_in (with_both p page f frame) c ≡ cond (c == frame_cell k f) (part_of_frame frame) (cond (c == page_cell k p) (part_of_page page) (parts_in before c))
    both_set c =
        let whole : AreWhole before = core_whole k live clocks pages frames links core in
        let one : Cells = record before { pages = slice_set before.pages p (part_of_page page) } in
        let paged : parts_in one c ≡ cond (c == page_cell k p) (part_of_page page) (parts_in before c) = set_page before p (part_of_page page) c whole page_exists in
        let same : with_both p page f frame ≡ record one { frames = slice_set one.frames f (part_of_frame frame) } = λ t. record {
          plan = k;
          live = live;
          clocks = clocks;
          links = links;
          pages = map_page pages p page t;
          frames = map_frame frames f frame t;
        } in
        ap (λ m. parts_in m c) same ∙ (set_frame one f (part_of_frame frame) c (whole_page before p (part_of_page page) whole) frame_exists
        ∙ ap (λ was. cond (c == frame_cell k f) (part_of_frame frame) was) paged)

    -- the entry makes them
    pub makes_both : (x : Seals) (d : Stamp) → foot k d ≡ page_cell k p ∷ frame_cell k f ∷ [] → MayStep k x d (parts_in before)
        → part_of_page page ≡ part_after k x d (the_page p) (parts_in before (page_cell k p))
        → part_of_frame frame ≡ part_after k x d (the_frame f) (parts_in before (frame_cell k f))
        → ((who q was : ℕ) → links_by k d.entry.who d.entry.event d.entry.reply who q was ≡ was)
        → Makes x d before (with_both p page f frame)
    makes_both x d foot_is may page_is frame_is unlinked = record {
      plan = refl;
      may = may;
      touched = λ c has. at_foot c (subst (Has c) foot_is has);
      others = λ c no. both_set c ∙ (at_other c (frame_cell k f) (part_of_frame frame) _ (λ same. no (subst (Has c) (sym foot_is) (inr (inl same))))
          ∙ at_other c (page_cell k p) (part_of_page page) (parts_in before c) (λ same. no (subst (Has c) (sym foot_is) (inl same))));
      links = λ who q caller exists. sym (unlinked who q _);
    }
      where
        at_foot : (c : ℕ) → Has c (page_cell k p ∷ frame_cell k f ∷ []) → parts_in (with_both p page f frame) c ≡ after_at k x d (parts_in before) c
        at_foot c (inl same) = subst (λ z. parts_in (with_both p page f frame) z ≡ after_at k x d (parts_in before) z) (sym same)
            (both_set (page_cell k p) ∙ (at_other (page_cell k p) (frame_cell k f) (part_of_frame frame) _ (page_not_frame k p f page_exists)
            ∙ (at_same (page_cell k p) (page_cell k p) (part_of_page page) _ refl
            ∙ (page_is ∙ ap (λ cell. part_after k x d cell (parts_in before (page_cell k p))) (sym (cell_of-page k p page_exists))))))
        at_foot c (inr (inl same)) = subst (λ z. parts_in (with_both p page f frame) z ≡ after_at k x d (parts_in before) z) (sym same)
            (both_set (frame_cell k f) ∙ (at_same (frame_cell k f) (frame_cell k f) (part_of_frame frame) _ refl
            ∙ (frame_is ∙ ap (λ cell. part_after k x d cell (parts_in before (frame_cell k f))) (sym (cell_of-frame k f frame_exists)))))
        at_foot c (inr (inr none)) = absurd none

  -- what is known of a page of the core, where this is it in memory
  module _ (p : ℕ) (exists : p < all_pages k) (page : Page) (page_is : page ≡ slice_index_or pages p page) where
    page_inside : p < length pages
    page_inside = let same = core.pages_are in omega arith

    -- what holds of every page of a core holds of it
    pub page_kept : IsPage k.wear (all_frames k) page
    page_kept = subst (IsPage k.wear (all_frames k)) (sym page_is) (All-get_or (IsPage k.wear (all_frames k)) pages p page page_inside (All-from_recursion (IsPage k.wear (all_frames k)) pages core.each_page))

    -- and the part of its cell is its own
    pub page_part_is : parts_in before (page_cell k p) ≡ part_of_page page
    page_part_is = page_at before p exists ∙ (get_or-map part_of_page pages p page no_part page_inside ∙ ap part_of_page (sym page_is))

  -- and of a frame
  module _ (f : ℕ) (exists : f < all_frames k) (frame : Frame) (frame_is : frame ≡ slice_index_or frames f frame) where
    frame_inside : f < length frames
    frame_inside = let same = core.frames_are in omega arith

    -- what holds of the use of every frame of a core holds of its
    pub frame_kept : IsUse (all_pages k) frame.used
    frame_kept = subst (λ (other : Frame). IsUse (all_pages k) other.used) (sym frame_is)
        (All-get_or (λ (other : Frame). IsUse (all_pages k) other.used) frames f frame frame_inside (All-from_recursion (λ (other : Frame). IsUse (all_pages k) other.used) frames core.each_frame))

    -- and the part of its cell is its own
    pub frame_part_is : parts_in before (frame_cell k f) ≡ part_of_frame frame
    frame_part_is = frame_at before f exists ∙ (get_or-map part_of_frame frames f frame no_part frame_inside ∙ ap part_of_frame (sym frame_is))
