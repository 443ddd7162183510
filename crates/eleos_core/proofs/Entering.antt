-- A fill on the cells of a core.
use Rattle.std.proofs.Common.{◌≡◌, ℕ, ◌+◌, ◌<◌, List, length, take, slice_index_or, slice_set, Option, Some, None, refl, sym, subst, ◌∙◌, ap, arith}
use Rattle.std.specs.List.{AllByRecursion}
use Rattle.std.proofs.lemmas.List.Elements.{All-from_recursion, All-weaker, recursion_from_All}
use Rattle.eleos_base.specs.declared.memory.Live.{Live}
use Rattle.eleos_base.specs.declared.memory.Reply.{Reply}
use Rattle.eleos_base.specs.declared.plan.Plan.{Plan}
use Rattle.eleos_core.specs.declared.cells.frame.Frame.{Frame}
use Rattle.eleos_core.specs.declared.cells.frame.Use.{Use}
use Rattle.eleos_core.specs.declared.cells.frame.Use.TheVariants.{Free, Lent}
use Rattle.eleos_core.specs.declared.cells.page.Page.{Page}
use Rattle.eleos_core.specs.declared.cells.page.Present.{Present}
use Rattle.eleos_core.specs.declared.cells.sub_page.SubPage.{SubPage}
use Rattle.eleos_core.specs.Accesses.{AreBlocks}
use Rattle.eleos_core.specs.Applying.{Makes, parts_in}
use Rattle.eleos_core.specs.Cells.{Cells, IsPage, IsPresent, IsSubPage, IsUse, IsCore, cells_of, frame_of_page, holder_of_use, part_of_frame, part_of_page, sub_size}
use Rattle.eleos_core.specs.Fills.{AreFit, CanFillIn, IsFree, IsJudged, fill_stamp, page_in, sealed_places}
use Rattle.eleos_core.specs.Legal.{IsActor}
use Rattle.eleos_core.specs.Parts.{frame_cell, frame_in, holder_in, page_cell, part_after, the_frame, the_page}
use Rattle.eleos_base.specs.Places.{all_frames, all_pages}
use Rattle.eleos_core.specs.Seals.{Seals}
use Rattle.eleos_core.proofs.TwoCells.{frame_kept, frame_part_is, makes_both, page_kept, page_part_is}

-- a page without a frame, and a frame without a page
pub is_absent : (o : Option Present) → frame_of_page o ≡ None → o ≡ None
is_absent None gone = refl
is_absent (Some present) gone = cc

pub is_free : (n : ℕ) (used : Use) → IsUse n used → holder_of_use used ≡ None → IsFree used
is_free n (Free bytes) kept free = kept
is_free n (Lent page) kept free = cc

-- numbers of one page and one frame are among those of the machine
present_within : (f n : ℕ) (o : Option Present) → f < n → IsPresent (f + 1) o → IsPresent n o
present_within f n None inside kept = tt
present_within f n (Some present) inside kept = (let below = kept.0 in omega arith, kept.1)

-- of a frame's use, the page that is in it
pub use_among : (p n : ℕ) (used : Use) → p < n → IsUse (p + 1) used → IsUse n used
use_among p n (Free bytes) inside kept = kept
use_among p n (Lent page) inside kept = omega arith

-- no sub-page of an absent page is dirty
sub_clean : (wear : ℕ) (o : Option Present) (u : SubPage) → IsSubPage wear None u → IsSubPage wear o u
sub_clean wear o u kept = record { version = kept.version; below = kept.below; dirty = λ dirty. absurd (let wrong = kept.dirty dirty in cc) }

module _ (k : Plan) (live : List (List Live)) (clocks : List (List ℕ)) (pages : List Page) (frames : List Frame) (links : List ℕ) (core : IsCore k live clocks pages frames links)
    (p f : ℕ) (page : Page) (frame : Frame) (page_exists : p < all_pages k) (frame_exists : f < all_frames k) (page_is : page ≡ slice_index_or pages p page) (frame_is : frame ≡ slice_index_or frames f frame)
    (legal : CanFillIn (cells_of k live clocks pages frames links) p f) where
  abbrev old_cells : Cells
  old_cells = cells_of k live clocks pages frames links

  is_page : IsPage k.wear (all_frames k) page
  is_page = page_kept k live clocks pages frames links core p page_exists page page_is

  page_was : parts_in old_cells (page_cell k p) ≡ part_of_page page
  page_was = page_part_is k live clocks pages frames links core p page_exists page page_is

  frame_was : parts_in old_cells (frame_cell k f) ≡ part_of_frame frame
  frame_was = frame_part_is k live clocks pages frames links core f frame_exists frame frame_is

  -- the page that is to be filled has its 4 sub-pages
  pub fill_whole : length page.subs.items ≡ 4
  fill_whole = is_page.whole

  -- it is in no frame
  pub fill_absent : page.present ≡ None
  fill_absent = is_absent page.present (ap frame_in (sym page_was) ∙ legal.absent)

  -- the frame holds no page, and its bytes are zeros
  pub fill_free : IsFree frame.used
  fill_free = is_free (all_pages k) frame.used (frame_kept k live clocks pages frames links core f frame_exists frame frame_is) (ap holder_in (sym frame_was) ∙ legal.free)

  -- blocks that came for the page by its cell came for the page in memory
  pub fill_fit : (cs : List (List ℕ)) → AreBlocks (sealed_places p (page_in old_cells p)) cs → AreFit (sealed_places p (part_of_page page)) cs
  fill_fit cs fit = subst (λ q. AreFit (sealed_places p q) cs) page_was (record { count = fit.count; sizes = All-from_recursion (λ (block : List ℕ). length block ≡ sub_size) cs fit.each })

  -- the page afterwards
  pub page_entered : (page' : Page) → page'.subs ≡ page.subs → IsPresent (f + 1) page'.present → IsPage k.wear (all_frames k) page'
  page_entered page' subs present = record {
    whole = ap (λ v. length v.items) subs ∙ is_page.whole;
    present = present_within f (all_frames k) page'.present frame_exists present;
    each = subst (λ v. AllByRecursion (IsSubPage k.wear page'.present) v.items) (sym subs) (recursion_from_All (IsSubPage k.wear page'.present) page.subs.items
        (All-weaker (IsSubPage k.wear None) (IsSubPage k.wear page'.present) (sub_clean k.wear page'.present) page.subs.items
        (All-from_recursion (IsSubPage k.wear None) page.subs.items (subst (λ o. AllByRecursion (IsSubPage k.wear o) page.subs.items) fill_absent is_page.each))));
  }

  module _ (x : Seals) (cs : List (List ℕ)) (count : ℕ) (reply : Reply) (judged : IsJudged k x p (part_of_page page) cs count reply) where
    -- blocks that were judged by the page in memory are judged so by its cell
    pub fill_judged : IsJudged k x p (page_in old_cells p) cs count reply
    fill_judged = subst (λ q. IsJudged k x p q cs count reply) (sym page_was) judged

    -- with that page and that frame the cells are what the fill makes of them
    pub fill_made : (page' : Page) (frame' : Frame) (who : ℕ) → IsActor k who
        → part_of_page page' ≡ part_after k x (fill_stamp who p f (take count cs) reply) (the_page p) (part_of_page page)
        → part_of_frame frame' ≡ part_after k x (fill_stamp who p f (take count cs) reply) (the_frame f) (part_of_frame frame)
        → Makes x (fill_stamp who p f (take count cs) reply) old_cells (cells_of k live clocks (slice_set pages p page') (slice_set frames f frame') links)
    fill_made page' frame' who actor page_made frame_made = makes_both k live clocks pages frames links core p page' f frame' page_exists frame_exists x (fill_stamp who p f (take count cs) reply) refl
        (record { within = (actor, page_exists, frame_exists); on_parts = (legal.absent, legal.free, legal.at_home, fill_judged.reply_by) })
        (page_made ∙ ap (part_after k x (fill_stamp who p f (take count cs) reply) (the_page p)) (sym page_was))
        (frame_made ∙ ap (part_after k x (fill_stamp who p f (take count cs) reply) (the_frame f)) (sym frame_was))
        (λ by q was. refl)
