-- The machine's cells before its first event.
use Rattle.std.specs.Prelude.{ℕ, ◌*◌, List, [], ◌∷◌, ◌++◌, map, Some, None, length, false}
use Rattle.std.specs.List.{AllByRecursion, find, range_with_len}
use Rattle.eleos_base.specs.declared.memory.Live.{Live}
use Rattle.eleos_base.specs.declared.plan.BlockPlan.{BlockPlan}
use Rattle.eleos_base.specs.declared.plan.Plan.{Plan}
use Rattle.eleos_base.specs.Plain.{has_sub, lowest_run, opened_at, subs_for}
use Rattle.eleos_core.specs.declared.cells.frame.Frame.{Frame}
use Rattle.eleos_core.specs.declared.cells.page.Page.{Page}
use Rattle.eleos_core.specs.declared.cells.sub_page.SubPage.{SubPage}
use Rattle.eleos_core.specs.Cells.{IsPage, IsUse, part_with, sub_size, subs_per_page}
use Rattle.eleos_core.specs.Parts.{Part, SubPart, blank_sub, block_in, frame_part, home_of_sub, page_part}
use Rattle.eleos_base.specs.Places.{frame_counts, subs_of}
use Rattle.eleos_base.specs.Runs.{run_with}
use Rattle.eleos_core.specs.State.{live, opening_frames}

-- an enclave's live blocks with a header block in the lowest free run of so many sub-pages, where there is one
abbrev pub with_header : ℕ → BlockPlan → List Live → List Live
with_header subs block blocks = (opened_at sub_size block (record { blocks = blocks; texts = [] }) (lowest_run blocks subs (subs_for sub_size block.bytes))).blocks

-- a sub-page among these live blocks, never sealed; its number is counted from its enclave's first
abbrev pub sub_among : List Live → ℕ → SubPage
sub_among blocks s = record { block = find (has_sub s) blocks; version = 0; tag = None; is_dirty = false }

-- the part of an absent page with these sub-pages
abbrev pub absent_page : List SubPage → Part
absent_page us = page_part None (map (λ u. part_with u []) us)

-- the sub-pages of a page; its number is counted from its enclave's first page
abbrev pub subs_among : List Live → ℕ → List SubPage
subs_among blocks p = map (sub_among blocks) (range_with_len (p * subs_per_page) subs_per_page)

-- so many absent pages of an enclave
abbrev pub pages_among : List Live → ℕ → List Part
pages_among blocks count = map (λ p. absent_page (subs_among blocks p)) (range_with_len 0 count)

-- the parts of a sub-page and of a page before the first event
abbrev pub opening_sub : Plan → ℕ → SubPart
opening_sub k s = record blank_sub { block = block_in k (home_of_sub k s) (live k [] (home_of_sub k s)) s }

-- a page before the first event: in no frame, with sub-pages that were never sealed
abbrev pub opening_page : Plan → ℕ → Part
opening_page k p = page_part None (map (opening_sub k) (subs_of k p))

-- the part of a frame before the first event
abbrev pub opening_frame : Plan → ℕ → Part
opening_frame k f = frame_part (run_with (frame_counts k) f) None

-- the live blocks of each enclave
abbrev pub opening_lives : Plan → List (List Live)
opening_lives k = map (live k []) (range_with_len 0 (length k.enclaves))

-- the frames of each enclave, and last those of the pool
abbrev pub opening_clocks : Plan → List (List ℕ)
opening_clocks k = map (λ e. opening_frames k (Some e)) (range_with_len 0 (length k.enclaves)) ++ opening_frames k None ∷ []

-- what holds of a page holds of each of these, whatever the wear and the number of frames
abbrev pub ArePages : List Page → Type 0
ArePages pages = (wear frames : ℕ) → AllByRecursion (IsPage wear frames) pages

-- what holds of a frame's use holds of each of these, whatever the number of pages
abbrev pub AreFrames : List Frame → Type 0
AreFrames frames = (pages : ℕ) → AllByRecursion (λ (frame : Frame). IsUse pages frame.used) frames
