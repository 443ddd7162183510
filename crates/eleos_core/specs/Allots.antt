-- Allocs, frees and shares by the parts of the machine's cells.
use Rattle.std.specs.Prelude.{◌≡◌, ℕ, ◌*◌, List, [], length, Bool, false, true, Option, is_some, option_map, slice_index_or, slice_set, if◌then◌else◌}
use Rattle.std.specs.List.{AllByRecursion}
use Rattle.eleos_base.specs.declared.memory.Live.{Live}
use Rattle.eleos_base.specs.declared.memory.Op.{Op as Calls}
use Rattle.eleos_base.specs.declared.memory.Op.TheVariants.{Free, Share}
use Rattle.eleos_base.specs.declared.memory.Reply.{Reply}
use Rattle.eleos_base.specs.Lists.{map_from}
use Rattle.eleos_base.specs.Plain.{is_in_run, zeros}
use Rattle.eleos_base.specs.Plans.{enclave_of}
use Rattle.eleos_core.specs.declared.allots.marks.Mark.{Mark}
use Rattle.eleos_core.specs.declared.allots.marks.Mark.TheVariants.{Blank, Shared}
use Rattle.eleos_core.specs.declared.cells.page.Page.{Page}
use Rattle.eleos_core.specs.declared.cells.page.Present.{Present}
use Rattle.eleos_core.specs.declared.cells.sub_page.SubPage.{SubPage}
use Rattle.eleos_core.specs.declared.event.Event.TheVariants.{Op}
use Rattle.eleos_core.specs.Applying.{Makes, parts_in, stamp_of}
use Rattle.eleos_core.specs.Cells.{Cells, IsPage, IsPresent, frame_of_page, part_with, sub_parts, sub_size, subs_per_page}
use Rattle.eleos_core.specs.Parts.{Part, SubPart, alloc_cell, blank_sub, len_at, live_in, page_part}
use Rattle.eleos_core.specs.Seals.{Seals}

-- how many sub-pages the block has that a call frees or shares
abbrev pub block_len : Cells → ℕ → Calls → ℕ
block_len m who (Free at) = let e = enclave_of m.plan who in len_at m.plan e at (live_in (parts_in m (alloc_cell m.plan e)))
block_len m who (Share at) = let e = enclave_of m.plan who in len_at m.plan e at (live_in (parts_in m (alloc_cell m.plan e)))
block_len m who op = 0

-- the call may be made on the cells, with this reply and however the machine seals, and makes the new cells of them
abbrev pub Allots : Cells → ℕ → Calls → Reply → Cells → Type 0
Allots old who op reply new = (x : Seals) → Makes x (stamp_of who (Op op) [] reply (block_len old who op)) old new

-- the block that a marked sub-page lies in
abbrev pub marked_block : Mark → Option Live → Option Live
marked_block (Blank block) was = block
marked_block Shared was = option_map (λ (block : Live). record block { is_shared = true }) was

-- its bytes, zeros where it is blank and its page is in a frame
abbrev pub marked_bytes : Mark → Bool → List ℕ → List ℕ
marked_bytes (Blank block) present bytes = if present then zeros sub_size else []
marked_bytes Shared present bytes = bytes

-- its part, by whether its page is in a frame
abbrev pub marked : Mark → Bool → SubPart → SubPart
marked (Blank block) present u = record { block = block; version = u.version; is_sealed = false; tag = []; is_dirty = false; bytes = marked_bytes (Blank block) present u.bytes }
marked Shared present u = record u { block = marked_block Shared u.block }

-- a page's part with one sub-page marked
abbrev pub with_marked : Mark → ℕ → Part → Part
with_marked mark i (page_part f us) = page_part f (slice_set us i (marked mark (is_some f) (slice_index_or us i blank_sub)))
with_marked mark i q = q

-- a page's part with those of its sub-pages marked that lie in the run; p is the page's number
abbrev pub page_marked : Mark → ℕ → ℕ → ℕ → Part → Part
page_marked mark start len p (page_part f us) = page_part f (map_from (λ s u. if is_in_run start len s then marked mark (is_some f) u else u) (p * subs_per_page) us)
page_marked mark start len p q = q

-- the parts of all pages with the sub-pages of the run marked
abbrev pub run_marked : Mark → ℕ → ℕ → List Part → List Part
run_marked mark start len qs = map_from (page_marked mark start len) 0 qs

-- the bytes of one sub-page of a page are zeros where it is in a frame, those of the others are as before
pub record IsCleared (i : ℕ) (old new : Option Present) : Type 0 where
  pub frame : frame_of_page new ≡ frame_of_page old
  pub parts : (us : List SubPage) (u : SubPage) → sub_parts (slice_set us i u) new ≡ slice_set (sub_parts us old) i (part_with u (if is_some old then zeros sub_size else []))
  pub keeps : (frames : ℕ) → IsPresent frames old → IsPresent frames new

-- what holds of pages still does
abbrev pub KeepsPage : Page → Page → Type 0
KeepsPage old new = (wear frames : ℕ) → IsPage wear frames old → IsPage wear frames new

-- what holds of all the old pages holds of all the new ones, whatever the wear limit and the number of frames
abbrev pub KeepsPages : List Page → List Page → Type 0
KeepsPages old new = (wear frames : ℕ) → AllByRecursion (IsPage wear frames) old → AllByRecursion (IsPage wear frames) new

-- what holds of the pages of some machine
pub record ArePages (pages : List Page) : Type 0 where
  pub wear : ℕ
  pub frames : ℕ
  pub each : AllByRecursion (IsPage wear frames) pages

-- a page has its sub-pages, and the bytes of a page where it is in a frame
pub record IsWholePage (page : Page) : Type 0 where
  pub whole : length page.subs.items ≡ subs_per_page
  pub frames : ℕ
  pub present : IsPresent frames page.present
