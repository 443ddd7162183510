-- The machine's cells in memory, and the parts that they have.
use Rattle.std.specs.Prelude.{◌≡◌, ℕ, ◌+◌, ◌-◌, ◌*◌, ◌<◌, ◌≤◌, List, [], length, map, take, drop, Option, Some, None, is_some, option_map, unwrap_or, slice_index, slice_index_or, IsTrue}
use Rattle.std.specs.List.{AllByRecursion}
use Rattle.eleos_base.specs.declared.memory.Live.{Live}
use Rattle.eleos_base.specs.declared.plan.Plan.{Plan}
use Rattle.eleos_base.specs.Lists.{map_from}
use Rattle.eleos_base.specs.Plain.{zeros}
use Rattle.eleos_base.specs.Plans.{IsGood, page_bytes}
use Rattle.eleos_core.specs.declared.cells.frame.Frame.{Frame}
use Rattle.eleos_core.specs.declared.cells.frame.Use.{Use}
use Rattle.eleos_core.specs.declared.cells.frame.Use.TheVariants.{Free, Lent}
use Rattle.eleos_core.specs.declared.cells.page.Page.{Page}
use Rattle.eleos_core.specs.declared.cells.page.Present.{Present}
use Rattle.eleos_core.specs.declared.cells.sub_page.SubPage.{SubPage}
use Rattle.eleos_core.specs.Order.{AreInOrder}
use Rattle.eleos_core.specs.Parts.{Cell, Part, SubPart, no_cell, the_alloc, the_clock, the_page, the_frame, no_part, alloc_part, clock_part, page_part, frame_part}
use Rattle.eleos_base.specs.Places.{all_frames, all_pages, subs}

-- bytes of a sub-page, and sub-pages of a page
abbrev pub sub_size : ℕ
sub_size = 1024

-- a page has 4 sub-pages, so 4,096 bytes
abbrev pub subs_per_page : ℕ
subs_per_page = 4

-- the bytes of the i-th sub-page among those of its frame
abbrev pub piece : ℕ → List ℕ → List ℕ
piece i bytes = take sub_size (drop (sub_size * i) bytes)

-- a sub-page with these bytes as a part
abbrev pub part_with : SubPage → List ℕ → SubPart
part_with u bytes = record { block = u.block; version = u.version; is_sealed = is_some u.tag; tag = unwrap_or u.tag []; is_dirty = u.is_dirty; bytes = bytes }

-- the parts of a page's sub-pages
abbrev pub sub_parts : List SubPage → Option Present → List SubPart
sub_parts us None = map (λ u. part_with u []) us
sub_parts us (Some present) = map_from (λ i u. part_with u (piece i present.bytes.items)) 0 us

-- the frame that a page is in
abbrev pub frame_of_page : Option Present → Option ℕ
frame_of_page present = option_map (λ (p : Present). p.frame) present

-- a page as a part
abbrev pub part_of_page : Page → Part
part_of_page page = page_part (frame_of_page page.present) (sub_parts page.subs.items page.present)

-- the page in a frame
abbrev pub holder_of_use : Use → Option ℕ
holder_of_use (Free bytes) = None
holder_of_use (Lent page) = Some page

-- a frame as a part
abbrev pub part_of_frame : Frame → Part
part_of_frame frame = frame_part frame.owner (holder_of_use frame.used)

-- the parts of all cells, and the links on all pages by each caller
pub record Cells : Type 0 where
  pub plan : Plan
  pub live : List (List Live)
  pub clocks : List (List ℕ)
  pub pages : List Part
  pub frames : List Part
  pub links : List ℕ

-- the part of a cell
abbrev pub part_in : Cells → Cell → Part
part_in m no_cell = no_part
part_in m (the_alloc e) = alloc_part (slice_index_or m.live e [])
part_in m (the_clock (Some e)) = clock_part (slice_index_or m.clocks e [])
part_in m (the_clock None) = clock_part (slice_index_or m.clocks (length m.plan.enclaves) [])
part_in m (the_page p) = slice_index_or m.pages p no_part
part_in m (the_frame f) = slice_index_or m.frames f no_part

-- the links of a caller on a page
abbrev pub links_in : Cells → ℕ → ℕ → ℕ
links_in m who p = slice_index m.links ((who - 1) * all_pages m.plan + p)

-- what holds of a sub-page: a write to it that is not sealed can be sealed, which is so only in a frame
pub record IsSubPage (wear : ℕ) (present : Option Present) (u : SubPage) : Type 0 where
  pub version : u.version ≤ wear
  pub below : IsTrue u.is_dirty → u.version < wear
  pub dirty : IsTrue u.is_dirty → IsTrue (is_some present)

-- a frame that a page is in has its number among the machine's, and the bytes of a page
abbrev pub IsPresent : ℕ → Option Present → Type 0
IsPresent frames None = Unit {0}
IsPresent frames (Some present) = (present.frame < frames) × (length present.bytes.items ≡ page_bytes)

-- what holds of a page
pub record IsPage (wear frames : ℕ) (page : Page) : Type 0 where
  pub whole : length page.subs.items ≡ subs_per_page
  pub present : IsPresent frames page.present
  pub each : AllByRecursion (IsSubPage wear page.present) page.subs.items

-- what holds of a frame's use: free bytes are zero, and the page is one of the machine's
abbrev pub IsUse : ℕ → Use → Type 0
IsUse pages (Free bytes) = bytes.items ≡ zeros page_bytes
IsUse pages (Lent page) = page < pages

-- all cells as parts
abbrev pub cells_of : Plan → List (List Live) → List (List ℕ) → List Page → List Frame → List ℕ → Cells
cells_of plan live clocks pages frames links = record { plan = plan; live = live; clocks = clocks; pages = map part_of_page pages; frames = map part_of_frame frames; links = links }

-- what holds of all cells of a plan
pub record IsCore (k : Plan) (live : List (List Live)) (clocks : List (List ℕ)) (pages : List Page) (frames : List Frame) (links : List ℕ) : Type 0 where
  pub good : IsGood k
  pub enclaves : length live ≡ length k.enclaves
  pub in_order : (e : ℕ) → e < length k.enclaves → AreInOrder 0 (subs k e) (slice_index_or live e [])
  pub owners : length clocks ≡ length k.enclaves + 1
  pub pages_are : length pages ≡ all_pages k
  pub each_page : AllByRecursion (IsPage k.wear (all_frames k)) pages
  pub frames_are : length frames ≡ all_frames k
  pub each_frame : AllByRecursion (λ (frame : Frame). IsUse (all_pages k) frame.used) frames
  pub links_are : length links ≡ length k.callers * all_pages k
