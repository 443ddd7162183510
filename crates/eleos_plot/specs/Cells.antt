-- What the history fixes of a cell.
use Rattle.std.specs.Prelude.{ℕ, ◌==◌, ◌||◌, nat_eq, nat_lt, List, length, Bool, true, Option, Some, None, if◌then◌else◌}
use Rattle.std.specs.Cmp.Lexicographic.{pointwise}
use Rattle.eleos_base.specs.Plain.{zeros}
use Rattle.eleos_base.specs.Plans.{page_bytes}
use Rattle.eleos_core.specs.declared.cells.frame.Use.{Use}
use Rattle.eleos_core.specs.declared.cells.frame.Use.TheVariants.{Free, Lent}
use Rattle.eleos_core.specs.declared.cells.page.Present.{Present}
use Rattle.eleos_core.specs.Cells.{part_of_frame, part_of_page}
use Rattle.eleos_core.specs.Parts.{Part, no_part, alloc_part, clock_part}
use Rattle.eleos_plot.specs.declared.cell.Cell.{Cell}
use Rattle.eleos_plot.specs.declared.cell.Cell.TheVariants.{Alloc, Clock, Page, Frame}

-- a page in a frame has the bytes of a page
abbrev pub has_page_bytes : Option Present → Bool
has_page_bytes None = true
has_page_bytes (Some present) = length present.bytes.items == page_bytes

-- a free frame has the bytes of a page, all zero
abbrev pub has_zeros : Use → Bool
has_zeros (Free bytes) = pointwise nat_eq bytes.items (zeros page_bytes)
has_zeros (Lent page) = true

-- the clock's hand is at one of these frames, or at the first place
abbrev pub is_hand_within : List ℕ → ℕ → Bool
is_hand_within frames hand = hand == 0 || nat_lt hand (length frames)

-- the part of a cell: none where its bytes are not those of a page, or are not zero in a free frame, or
-- where the clock's hand is at no frame. So who knows a part knows this of the cell too.
-- Where within its frames the clock's hand is, no part says.
abbrev pub part_of_cell : Cell → Part
part_of_cell (Alloc blocks) = alloc_part blocks
part_of_cell (Clock frames hand) = if is_hand_within frames hand then clock_part frames else no_part
part_of_cell (Page page) = if has_page_bytes page.present then part_of_page page else no_part
part_of_cell (Frame frame) = if has_zeros frame.used then part_of_frame frame else no_part
