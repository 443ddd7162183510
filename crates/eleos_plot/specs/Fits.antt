-- What holds of a cell's value beyond its part: what code on the cell may rely on.
use Rattle.std.specs.Prelude.{◌≡◌, ℕ, ◌<◌, List, nat_eq, true, Contains}
use Rattle.std.specs.List.{IsDistinct}
use Rattle.eleos_base.specs.declared.plan.Plan.{Plan}
use Rattle.eleos_core.specs.declared.cells.frame.Frame.{Frame as Frames}
use Rattle.eleos_core.specs.declared.cells.page.Page.{Page as Pages}
use Rattle.eleos_core.specs.Cells.{IsPage, IsUse, part_of_frame, part_of_page}
use Rattle.eleos_core.specs.Legal.{IsOwner}
use Rattle.eleos_core.specs.Order.{AreInOrder}
use Rattle.eleos_core.specs.Parts.{Cell as Numbered, no_cell, the_alloc, the_clock, the_frame, the_page}
use Rattle.eleos_base.specs.Places.{all_frames, all_pages, subs}
use Rattle.eleos_plot.specs.declared.cell.Cell.{Cell}
use Rattle.eleos_plot.specs.declared.cell.Cell.TheVariants.{Alloc, Clock, Page, Frame}
use Rattle.eleos_plot.specs.Cells.{is_hand_within, part_of_cell}

module _ (k : Plan) where
  -- an enclave's blocks, in order within it
  abbrev pub IsAllocOf : ℕ → Cell → Type 0
  IsAllocOf e (Alloc blocks) = AreInOrder 0 (subs k e) blocks
  IsAllocOf e _ = ⊥

  -- frames of the machine, none twice, with the hand at one of them or at the first place
  pub record AreFrames (frames : List ℕ) (hand : ℕ) : Type 0 where
    pub within : (f : ℕ) → Contains frames f → f < all_frames k
    pub once : IsDistinct nat_eq frames
    pub hand_within : is_hand_within frames hand ≡ true

  -- a clock, whose frames and hand are such
  abbrev pub IsClock : Cell → Type 0
  IsClock (Clock frames hand) = AreFrames frames hand
  IsClock _ = ⊥

  -- a page whose dirty sub-pages can be sealed, and which has a page's bytes where it is in a frame
  abbrev pub IsPageCell : Cell → Type 0
  IsPageCell (Page page) = IsPage k.wear (all_frames k) page
  IsPageCell _ = ⊥

  -- a frame that is free and has a page's bytes, all zero, or that has a page of the machine, and its owner
  pub record IsFrame (frame : Frames) : Type 0 where
    pub used : IsUse (all_pages k) frame.used
    pub owner : IsOwner k frame.owner

  -- the cell of such a frame
  abbrev pub IsFrameCell : Cell → Type 0
  IsFrameCell (Frame frame) = IsFrame frame
  IsFrameCell _ = ⊥

  -- the value is of the kind of the cell, and fit for the machine
  abbrev pub Fits : Numbered → Cell → Type 0
  Fits no_cell value = Unit {0}
  Fits (the_alloc e) value = IsAllocOf e value
  Fits (the_clock owner) value = IsClock value
  Fits (the_page p) value = IsPageCell value
  Fits (the_frame f) value = IsFrameCell value

-- a page and a frame that are fit for the machine have their parts as cells
pub record FitCellsShow (k : Plan) : Type 0 where
  pub pages : (page : Pages) → IsPage k.wear (all_frames k) page → part_of_cell (Page page) ≡ part_of_page page
  pub frames : (frame : Frames) → IsUse (all_pages k) frame.used → part_of_cell (Frame frame) ≡ part_of_frame frame
