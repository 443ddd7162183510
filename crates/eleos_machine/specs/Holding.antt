-- Turns in hand, with the values of their cells.
use Rattle.std.specs.Prelude.{◌≡◌, ℕ, ◌<◌, Option, Some, None, true}
use Rattle.eleos_base.specs.Ties.{Has}
use Rattle.eleos_core.specs.Legal.{IsOwner}
use Rattle.eleos_core.specs.Parts.{clock_cell, clock_part, frame_cell, frame_in, holder_in, page_cell}
use Rattle.eleos_base.specs.Places.{Owner, all_frames, all_pages}
use Rattle.eleos_plot.specs.declared.cell.Cell.{Cell}
use Rattle.eleos_plot.specs.declared.cell.Cell.TheVariants.{Clock}
use Rattle.eleos_plot.specs.Cells.{is_hand_within, part_of_cell}
use Rattle.eleos_plot.specs.Fits.{IsFrameCell, IsPageCell}
use Rattle.eleos_plot.specs.Terms.{core_terms}
use Rattle.eleos_turn.specs.Hands.{links_on}
use Rattle.eleos_machine.specs.declared.holding.ClockTurn.{ClockTurn}
use Rattle.eleos_machine.specs.declared.holding.FreeFrame.{FreeFrame}
use Rattle.eleos_machine.specs.declared.holding.HeldPage.{HeldPage}
use Rattle.eleos_machine.specs.declared.holding.SolePage.{SolePage}
use Rattle.eleos_machine.specs.Passes.{PassState, part_seen, plan_of}

-- the pass has the turn of the page, whose cell is this
pub record HasPage (s : PassState) (p : ℕ) (cell : Cell) : Type 0 where
  pub number : p < all_pages (plan_of s)
  pub turn : Has (page_cell (plan_of s) p) s.hand.turns
  pub value : part_of_cell cell ≡ part_seen s (page_cell (plan_of s) p)
  pub fits : IsPageCell (plan_of s) cell

-- the pass has the turn of the frame, whose cell is this
pub record HasFrame (s : PassState) (f : ℕ) (cell : Cell) : Type 0 where
  pub number : f < all_frames (plan_of s)
  pub turn : Has (frame_cell (plan_of s) f) s.hand.turns
  pub value : part_of_cell cell ≡ part_seen s (frame_cell (plan_of s) f)
  pub fits : IsFrameCell (plan_of s) cell

-- what the pass has seen of where a page lies, and of which page lies in a frame
abbrev pub frame_seen : PassState → ℕ → Option ℕ
frame_seen s p = frame_in (part_seen s (page_cell (plan_of s) p))

-- what the pass has seen of which page lies in a frame
abbrev pub holder_seen : PassState → ℕ → Option ℕ
holder_seen s f = holder_in (part_seen s (frame_cell (plan_of s) f))

-- the pass has the turn of a frame that holds no page
pub record HasFree (s : PassState) (free : FreeFrame) : Type 0 where
  pub held : HasFrame s free.frame free.cell
  pub empty : holder_seen s free.frame ≡ None

-- the pass has the turns of a page and of its frame; the page's was taken with a word without pins, and the pass has no link there
pub record HasSole (s : PassState) (sole : SolePage) : Type 0 where
  pub page : HasPage s sole.page sole.page_cell
  pub frame : HasFrame s sole.frame sole.frame_cell
  pub in_frame : frame_seen s sole.page ≡ Some sole.frame
  pub clean : Has (page_cell (plan_of s) sole.page) s.hand.clean
  pub no_link : links_on core_terms s.hand (page_cell (plan_of s) sole.page) ≡ 0

-- the pass has the turn of an absent page
pub record HasAbsent (s : PassState) (held : HeldPage) : Type 0 where
  pub page : HasPage s held.page held.cell
  pub absent : frame_seen s held.page ≡ None

-- the pass has the turn of the clock cell of this owner
pub record HasClock (s : PassState) (owner : Owner) (clock : ClockTurn) : Type 0 where
  pub known : IsOwner (plan_of s) owner
  pub number : clock.number ≡ clock_cell (plan_of s) owner
  pub turn : Has clock.number s.hand.turns
  pub value : clock_part clock.clock ≡ part_seen s clock.number
  pub hand_within : is_hand_within clock.clock clock.hand ≡ true

-- the pass has the turn of a clock cell with this number, whose value is this
abbrev pub HoldsClock : PassState → ℕ → Cell → Type 0
HoldsClock s number (Clock clock hand) = (owner : Owner) × HasClock s owner (record { number = number; clock = clock; hand = hand })
HoldsClock s number _ = ⊥
