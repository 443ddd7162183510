-- What a pass has seen of cells, in the words of the history.
use Rattle.std.proofs.Common.{◌≡◌, ◌≢◌, ℕ, ◌<◌, List, Some, sym, ◌∙◌, ap, subst, arith, nat_eq, Contains}
use Rattle.std.specs.List.{IsDistinct}
use Rattle.eleos_base.specs.declared.plan.Plan.{Plan}
use Rattle.eleos_core.specs.declared.cells.frame.Frame.{Frame as Frames}
use Rattle.eleos_core.specs.Cells.{holder_of_use}
use Rattle.eleos_core.specs.Legal.{CoreRun}
use Rattle.eleos_core.specs.Parts.{Cell as Numbered, Part, clock_cell, clock_part, frame_cell, frame_in, holder_in, list_in, owner_in, page_cell, part_of, the_clock, the_frame, the_page}
use Rattle.eleos_base.specs.Places.{all_frames, all_pages}
use Rattle.eleos_core.specs.State.{frame, frames_of, holder}
use Rattle.eleos_core.proofs.CellNumbers.{enclave_clock_is, frame_is, page_is}
use Rattle.eleos_core.proofs.Holders.{frame_iff_holder}
use Rattle.eleos_core.proofs.Owners.{frames_distinct, listed_is_owned}
use Rattle.eleos_plot.specs.declared.cell.Cell.{Cell}
use Rattle.eleos_plot.specs.declared.cell.Cell.TheVariants.{Frame}
use Rattle.eleos_plot.specs.Cells.{part_of_cell}
use Rattle.eleos_plot.specs.Fits.{Fits, IsFrameCell, IsPageCell}
use Rattle.eleos_plot.proofs.Fitting.{cells_show}
use Rattle.eleos_machine.specs.Holding.{HasClock, frame_seen, holder_seen}
use Rattle.eleos_machine.specs.Passes.{IsLawful, PassState, part_seen, plan_of, seals_of, seen}
use Rattle.eleos_machine.specs.declared.holding.ClockTurn.{ClockTurn}

module _ (s : PassState) (law : IsLawful s) where
  run : CoreRun (plan_of s) (seals_of s) (seen s)
  run = law.run.legal

  pub frame_seen_is : (p : ℕ) → p < all_pages (plan_of s) → frame_seen s p ≡ frame (seen s) p
  frame_seen_is p lt = ap (λ (cell : Numbered). frame_in (part_of (plan_of s) (seals_of s) (seen s) cell)) (page_is (plan_of s) p lt)

  pub holder_seen_is : (f : ℕ) → f < all_frames (plan_of s) → holder_seen s f ≡ holder (seen s) f
  holder_seen_is f lt = ap (λ (cell : Numbered). holder_in (part_of (plan_of s) (seals_of s) (seen s) cell)) (frame_is (plan_of s) f lt)

  -- the page that is in a frame is in that frame
  pub page_in : (f p : ℕ) → f < all_frames (plan_of s) → p < all_pages (plan_of s) → holder_seen s f ≡ Some p → frame_seen s p ≡ Some f
  page_in f p lt lt' holds = frame_seen_is p lt' ∙ (frame_iff_holder (plan_of s) (seals_of s) (seen s) run p f).1 (sym (holder_seen_is f lt) ∙ holds)

  -- the frames of a clock cell
  pub list_is : (e : ℕ) (clock : ClockTurn) → HasClock s (Some e) clock → clock.clock ≡ frames_of (plan_of s) (seen s) (Some e)
  list_is e clock has = ap list_in (has.value ∙ (ap (part_seen s) has.number ∙ ap (λ (cell : Numbered). part_of (plan_of s) (seals_of s) (seen s) cell) (enclave_clock_is (plan_of s) e has.known)))

  -- no frame stands twice among them
  pub list_distinct : (e : ℕ) (clock : ClockTurn) → HasClock s (Some e) clock → IsDistinct nat_eq clock.clock
  list_distinct e clock has = subst (IsDistinct nat_eq) (sym (list_is e clock has)) (frames_distinct (plan_of s) (seals_of s) (seen s) run (Some e))

  -- each of them is one of the machine
  pub list_within : (e : ℕ) (clock : ClockTurn) → HasClock s (Some e) clock → (f : ℕ) → Contains clock.clock f → f < all_frames (plan_of s)
  list_within e clock has f listed = (listed_is_owned (plan_of s) (seals_of s) (seen s) run (Some e) f (subst (λ (xs : List ℕ). Contains xs f) (list_is e clock has) listed)).0

  -- each of them has that owner
  pub list_owned : (e : ℕ) (clock : ClockTurn) → HasClock s (Some e) clock → (f : ℕ) → Contains clock.clock f → owner_in (part_seen s (frame_cell (plan_of s) f)) ≡ Some e
  list_owned e clock has f listed =
      let owned = listed_is_owned (plan_of s) (seals_of s) (seen s) run (Some e) f (subst (λ (xs : List ℕ). Contains xs f) (list_is e clock has) listed) in
      ap (λ (cell : Numbered). owner_in (part_of (plan_of s) (seals_of s) (seen s) cell)) (frame_is (plan_of s) f owned.0) ∙ owned.1

  -- the page in a frame, by its cell
  pub holder_by_cell : (f : ℕ) (held : Frames) → IsFrameCell (plan_of s) (Frame held) → part_of_cell (Frame held) ≡ part_seen s (frame_cell (plan_of s) f) → holder_seen s f ≡ holder_of_use held.used
  holder_by_cell f held fits value = sym (ap holder_in (sym ((cells_show (plan_of s)).frames held fits.used) ∙ value))

-- a value that fits a frame's or a page's number is a frame's or a page's
pub fits_frame : (k : Plan) (f : ℕ) (x : Cell) → f < all_frames k → Fits k (Rattle.eleos_core.specs.Parts.cell_of k (frame_cell k f)) x → IsFrameCell k x
fits_frame k f x lt fits = subst (λ (cell : Numbered). Fits k cell x) (frame_is k f lt) fits

-- the same of a page
pub fits_page : (k : Plan) (p : ℕ) (x : Cell) → p < all_pages k → Fits k (Rattle.eleos_core.specs.Parts.cell_of k (page_cell k p)) x → IsPageCell k x
fits_page k p x lt fits = subst (λ (cell : Numbered). Fits k cell x) (page_is k p lt) fits

-- the numbers of a page's and of a frame's cell differ
pub page_no_frame : (k : Plan) (p f : ℕ) → p < all_pages k → page_cell k p ≢ frame_cell k f
page_no_frame k p f lt same = omega (arith, lt, same)

pub frames_differ : (k : Plan) (f g : ℕ) → frame_cell k f ≡ frame_cell k g → f ≡ g
frames_differ k f g same = omega (arith, same)
