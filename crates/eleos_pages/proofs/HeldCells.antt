-- The cells of a page and of a frame whose turns a pass has: before a stamp, and after it.
use Rattle.std.proofs.Common.{◌≡◌, ◌≢◌, ⊎_elim, ℕ, ◌+◌, ◌<◌, [], ◌∷◌, sym, ◌∙◌, ap, subst, arith}
use Rattle.eleos_base.specs.declared.plan.Plan.{Plan}
use Rattle.eleos_base.specs.Places.{all_frames, all_pages}
use Rattle.eleos_base.specs.Ties.{Has}
use Rattle.eleos_core.specs.declared.cells.frame.Frame.{Frame as Frames}
use Rattle.eleos_core.specs.declared.cells.frame.Use.{Use}
use Rattle.eleos_core.specs.declared.cells.frame.Use.TheVariants.{Free, Lent}
use Rattle.eleos_core.specs.declared.cells.page.Page.{Page as Pages}
use Rattle.eleos_core.specs.Cells.{IsPage, IsUse, part_of_frame, part_of_page}
use Rattle.eleos_core.specs.Parts.{Cell as Numbered, cell_of, foot, frame_cell, page_cell, part_after, the_frame, the_page}
use Rattle.eleos_core.proofs.CellNumbers.{frame_is, page_is}
use Rattle.eleos_machine.specs.Holding.{HasFrame, HasPage}
use Rattle.eleos_machine.specs.Passes.{IsLawful, PassState, part_seen, plan_of, seals_of, seen}
use Rattle.eleos_machine.specs.Stamping.{HasStamped}
use Rattle.eleos_plot.specs.declared.cell.Cell.{Cell}
use Rattle.eleos_plot.specs.declared.cell.Cell.TheVariants.{Frame, Page}
use Rattle.eleos_plot.specs.Cells.{part_of_cell}
use Rattle.eleos_plot.specs.Fits.{Fits, IsFrame, IsFrameCell, IsPageCell}
use Rattle.eleos_plot.proofs.Fitting.{cells_fit, cells_show}

-- the cell of a page is not that of a frame
pub cells_differ : (k : Plan) (p f : ℕ) → p < all_pages k → page_cell k p ≢ frame_cell k f
cells_differ k p f inside = λ same. omega (arith, inside, same)

-- a page in hand is fit, and has the part that the pass has seen
module _ (s : PassState) (p : ℕ) (value : Cell) (page : Pages) (has : HasPage s p value) (is : value ≡ Page page) where
  -- the page is fit, by the plan's wear and its number of frames
  pub held_page : IsPage (plan_of s).wear (all_frames (plan_of s)) page
  held_page = subst (IsPageCell (plan_of s)) is has.fits

  -- it has the part that the pass has seen of its cell
  pub page_part_seen : part_of_page page ≡ part_seen s (page_cell (plan_of s) p)
  page_part_seen = sym ((cells_show (plan_of s)).pages page held_page) ∙ (sym (ap part_of_cell is) ∙ has.value)

-- so is a frame
module _ (s : PassState) (f : ℕ) (value : Cell) (frame : Frames) (has : HasFrame s f value) (is : value ≡ Frame frame) where
  -- the frame is fit, by the plan
  pub held_frame : IsFrame (plan_of s) frame
  held_frame = subst (IsFrameCell (plan_of s)) is has.fits

  -- it has the part that the pass has seen of its cell
  pub frame_part_seen : part_of_frame frame ≡ part_seen s (frame_cell (plan_of s) f)
  frame_part_seen = sym ((cells_show (plan_of s)).frames frame held_frame.used) ∙ (sym (ap part_of_cell is) ∙ has.value)

-- a use that is right for few pages is right for more
pub use_more : (m n : ℕ) (used : Use) → m < n + 1 → IsUse m used → IsUse n used
use_more m n (Free bytes) few zero_is = zero_is
use_more m n (Lent page) few below = omega (arith, few, below)

-- a value that has the part which the pass has seen fits
seen_fits : (s : PassState) (c : ℕ) (value : Cell) → IsLawful s → part_of_cell value ≡ part_seen s c → Fits (plan_of s) (cell_of (plan_of s) c) value
seen_fits s c value law is = cells_fit (plan_of s) s.hand.home.base.grounds.key (seen s) c value (record { good = law.machine.made.good; legal = law.run.legal }) is

-- a page or a frame is in hand where its turn is and the value has the part that the pass has seen
module _ (s : PassState) (law : IsLawful s) (value : Cell) where
  -- the page is in hand, by its number in the plan
  pub has_page : (k : Plan) (p : ℕ) → plan_of s ≡ k → p < all_pages k → Has (page_cell k p) s.hand.turns → part_of_cell value ≡ part_seen s (page_cell k p) → HasPage s p value
  has_page k p is inside turn value_is =
      let inside' : p < all_pages (plan_of s) = subst (λ (q : Plan). p < all_pages q) (sym is) inside in
      let right : part_of_cell value ≡ part_seen s (page_cell (plan_of s) p) = subst (λ (q : Plan). part_of_cell value ≡ part_seen s (page_cell q p)) (sym is) value_is in record {
        number = inside';
        turn = subst (λ (q : Plan). Has (page_cell q p) s.hand.turns) (sym is) turn;
        value = right;
        fits = subst (λ (cell : Numbered). Fits (plan_of s) cell value) (page_is (plan_of s) p inside') (seen_fits s (page_cell (plan_of s) p) value law right);
      }

  -- so is the frame
  pub has_frame : (k : Plan) (f : ℕ) → plan_of s ≡ k → f < all_frames k → Has (frame_cell k f) s.hand.turns → part_of_cell value ≡ part_seen s (frame_cell k f) → HasFrame s f value
  has_frame k f is inside turn value_is =
      let inside' : f < all_frames (plan_of s) = subst (λ (q : Plan). f < all_frames q) (sym is) inside in
      let right : part_of_cell value ≡ part_seen s (frame_cell (plan_of s) f) = subst (λ (q : Plan). part_of_cell value ≡ part_seen s (frame_cell q f)) (sym is) value_is in record {
        number = inside';
        turn = subst (λ (q : Plan). Has (frame_cell q f) s.hand.turns) (sym is) turn;
        value = right;
        fits = subst (λ (cell : Numbered). Fits (plan_of s) cell value) (frame_is (plan_of s) f inside') (seen_fits s (frame_cell (plan_of s) f) value law right);
      }

-- what a stamp makes of the cells of its page and its frame
module _ (s s' : PassState) (n : ℕ) (h : HasStamped s n s') where
  -- a page that the draft touches has the part that the entry makes of it
  pub page_becomes : (p : ℕ) → p < all_pages (plan_of s) → Has (page_cell (plan_of s) p) (foot (plan_of s) s.draft)
      → part_seen s' (page_cell (plan_of s) p) ≡ part_after (plan_of s) (seals_of s) s.draft (the_page p) (part_seen s (page_cell (plan_of s) p))
  page_becomes p inside touched = h.touched (page_cell (plan_of s) p) touched
      ∙ ap (λ (cell : Numbered). part_after (plan_of s) (seals_of s) s.draft cell (part_seen s (page_cell (plan_of s) p))) (page_is (plan_of s) p inside)

  -- the same of a frame
  pub frame_becomes : (f : ℕ) → f < all_frames (plan_of s) → Has (frame_cell (plan_of s) f) (foot (plan_of s) s.draft)
      → part_seen s' (frame_cell (plan_of s) f) ≡ part_after (plan_of s) (seals_of s) s.draft (the_frame f) (part_seen s (frame_cell (plan_of s) f))
  frame_becomes f inside touched = h.touched (frame_cell (plan_of s) f) touched
      ∙ ap (λ (cell : Numbered). part_after (plan_of s) (seals_of s) s.draft cell (part_seen s (frame_cell (plan_of s) f))) (frame_is (plan_of s) f inside)

  -- the turns are as before
  pub turns_stay : s'.hand.turns ≡ s.hand.turns
  turns_stay = ap (λ hand. hand.turns) h.stamped.now

  -- and other cells that the entry does not touch
  pub other_stays : (c a b : ℕ) → foot (plan_of s) s.draft ≡ a ∷ b ∷ [] → Has c s.hand.turns → c ≢ a → c ≢ b → part_seen s' c ≡ part_seen s c
  other_stays c a b foot_is has not_a not_b = h.others c has (λ touched.
      ⊎_elim (λ (e : c ≡ a). not_a e) (λ (more : Has c (b ∷ [])). ⊎_elim (λ (e : c ≡ b). not_b e) (λ (none : ⊥). none) more) (subst (Has c) foot_is touched))
