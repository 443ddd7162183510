-- Accesses on a page whose turn is held: they may be stamped, and what they are then.
use Rattle.std.proofs.Common.{◌≡◌, ℕ, List, [], ◌∷◌, length, refl, sym, ◌∙◌, ap, subst, if◌then◌else◌}
use Rattle.eleos_base.specs.declared.memory.Addr.{Addr}
use Rattle.eleos_base.specs.declared.memory.Op.TheVariants.{Read, Write}
use Rattle.eleos_base.specs.declared.memory.Reply.{Reply}
use Rattle.eleos_base.specs.declared.plan.Plan.{Plan}
use Rattle.eleos_core.specs.declared.cells.page.Page.{Page as Pages}
use Rattle.eleos_core.specs.Accesses.{read_stamp, write_stamp}
use Rattle.eleos_core.specs.Cells.{IsPage, part_of_page}
use Rattle.eleos_core.specs.Parts.{CallOn, Part, Stamp, page_cell}
use Rattle.eleos_base.specs.Places.{all_frames}
use Rattle.eleos_core.specs.Seals.{Seals}
use Rattle.eleos_plot.specs.declared.cell.Cell.{Cell}
use Rattle.eleos_plot.specs.declared.cell.Cell.TheVariants.{Page}
use Rattle.eleos_plot.specs.Cells.{part_of_cell}
use Rattle.eleos_plot.specs.Fits.{IsPageCell}
use Rattle.eleos_machine.specs.Machines.{Site}
use Rattle.eleos_machine.specs.Passes.{PassState, part_seen, plan_of, seals_of}
use Rattle.eleos_core.specs.Accesses.{ReadsOn, WritesOn, page_at}
use Rattle.eleos_pages.specs.Entered.{Enters}
use Rattle.eleos_pages.specs.Held.{HoldsPage, MayEnter, access_stamp}
use Rattle.eleos_pages.proofs.PageCells.{page_shows}

-- an entry of a pass with another draft is one of the pass
abbrev pub same_hand : (s : PassState) (draft d : Stamp) (held : List ℕ) (s' : PassState) → Enters (record s { draft = draft }) d held s' → Enters s d held s'
same_hand s draft d held s' e = record { past = e.past; goes = e.goes; sees = e.sees; legal = e.legal; turns = e.turns; pins = e.pins; links = e.links; refused = e.refused; rest = e.rest }

module _ (z : Site) (s : PassState) (at : Addr) (n cell : ℕ) (value : Cell) (page : Pages) (h : HoldsPage z s at n cell value) (is : value ≡ Page page) where
  -- the page is fit for the machine, also where its plan is named otherwise
  pub page_fits : (k : Plan) → plan_of s ≡ k → IsPage k.wear (all_frames k) page
  page_fits k same = subst (λ (q : Plan). IsPage q.wear (all_frames q) page) same (subst (IsPageCell (plan_of s)) is h.fits)

  -- its part is what the pass has seen of it
  pub seen_part : part_of_page page ≡ part_seen s cell
  seen_part = sym (page_shows (all_frames (plan_of s)) page (page_fits (plan_of s) refl).present) ∙ (sym (ap part_of_cell is) ∙ h.part)

  -- a read may be stamped
  pub may_read : (k : Plan) (x : Seals) (who : ℕ) (blocks : List (List ℕ)) (reply : Reply) (n' : ℕ) (s' : PassState) → k ≡ plan_of s → x ≡ seals_of s → who ≡ s.hand.number → n' ≡ n → s' ≡ record s { draft = read_stamp s.hand.number at n' blocks reply }
      → ReadsOn k x who at n blocks (part_of_page page) reply → MayEnter s' cell
  may_read k x who blocks reply n' s' k_is x_is who_is n_is s_is reads =
      let r : ReadsOn (plan_of s) (seals_of s) s.hand.number at n blocks (part_of_page page) reply
      = subst (λ (y : Seals). ReadsOn (plan_of s) y s.hand.number at n blocks (part_of_page page) reply) x_is (subst (λ (q : Plan). ReadsOn q x s.hand.number at n blocks (part_of_page page) reply) k_is
      (subst (λ (w : ℕ). ReadsOn k x w at n blocks (part_of_page page) reply) who_is reads)) in
      let d : Stamp = read_stamp s.hand.number at n blocks reply in
      subst (λ (y : PassState). MayEnter y cell) (sym (s_is ∙ ap (λ (m : ℕ). record s { draft = read_stamp s.hand.number at m blocks reply }) n_is)) (record {
        op = Read at n;
        event = refl;
        own = refl;
        left = h.left;
        turn = h.turn;
        touches = ap (λ b. if b then page_cell (plan_of s) (page_at (plan_of s) at) ∷ [] else []) h.page.range ∙ ap (λ (c : ℕ). c ∷ []) (sym h.page.cell_is);
        legal = record {
          within = h.caller;
          on_parts = subst (λ (q : Part). CallOn (plan_of s) (seals_of s) d (λ _. q) (Read at n)) (seen_part ∙ ap (part_seen s) h.page.cell_is) r.legal;
        };
      })

  -- a write may be stamped
  pub may_write : (k : Plan) (x : Seals) (who : ℕ) (new : List ℕ) (blocks : List (List ℕ)) (reply : Reply) (after : Part) (s' : PassState) → k ≡ plan_of s → x ≡ seals_of s → who ≡ s.hand.number → length new ≡ n → s' ≡ record s { draft = write_stamp s.hand.number at new blocks reply }
      → WritesOn k x who at new blocks (part_of_page page) reply after → MayEnter s' cell
  may_write k x who new blocks reply after s' k_is x_is who_is n_is s_is writes =
      let w : WritesOn (plan_of s) (seals_of s) s.hand.number at new blocks (part_of_page page) reply after
      = subst (λ (y : Seals). WritesOn (plan_of s) y s.hand.number at new blocks (part_of_page page) reply after) x_is (subst (λ (q : Plan). WritesOn q x s.hand.number at new blocks (part_of_page page) reply after) k_is
      (subst (λ (w : ℕ). WritesOn k x w at new blocks (part_of_page page) reply after) who_is writes)) in
      let d : Stamp = write_stamp s.hand.number at new blocks reply in
      let p = subst (λ (m : ℕ). Rattle.eleos_pages.specs.Held.IsPageOf (plan_of s) s.hand.number at m cell) (sym n_is) h.page in
      subst (λ (y : PassState). MayEnter y cell) (sym s_is) (record {
        op = Write at new;
        event = refl;
        own = refl;
        left = h.left;
        turn = h.turn;
        touches = ap (λ b. if b then page_cell (plan_of s) (page_at (plan_of s) at) ∷ [] else []) p.range ∙ ap (λ (c : ℕ). c ∷ []) (sym h.page.cell_is);
        legal = record {
          within = h.caller;
          on_parts = subst (λ (q : Part). CallOn (plan_of s) (seals_of s) d (λ _. q) (Write at new)) (seen_part ∙ ap (part_seen s) h.page.cell_is) w.legal;
        };
      })
