-- An access on a page whose turn is held, as it was stamped.
use Rattle.std.proofs.Common.{◌≡◌, ℕ, List, [], ◌∷◌, length, refl, sym, ◌∙◌, ap, subst, if◌then◌else◌}
use Rattle.eleos_base.specs.declared.memory.Addr.{Addr}
use Rattle.eleos_base.specs.declared.memory.Op.{Op as Calls}
use Rattle.eleos_base.specs.declared.memory.Op.TheVariants.{Read, Write}
use Rattle.eleos_base.specs.declared.memory.Reply.{Reply}
use Rattle.eleos_base.specs.declared.memory.Reply.TheVariants.{BadRange}
use Rattle.eleos_base.specs.declared.plan.Plan.{Plan}
use Rattle.eleos_core.specs.declared.cells.page.Page.{Page as Pages}
use Rattle.eleos_core.specs.declared.event.Event.TheVariants.{Op}
use Rattle.eleos_core.specs.Accesses.{read_stamp, write_stamp}
use Rattle.eleos_core.specs.Applying.{page_puts, puts_of}
use Rattle.eleos_core.specs.Cells.{IsPage, part_of_page}
use Rattle.eleos_core.specs.Parts.{CallOn, Part, Stamp, page_cell, part_at}
use Rattle.eleos_base.specs.Places.{all_frames, sub_of}
use Rattle.eleos_core.specs.Seals.{Seals}
use Rattle.eleos_core.proofs.SealedPuts.{puts_are}
use Rattle.eleos_host.specs.declared.port.HostPort.{Ghosts}
use Rattle.eleos_host.specs.declared.port.HostStore as store
use Rattle.eleos_host.specs.Taps.{TapState, failed_block}
use Rattle.eleos_plot.specs.declared.cell.Cell.{Cell}
use Rattle.eleos_plot.specs.declared.cell.Cell.TheVariants.{Page}
use Rattle.eleos_plot.specs.Cells.{part_of_cell}
use Rattle.eleos_plot.specs.Fits.{IsPageCell}
use Rattle.eleos_machine.specs.Machines.{Site}
use Rattle.eleos_machine.specs.Stamping.{HasStamped}
use Rattle.eleos_machine.specs.Passes.{PassState, part_seen, plan_of, seals_of}
use Rattle.eleos_core.specs.Accesses.{ReadsOn, WritesOn, page_at, sealed_by}
use Rattle.eleos_pages.specs.Crossed.{Crosses, at_place, came, spoiled_by}
use Rattle.eleos_pages.specs.Entered.{Enters}
use Rattle.eleos_pages.specs.Held.{EntersHeld, HoldsPage, access_stamp}
use Rattle.eleos_direct.specs.Held.{AccessesHeld}
use Rattle.eleos_pages.proofs.Ending.{entered}
use Rattle.eleos_direct.proofs.Holding.{read_puts}
use Rattle.eleos_pages.proofs.PageCells.{page_shows}
use Rattle.eleos_pages.proofs.OnPages.{same_hand, seen_part}
use Rattle.eleos_turn.specs.Numbers.{less_one}

module _ (z : Site) (s : PassState) (at : Addr) (n cell : ℕ) (value : Cell) (page : Pages) (h : HoldsPage z s at n cell value) (is : value ≡ Page page) where
  module _ {P : Type 0} (port : Ghosts P) (host : store.Ghosts P) (tap tap' : TapState P) where
    -- a read that was stamped
    pub has_read : (k : Plan) (reply : Reply) (n' : ℕ) (s' s'' : PassState) → k ≡ plan_of s → n' ≡ n → s' ≡ record s { draft = read_stamp s.hand.number at n' (came tap') reply }
        → EntersHeld s' cell s'.draft s'' → Crosses port host tap tap' (at_place (sub_of k at) (came tap')) [] → failed_block tap' ≡ spoiled_by reply (came tap')
        → AccessesHeld port host s tap at cell (Read at n) reply s'' tap'
    has_read k reply n' s' s'' k_is n_is s_is entered crossed spoiled =
        let e : EntersHeld (record s { draft = read_stamp s.hand.number at n (came tap') reply }) cell (read_stamp s.hand.number at n (came tap') reply) s''
        = subst (λ (y : PassState). EntersHeld y cell y.draft s'') (s_is ∙ ap (λ (m : ℕ). record s { draft = read_stamp s.hand.number at m (came tap') reply }) n_is) entered in record {
          entered = same_hand s (read_stamp s.hand.number at n (came tap') reply) (read_stamp s.hand.number at n (came tap') reply) (less_one cell s.hand.turns) s'' e.entered;
          crossed = subst (Crosses port host tap tap' (at_place (sub_of (plan_of s) at) (came tap'))) (sym (read_puts (plan_of s) (seals_of s) e.entered.past s.hand.number at n (came tap') reply e.entered.legal))
              (subst (λ (q : Plan). Crosses port host tap tap' (at_place (sub_of q at) (came tap')) []) k_is crossed);
          spoiled = spoiled;
        }

    -- a write that was stamped
    pub has_written : (k : Plan) (x : Seals) (who : ℕ) (new : List ℕ) (reply : Reply) (s' s'' : PassState) → k ≡ plan_of s → x ≡ seals_of s → who ≡ s.hand.number → s' ≡ record s { draft = write_stamp s.hand.number at new (came tap') reply }
        → EntersHeld s' cell s'.draft s''
        → Crosses port host tap tap' (at_place (sub_of k at) (came tap')) (sealed_by k x who at new (came tap') (part_of_page page) reply) → failed_block tap' ≡ spoiled_by reply (came tap')
        → AccessesHeld port host s tap at cell (Write at new) reply s'' tap'
    has_written k x who new reply s' s'' k_is x_is who_is s_is entered crossed spoiled =
        let d : Stamp = write_stamp s.hand.number at new (came tap') reply in
        let e : EntersHeld (record s { draft = d }) cell d s'' = subst (λ (y : PassState). EntersHeld y cell y.draft s'') s_is entered in
        let there : part_at (plan_of s) (seals_of s) e.entered.past (page_cell (plan_of s) (page_at (plan_of s) at)) ≡ part_of_page page
        = ap (part_at (plan_of s) (seals_of s) e.entered.past) (sym h.page.cell_is) ∙ (e.before ∙ sym (seen_part z s at n cell value page h is)) in
        let puts : sealed_by (plan_of s) (seals_of s) s.hand.number at new (came tap') (part_of_page page) reply ≡ puts_of (plan_of s) (seals_of s) d.entry e.entered.past
        = ap (page_puts (plan_of s) (seals_of s) d (page_at (plan_of s) at)) (sym there) ∙ puts_are (plan_of s) (seals_of s) e.entered.past s.hand.number (Op (Write at new)) (came tap') reply 0 e.entered.legal in record {
          entered = same_hand s d d (less_one cell s.hand.turns) s'' e.entered;
          crossed = subst (Crosses port host tap tap' (at_place (sub_of (plan_of s) at) (came tap'))) puts
              (subst (λ (y : Seals). Crosses port host tap tap' (at_place (sub_of (plan_of s) at) (came tap')) (sealed_by (plan_of s) y s.hand.number at new (came tap') (part_of_page page) reply)) x_is
              (subst (λ (q : Plan). Crosses port host tap tap' (at_place (sub_of q at) (came tap')) (sealed_by q x s.hand.number at new (came tap') (part_of_page page) reply)) k_is
              (subst (λ (w : ℕ). Crosses port host tap tap' (at_place (sub_of k at) (came tap')) (sealed_by k x w at new (came tap') (part_of_page page) reply)) who_is crossed)));
          spoiled = spoiled;
        }
