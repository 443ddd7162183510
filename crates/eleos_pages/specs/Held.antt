-- An access while the turn of its page is held.
use Rattle.std.specs.Prelude.{◌≡◌, ℕ, ◌<◌, List, [], ◌∷◌, false}
use Rattle.eleos_base.specs.declared.memory.Addr.{Addr}
use Rattle.eleos_base.specs.declared.memory.Op.{Op as Calls}
use Rattle.eleos_base.specs.declared.memory.Reply.{Reply}
use Rattle.eleos_base.specs.declared.plan.Plan.{Plan}
use Rattle.eleos_base.specs.Plain.{is_in_range}
use Rattle.eleos_base.specs.Plans.{IsCaller, enclave_of, sub_bytes}
use Rattle.eleos_base.specs.Ties.{Has}
use Rattle.eleos_core.specs.declared.event.Event.TheVariants.{Op}
use Rattle.eleos_core.specs.Applying.{stamp_of}
use Rattle.eleos_core.specs.Parts.{MayStep, Stamp, cell_of, foot, page_cell, the_page}
use Rattle.eleos_base.specs.Places.{subs}
use Rattle.eleos_plot.specs.declared.cell.Cell.{Cell}
use Rattle.eleos_plot.specs.Cells.{part_of_cell}
use Rattle.eleos_plot.specs.Fits.{IsPageCell}
use Rattle.eleos_plot.specs.Histories.{part_after}
use Rattle.eleos_turn.specs.Numbers.{less_one}
use Rattle.eleos_machine.specs.Machines.{Site, all_cells}
use Rattle.eleos_machine.specs.Passes.{PassState, part_seen, plan_of, seals_of}
use Rattle.eleos_core.specs.Accesses.{IsAccess, page_at}
use Rattle.eleos_pages.specs.Entered.{Enters}

-- the draft is a call that touches this cell alone, whose turn the pass has, and it is legal
pub record MayEnter (s : PassState) (cell : ℕ) : Type 0 where
  pub op : Calls
  pub event : s.draft.entry.event ≡ Op op
  pub own : s.draft.entry.who ≡ s.hand.number
  pub left : 0 < s.hand.left
  pub turn : Has cell s.hand.turns
  pub touches : foot (plan_of s) s.draft ≡ cell ∷ []
  pub legal : MayStep (plan_of s) (seals_of s) s.draft (part_seen s)

-- the draft was stamped, and the turn of the cell was given back, which nobody else touched before; other turns stay
pub record EntersHeld (s : PassState) (cell : ℕ) (d : Stamp) (s' : PassState) : Type 0 where
  pub entered : Enters s d (less_one cell s.hand.turns) s'
  pub before : part_after s.hand.home.base.grounds entered.past cell ≡ part_seen s cell

-- the stamp of an access
abbrev pub access_stamp : PassState → Calls → List (List ℕ) → Reply → Stamp
access_stamp s op blocks reply = stamp_of s.hand.number (Op op) blocks reply 0

-- an access of so many bytes is out of range
abbrev pub IsOutside : Plan → ℕ → Addr → ℕ → Type 0
IsOutside k who at n = let e = enclave_of k who in is_in_range (sub_bytes k e) e (subs k e) at n ≡ false

-- it is in range, and this is the number of the cell of its page, which is one of the machine's
pub record IsPageOf (k : Plan) (who : ℕ) (at : Addr) (n cell : ℕ) : Type 0 where
  pub range : IsAccess k who at n
  pub cell_is : cell ≡ page_cell k (page_at k at)
  pub the_page_is : cell_of k cell ≡ the_page (page_at k at)
  pub in_machine : cell < all_cells k

-- the pass is a caller's of this machine, has a stamp left, and has the turn of the page of an access, with its value
pub record HoldsPage (z : Site) (s : PassState) (at : Addr) (n cell : ℕ) (value : Cell) : Type 0 where
  pub own : s.hand.home ≡ z
  pub caller : IsCaller (plan_of s) s.hand.number
  pub left : 0 < s.hand.left
  pub turn : Has cell s.hand.turns
  pub page : IsPageOf (plan_of s) s.hand.number at n cell
  pub fits : IsPageCell (plan_of s) value
  pub part : part_of_cell value ≡ part_seen s cell
