-- A draft is stamped while the pass holds the cell of an enclave's live blocks and those of a block's pages.
use Rattle.std.specs.Prelude.{◌≡◌, ◌⊎◌, ℕ, ◌<◌, ◌≤◌, List, [], ◌∷◌, length}
use Rattle.eleos_base.specs.declared.memory.Live.{Live}
use Rattle.eleos_base.specs.declared.memory.Op.{Op as Calls}
use Rattle.eleos_base.specs.declared.plan.Plan.{Plan}
use Rattle.eleos_base.specs.Plans.{IsCaller, enclave_of}
use Rattle.eleos_base.specs.Ties.{Has}
use Rattle.eleos_core.specs.declared.allots.marks.Mark.{Mark}
use Rattle.eleos_core.specs.declared.event.Event.TheVariants.{Op}
use Rattle.eleos_core.specs.Legal.{CoreStep}
use Rattle.eleos_core.specs.Order.{AreInOrder}
use Rattle.eleos_core.specs.Parts.{MayStep, Part, alloc_cell, alloc_part, after_at, foot, page_cell}
use Rattle.eleos_base.specs.Places.{all_pages, subs}
use Rattle.eleos_core.specs.State.{History}
use Rattle.eleos_core.proofs.Allotting.{Marks}
use Rattle.eleos_plot.specs.Terms.{core_terms}
use Rattle.eleos_turn.specs.Hands.{Goes}
use Rattle.eleos_machine.specs.Machines.{Site, plan_at}
use Rattle.eleos_machine.specs.Notes.{after_entry}
use Rattle.eleos_machine.specs.Passes.{PassState, part_seen, plan_of, seals_of, seen}
use Rattle.eleos_alloc.specs.declared.runs.Run.{Run}
use Rattle.eleos_alloc.specs.Runs.{IsGoodRun, Touches, end_of}

-- the pass has the turn of the cell of the enclave's live blocks and no other, and these are the blocks
pub record HoldsBlocks (e : ℕ) (s : PassState) (blocks : List Live) : Type 0 where
  pub turns : s.hand.turns ≡ alloc_cell (plan_of s) e ∷ []
  pub part : part_seen s (alloc_cell (plan_of s) e) ≡ alloc_part blocks
  pub in_order : AreInOrder 0 (subs (plan_of s) e) blocks

-- the pass may call with that turn: it is a caller's of this machine and of that enclave, and has a stamp left
pub record CanCallWith (z : Site) (e : ℕ) (blocks : List Live) (s : PassState) : Type 0 where
  pub own : s.hand.home ≡ z
  pub caller : IsCaller (plan_at z) s.hand.number
  pub home : e ≡ enclave_of (plan_at z) s.hand.number
  pub left : 0 < s.hand.left
  pub holds : HoldsBlocks e s blocks

-- the pass has taken that turn, and has stamped nothing
pub record HasTaken (e : ℕ) (s : PassState) (blocks : List Live) (s' : PassState) : Type 0 where
  pub goes : Goes core_terms s.hand s'.hand []
  pub pins : s'.hand.pins ≡ s.hand.pins
  pub refused : s'.hand.refused ≡ s.hand.refused
  -- all but the hand stays
  pub rest : s' ≡ record s { hand = s'.hand }
  pub holds : HoldsBlocks e s' blocks

-- the cell is that of one of the pages from this one on, up to the end
pub record IsAhead (k : Plan) (page end c : ℕ) : Type 0 where
  pub number : ℕ
  pub from : page ≤ number
  pub below : number < end
  pub is : c ≡ page_cell k number

-- a page whose turn is still to be taken: its cell is in the entry's foot, the pass has not its turn, and the run has a sub-page of it
pub record IsToTake (s : PassState) (run : Run) (p : ℕ) : Type 0 where
  pub exists : p < all_pages (plan_of s)
  pub touches : Touches run p
  pub in_foot : Has (page_cell (plan_of s) p) (foot (plan_of s) s.draft)
  pub free : Has (page_cell (plan_of s) p) s.hand.turns → ⊥

-- the pass may stamp its draft, a call whose legality rests on the enclave's blocks alone, once it has the turns of the run's pages from this one on
pub record CanStampWith (s : PassState) (run : Run) (mark : Mark) (page : ℕ) : Type 0 where
  pub made : 0 < s.hand.number
  pub own : s.draft.entry.who ≡ s.hand.number
  pub left : 0 < s.hand.left
  pub op : Calls
  pub event : s.draft.entry.event ≡ Op op
  pub run_is : IsGoodRun run
  pub e : ℕ
  pub home : Has (alloc_cell (plan_of s) e) s.hand.turns
  pub legal : (b : ℕ → Part) → b (alloc_cell (plan_of s) e) ≡ part_seen s (alloc_cell (plan_of s) e) → MayStep (plan_of s) (seals_of s) s.draft b
  pub turns : (c : ℕ) → Has c (foot (plan_of s) s.draft) → Has c s.hand.turns ⊎ IsAhead (plan_of s) page (end_of run) c
  pub ahead : (p : ℕ) → page ≤ p → p < end_of run → IsToTake s run p
  pub within : page ≤ end_of run
  -- what the entry makes of the run's sub-pages is the mark
  pub marks : Marks (plan_of s) (seals_of s) mark s.draft op run.start run.len

-- the draft was stamped, at this place and legal after all entries before it; turns and pins are as before, and each cell that was held is what the entry makes of it
pub record HasStampedWith (s s' : PassState) : Type 0 where
  pub place : ℕ
  pub goes : Goes core_terms s.hand s'.hand ((place, s.draft) ∷ [])
  pub past : History
  pub sees : seen s' ≡ s.draft.entry ∷ past
  pub at : place ≡ length past
  pub legal : CoreStep (plan_of s) (seals_of s) past s.draft.entry
  pub turns : s'.hand.turns ≡ s.hand.turns
  pub pins : s'.hand.pins ≡ s.hand.pins
  pub refused : s'.hand.refused ≡ s.hand.refused
  -- all but the hand stays, and the notes are older by an entry
  pub rest : s' ≡ record s { hand = s'.hand; sweep = after_entry s.draft.entry.event s.sweep }
  pub touched : (c : ℕ) → Has c s.hand.turns → Has c (foot (plan_of s) s.draft) → part_seen s' c ≡ after_at (plan_of s) (seals_of s) s.draft (part_seen s) c
