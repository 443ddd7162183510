-- What a call on blocks needs of a pass, and what it does to it.
use Rattle.std.specs.Prelude.{◌≡◌, ℕ, ◌<◌, [], ◌∷◌, length}
use Rattle.eleos_base.specs.declared.memory.Op.{Op as Calls}
use Rattle.eleos_base.specs.declared.memory.Reply.{Reply}
use Rattle.eleos_base.specs.Plans.{IsCaller}
use Rattle.eleos_core.specs.declared.event.Event.TheVariants.{Op}
use Rattle.eleos_core.specs.Applying.{stamp_of}
use Rattle.eleos_core.specs.Legal.{CoreStep}
use Rattle.eleos_core.specs.State.{History, entry}
use Rattle.eleos_plot.specs.Terms.{core_terms}
use Rattle.eleos_turn.specs.Hands.{Goes, links_on}
use Rattle.eleos_machine.specs.Machines.{Site, plan_at}
use Rattle.eleos_machine.specs.Notes.{after_entry}
use Rattle.eleos_machine.specs.Passes.{PassState, plan_of, seals_of, seen}

-- the pass is a caller's of this machine, holds no turn, and has a stamp left
pub record CanCall (z : Site) (s : PassState) : Type 0 where
  pub own : s.hand.home ≡ z
  pub caller : IsCaller (plan_at z) s.hand.number
  pub idle : s.hand.turns ≡ []
  pub left : 0 < s.hand.left

-- the pass stamped just one entry, at this place: the call with this reply, which is legal after all entries before it
pub record HasCalled (s : PassState) (op : Calls) (reply : Reply) (s' : PassState) : Type 0 where
  pub place : ℕ
  -- the length of the block that it frees or shares, in sub-pages
  pub len : ℕ
  pub one : Goes core_terms s.hand s'.hand ((place, stamp_of s.hand.number (Op op) [] reply len) ∷ [])
  pub past : History
  pub sees : seen s' ≡ entry s.hand.number (Op op) [] reply ∷ past
  pub at : place ≡ length past
  pub legal : CoreStep (plan_of s) (seals_of s) past (entry s.hand.number (Op op) [] reply)
  pub turns : s'.hand.turns ≡ s.hand.turns
  pub pins : s'.hand.pins ≡ s.hand.pins
  pub links : (c : ℕ) → links_on core_terms s'.hand c ≡ links_on core_terms s.hand c
  pub refused : s'.hand.refused ≡ s.hand.refused
  -- all but the hand and the draft stays, and the notes are older by an entry
  pub rest : s' ≡ record s { hand = s'.hand; draft = s'.draft; sweep = after_entry (Op op) s.sweep }
