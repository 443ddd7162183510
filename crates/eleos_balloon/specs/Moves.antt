-- A free frame that goes to another owner.
use Rattle.std.specs.Prelude.{◌≡◌, ℕ, ◌<◌, [], ◌∷◌, length}
use Rattle.eleos_core.specs.Legal.{CoreStep, IsActor, OneIsPool}
use Rattle.eleos_core.specs.Moves.{move_stamp}
use Rattle.eleos_core.specs.Parts.{frame_cell, owner_in}
use Rattle.eleos_base.specs.Places.{Owner}
use Rattle.eleos_core.specs.State.{History}
use Rattle.eleos_plot.specs.Terms.{core_terms}
use Rattle.eleos_turn.specs.Hands.{Goes, links_on}
use Rattle.eleos_turn.specs.Numbers.{less_one}
use Rattle.eleos_machine.specs.declared.holding.ClockTurn.{ClockTurn}
use Rattle.eleos_machine.specs.declared.holding.FreeFrame.{FreeFrame}
use Rattle.eleos_machine.specs.Holding.{HasClock, HasFree}
use Rattle.eleos_machine.specs.Passes.{PassState, part_seen, plan_of, seals_of, seen}
use Rattle.eleos_balloon.specs.Lists.{joined, left_by}

-- the pass has the turns of a free frame, of its owner's clock cell and of that of the owner to
-- come, one of which is the pool
pub record MayMove (s : PassState) (free : FreeFrame) (from : Owner) (from_clock : ClockTurn) (to : Owner) (to_clock : ClockTurn) : Type 0 where
  pub actor : IsActor (plan_of s) s.hand.number
  pub left : 0 < s.hand.left
  pub free_is : HasFree s free
  pub from_has : HasClock s from from_clock
  pub to_has : HasClock s to to_clock
  pub one_is_pool : OneIsPool from to
  pub owned : owner_in (part_seen s (frame_cell (plan_of s) free.frame)) ≡ from

-- the frame was moved by the pass's one new entry, and its turn given back. The lists are those
-- that the entry makes of them, and all else is as before.
pub record HasMoved (s : PassState) (f : ℕ) (from : Owner) (from_clock : ClockTurn) (to : Owner) (to_clock : ClockTurn) (s' : PassState) (from_clock' to_clock' : ClockTurn) : Type 0 where
  pub past : History
  pub goes : Goes core_terms s.hand s'.hand ((length past, move_stamp s.hand.number f from to) ∷ [])
  pub sees : seen s' ≡ (move_stamp s.hand.number f from to).entry ∷ past
  pub legal : CoreStep (plan_of s) (seals_of s) past (move_stamp s.hand.number f from to).entry
  pub from_is : from_clock' ≡ left_by f from_clock
  pub to_is : to_clock' ≡ joined f to_clock
  pub from_has : HasClock s' from from_clock'
  pub to_has : HasClock s' to to_clock'
  pub turns : s'.hand.turns ≡ less_one (frame_cell (plan_of s) f) s.hand.turns
  pub pins : s'.hand.pins ≡ s.hand.pins
  pub links : (c : ℕ) → links_on core_terms s'.hand c ≡ links_on core_terms s.hand c
  pub words : s'.sweep.words ≡ s.sweep.words
  pub since_survey : s'.sweep.since_survey ≡ s.sweep.since_survey
