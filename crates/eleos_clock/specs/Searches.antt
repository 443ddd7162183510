-- What a search among frames needs of a pass, and what it leaves of it.
use Rattle.std.specs.Prelude.{◌≡◌, ℕ, ◌<◌, ◌≤◌, [], Some, None}
use Rattle.eleos_base.specs.Ties.{Has}
use Rattle.eleos_core.specs.Parts.{frame_cell, page_cell}
use Rattle.eleos_base.specs.Places.{all_frames, all_pages}
use Rattle.eleos_plot.specs.Terms.{core_terms}
use Rattle.eleos_turn.specs.Hands.{Goes, links_on}
use Rattle.eleos_turn.specs.Numbers.{times}
use Rattle.eleos_machine.specs.declared.holding.ClockTurn.{ClockTurn}
use Rattle.eleos_machine.specs.Holding.{HasClock, frame_seen}
use Rattle.eleos_machine.specs.Machines.{Site}
use Rattle.eleos_machine.specs.Passes.{PassState, part_seen, plan_of}

-- the pass made no entry, and has the same draft, pins, links and pointers; of its notes only the words may differ; the cells whose turns it had are as they were
pub record Searches (s s' : PassState) : Type 0 where
  pub goes : Goes core_terms s.hand s'.hand []
  pub draft : s'.draft ≡ s.draft
  pub pins : s'.hand.pins ≡ s.hand.pins
  pub links : (c : ℕ) → links_on core_terms s'.hand c ≡ links_on core_terms s.hand c
  pub parts : (c : ℕ) → Has c s.hand.turns → part_seen s' c ≡ part_seen s c
  pub clean : (c : ℕ) → Has c s.hand.clean → Has c s'.hand.turns → Has c s'.hand.clean
  pub pointers : s'.pointers ≡ s.pointers
  pub since_stamp : s'.sweep.since_stamp ≡ s.sweep.since_stamp
  pub since_survey : s'.sweep.since_survey ≡ s.sweep.since_survey

-- the pass is of this machine and has a number, each of its pins covers a link, and of frames and present pages it has just the turns of this frame's
pub record MayLook (z : Site) (s : PassState) : Type 0 where
  pub own : s.hand.home ≡ z
  pub made : 0 < s.hand.number
  pub covered : (c : ℕ) → times c s.hand.pins ≤ links_on core_terms s.hand c
  pub absent : (p : ℕ) → p < all_pages (plan_of s) → Has (page_cell (plan_of s) p) s.hand.turns → frame_seen s p ≡ None

-- it has the turn of an enclave's clock cell, and of no frame
pub record MaySearch (z : Site) (s : PassState) (clock : ClockTurn) : Type 0 where
  pub look : MayLook z s
  pub no_frame : (f : ℕ) → f < all_frames (plan_of s) → Has (frame_cell (plan_of s) f) s.hand.turns → ⊥
  pub enclave : ℕ
  pub turn : HasClock s (Some enclave) clock
